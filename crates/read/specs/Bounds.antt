-- Bounds on user keys.
use Rattle.std.specs.Prelude.{ℕ, List, Bool, true, not, ◌&&◌}
use Rattle.std.specs.Borrow.{Bor}
use Rattle.std.specs.Range.Bound.{bound_map}
use Rattle.std.specs.declared.ops.Bound as bounds
use Rattle.std.specs.declared.ops.Bound.TheVariants.{Included, Excluded, Unbounded}
use Rattle.list.specs.Order.{compare, is_less}
use Rattle.merge.specs.Placed.{Placed}

-- Included or excluded, with a key's bytes, or none.
abbrev pub Bound : Type 0
Bound = bounds.Bound (List ℕ)

-- A bound as it is given, by the bytes lent with it.
unfoldable pub bound_of : bounds.Bound (Bor (List ℕ)) → Bound
bound_of b = bound_map (λ k. k.now) b

-- The keys that a lower bound admits, and those that an upper bound admits.
unfoldable pub from_lower : Bound → List ℕ → Bool
from_lower (Included b) k = not (is_less (compare k b))
from_lower (Excluded b) k = is_less (compare b k)
from_lower Unbounded k = true

unfoldable pub to_upper : Bound → List ℕ → Bool
to_upper (Included b) k = not (is_less (compare b k))
to_upper (Excluded b) k = is_less (compare k b)
to_upper Unbounded k = true

-- A key within both.
unfoldable pub within : Bound → Bound → Placed → Bool
within lo hi x = from_lower lo x.version.key && to_upper hi x.version.key
