-- What a read yields: all lists' versions, those at or above the snapshot removed, in order; the first of each key; tombstones gone; within the bounds.
use Rattle.std.specs.Prelude.{ℕ, List, [], ◌∷◌, Bool, not, ltb}
use Rattle.list.specs.Pick.{pick}
use Rattle.list.specs.ValueType.{is_tombstone}
use Rattle.list.specs.Version.{Version}
use Rattle.merge.specs.Placed.{Placed, same_key}
use Rattle.merge.specs.Merged.{everything, sort}
use Rattle.read.specs.Bounds.{Bound, within}

-- Strictly below the snapshot.
unfoldable pub visible : ℕ → Placed → Bool
visible snapshot x = ltb x.version.seqno snapshot

-- No tombstone of either kind.
unfoldable pub live : Placed → Bool
live x = not (is_tombstone x.version.kind)

-- Only those that pass a test.
unfoldable pub only : (Placed → Bool) → List Placed → List Placed
only t [] = []
only t (x ∷ xs) = pick (t x) (x ∷ only t xs) (only t xs)

-- The first of each key.
unfoldable pub firsts : List Placed → List Placed
firsts [] = []
firsts (x ∷ xs) = x ∷ only (λ y. not (same_key x y)) (firsts xs)

-- Of versions in order, the first visible one of each key; tombstones vanish.
unfoldable pub answers : (Placed → Bool) → List Placed → List Placed
answers t xs = only live (firsts (only t xs))

-- A read of several lists, within bounds, at a snapshot.
unfoldable pub entries : List (List Version) → Bound → Bound → ℕ → List Placed
entries lists lo hi snapshot = answers (visible snapshot) (sort (only (within lo hi) (everything lists)))
