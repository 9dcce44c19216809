-- The order of keys, and of versions.
use Rattle.std.specs.Prelude.{ℕ, List, [], ◌∷◌, Bool, true, false, ltb}
use Rattle.list.specs.Pick.{pick}
use Rattle.std.specs.declared.cmp.Ordering.{Ordering}
use Rattle.std.specs.declared.cmp.Ordering.TheVariants.{Less, Equal, Greater}

-- Keys: ascending bytewise, a proper prefix first.
unfoldable pub compare : List ℕ → List ℕ → Ordering
compare [] [] = Equal
compare [] (y ∷ ys) = Less
compare (x ∷ xs) [] = Greater
compare (x ∷ xs) (y ∷ ys) = pick (ltb x y) Less (pick (ltb y x) Greater (compare xs ys))

-- Seqnos: descending.
unfoldable pub downward : ℕ → ℕ → Ordering
downward m n = pick (ltb n m) Less (pick (ltb m n) Greater Equal)

-- A second comparison decides where the first says Equal.
-- It is std's `ordering_then`; contracts and pages have this name, and the two below.
unfoldable pub then_by : Ordering → Ordering → Ordering
then_by Less o = Less
then_by Equal o = o
then_by Greater o = Greater

-- Versions: key ascending, then seqno descending.
unfoldable pub versions : List ℕ → ℕ → List ℕ → ℕ → Ordering
versions a m b n = then_by (compare a b) (downward m n)

-- std's `is_lt`
unfoldable pub is_less : Ordering → Bool
is_less Less = true
is_less Equal = false
is_less Greater = false

-- std's `is_eq`
unfoldable pub is_equal : Ordering → Bool
is_equal Less = false
is_equal Equal = true
is_equal Greater = false
