-- Cited by private contracts of the comparison, and where it is timed.
use Rattle.std.specs.Prelude.{ℕ, suc, List, [], ◌∷◌, eqb}
use Rattle.list.specs.Pick.{pick}
use Rattle.std.specs.declared.cmp.Ordering.{Ordering}
use Rattle.std.specs.declared.cmp.Ordering.TheVariants.{Less, Equal, Greater}

-- How many first bytes two keys share.
unfoldable pub shared : List ℕ → List ℕ → ℕ
shared [] b = 0
shared (x ∷ xs) [] = 0
shared (x ∷ xs) (y ∷ ys) = pick (eqb x y) (suc (shared xs ys)) 0

-- An order as a number: std's `ordering_index`, under the name that the contract of `timed_compare_keys` has.
unfoldable pub number : Ordering → ℕ
number Less = 0
number Equal = 1
number Greater = 2
