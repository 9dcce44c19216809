-- Taking from the two ends of a list, in any mix: what the theorem of demand 2 speaks of.
use Rattle.std.specs.Prelude.{List, [], ◌∷◌, None, Some, Ok}
use Rattle.list.specs.Refusal.{refuse}
use Rattle.list.specs.declared.refusal.Refusal.TheVariants.{Unfit}
use Rattle.merge.specs.Placed.{Placed}
use Rattle.merge.specs.Merge.{Reply, Nothing, Found, Torn}
use Rattle.merge.specs.declared.ends.End.{End}
use Rattle.merge.specs.declared.ends.End.TheVariants.{Front, Back}
use Rattle.read.specs.Cursor.{Step}

-- Front steps take the first entry left, back steps the last; when none is left, a step gives nothing.
unfoldable pub taken : End → List Placed → Reply Placed
taken e [] = Nothing
taken Front (x ∷ xs) = Found x
taken Back (x ∷ []) = Found x
taken Back (x ∷ y ∷ xs) = taken Back (y ∷ xs)

-- The others.
unfoldable pub others : End → List Placed → List Placed
others e [] = []
others Front (x ∷ xs) = xs
others Back (x ∷ []) = []
others Back (x ∷ y ∷ xs) = x ∷ others Back (y ∷ xs)

unfoldable pub taking : List End → List Placed → List (Reply Placed)
taking [] xs = []
taking (e ∷ es) xs = taken e xs ∷ taking es (others e xs)

-- An entry, as a step gives it: list and record.
unfoldable pub step_for : Reply Placed → Step
step_for Nothing = Ok None
step_for (Found x) = Ok (Some (record { list = x.list; «record» = x.number }))
step_for Torn = refuse Unfit 0 0
