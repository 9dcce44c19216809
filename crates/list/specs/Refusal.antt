-- The refusal numbers, and what a refusal names.
use Rattle.std.specs.Prelude.{ℕ, Result, Err}
use Rattle.list.specs.declared.refusal.Refusal.{Refusal}
use Rattle.list.specs.declared.refusal.Refused.{Refused}
use Rattle.list.specs.declared.refusal.Refusal.TheVariants.{Truncated, BadMark, BadVersion, EmptyKey, LongKey, BadTag, Disorder, Excess, TooLarge, NoRoom, Unfit, BadVerdict}

unfoldable pub number_of : Refusal → ℕ
number_of Truncated = 1
number_of BadMark = 2
number_of BadVersion = 3
number_of EmptyKey = 4
number_of LongKey = 5
number_of BadTag = 6
number_of Disorder = 7
number_of Excess = 8
number_of TooLarge = 9
number_of NoRoom = 10
number_of Unfit = 11
number_of BadVerdict = 12

-- A refusal that names a list and a record.
abbrev pub refused : Refusal → ℕ → ℕ → Refused
refused why l r = record { refusal = why; list = l; «record» = r }

abbrev pub refuse : {A : Type 0} → Refusal → ℕ → ℕ → Result A Refused
refuse why l r = Err (refused why l r)
