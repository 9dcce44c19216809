-- The part from the value's start to its end is the value, and begins where the value does.
use mathlib.Core.Path.{refl}
use native.Mathlib.Nat.{add-sub_cancel_left}
use Rattle.list.specs.Record.{value_of}
use Rattle.list.proofs.Parts.{part-begins}
use Rattle.list.proofs.value.value_of.Goals as goal

pub returns : goal.returns
unfolding value_of
returns c =
    record { result_value = rw add-sub_cancel_left; ref_ptr_value = part-begins _ _ _ refl }
