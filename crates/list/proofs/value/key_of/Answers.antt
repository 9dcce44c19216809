-- The part from the key's start to its end is the key, and begins where the key does.
use mathlib.Core.Path.{refl}
use native.Mathlib.Nat.{add-sub_cancel_left}
use Rattle.list.specs.Record.{key_of}
use Rattle.list.proofs.Parts.{part-begins}
use Rattle.list.proofs.value.key_of.Goals as goal

pub returns : goal.returns
unfolding key_of
returns c =
    record { result_value = rw add-sub_cancel_left; ref_ptr_value = part-begins _ _ _ refl }
