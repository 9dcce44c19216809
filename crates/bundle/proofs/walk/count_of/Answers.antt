-- The count stands inside the list's part.
use Prim.Native.Nat.{◌+◌, ◌-◌}
use mathlib.Core.Path.{◌∙◌}
use native.Mathlib.Nat.{add-sub_cancel_left}
use native.Mathlib.Omega.{arith}
use Rattle.list.proofs.Lent.{bytes-lent}
use Rattle.list.proofs.Parts.{part_length}
use Rattle.bundle.proofs.walk.count_of.Goals as goal

pub count_in-requires : goal.count_in-requires
count_in-requires c = omega (arith, part_length c.args.bundle.now c.args.start (c.args.start + c.args.len - c.args.start) (omega arith))

pub returns-clause-value : goal.returns-clause-value
returns-clause-value c = c.count_in.ensures.value ∙ rw add-sub_cancel_left

pub returns-clause-bytes : goal.returns-clause-bytes
returns-clause-bytes c = bytes-lent _ c.type_inv.bundle
