-- All bytes of a slice are the slice.
use mathlib.Core.Path.{ap, ◌∙◌}
use native.Mathlib.Omega.{arith}
use lib.ListN.{length}
use lib.Seq.{sets, take_all}
use Rattle.list.proofs.writer.put_bytes.Goals as goal

pub returns : goal.returns
returns c = c.copy_bytes.ensures ∙ ap (sets c.args.t.now c.args.at) (take_all (length c.args.bytes.now) c.args.bytes.now (omega arith))
