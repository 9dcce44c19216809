-- `ends_stand` meets its contract: after k sources it has the definition's answer for k.
use mathlib.Core.Path.{◌≡◌}
use Rattle.read.specs.Cursor.{stands}
use Rattle.read.proofs.cursor.ends_stand.Given as goal

abbrev pub invariant-loop-k : goal.invariant-loop-k
invariant-loop-k l = l.all ≡ stands l.k l.layout.bundle.bytes.now l.layout.bundle.lengths.now l.ends
