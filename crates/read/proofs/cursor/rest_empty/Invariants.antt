-- `rest_empty` meets its contract: after k sources it has the definition's answer for k.
use mathlib.Core.Path.{◌≡◌}
use Rattle.read.specs.Private.{empty_to}
use Rattle.read.proofs.cursor.rest_empty.Given as goal

abbrev pub invariant-loop-k : goal.invariant-loop-k
invariant-loop-k l = l.all ≡ empty_to l.k l.first l.ends.front l.ends.back
