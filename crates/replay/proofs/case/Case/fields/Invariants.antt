-- Each field that is passed leaves less of the case.
use Rattle.std.proofs.Common.{length}
use Rattle.replay.proofs.case.Case.fields.Given as goal

abbrev pub decreases-loop-left : goal.decreases-loop-left
decreases-loop-left l = length l.left.rest.now
