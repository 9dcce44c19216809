-- Each block that is passed leaves fewer bytes.
use Rattle.std.specs.Prelude.{length}
use Rattle.replay.proofs.case.all_are.Given as goal

abbrev pub decreases-loop-block : goal.decreases-loop-block
decreases-loop-block l = length l.left
