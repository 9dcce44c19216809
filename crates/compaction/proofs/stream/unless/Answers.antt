-- The test tells which of the two it is.
use Rattle.compaction.specs.Turn.{meant}
use Rattle.compaction.proofs.Deciding.{u-goes, u-stays}
use Rattle.compaction.proofs.stream.unless.Goals as goal

pub returns-then-goes : goal.returns-then-goes
unfolding meant
returns-then-goes c = u-goes _ _ c.if-goes.true

pub returns : goal.returns
returns c = u-stays _ _ c.if-goes.false
