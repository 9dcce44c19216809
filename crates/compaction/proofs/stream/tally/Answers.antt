-- The length is added, and one to each count whose test says yes.
use Rattle.compaction.specs.Turn.{counted, turned}
use Rattle.compaction.proofs.Measuring.{one-if}
use Rattle.compaction.proofs.stream.tally.Goals as goal

pub returns : goal.returns
unfolding counted turned
returns c = rw (c.from.ensures, c.from-2.ensures, c.drops.ensures, one-if, one-if)
