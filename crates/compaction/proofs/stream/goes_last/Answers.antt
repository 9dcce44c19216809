-- The kind's own answer tells the second half of the test.
use Rattle.compaction.proofs.stream.goes_last.Goals as goal

pub returns : goal.returns
returns c = rw c.is_tombstone.ensures
