-- Drop, and neither of the others.
use Rattle.compaction.specs.Turn.{meant, drops}
use Rattle.compaction.proofs.Verdicts.{no-drop}
use Rattle.compaction.proofs.filter.StreamFilterVerdict.drops.Goals as goal

pub returns-in-Drop : goal.returns-in-Drop
unfolding meant drops
returns-in-Drop c = rw c.in-Drop.is

pub returns-in_default : goal.returns-in_default
returns-in_default c = no-drop _ c.in_default.not-Drop
