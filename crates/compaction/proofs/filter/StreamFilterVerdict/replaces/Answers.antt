-- Replace, and neither of the others.
use Rattle.compaction.specs.Turn.{meant, replaces}
use Rattle.compaction.proofs.Verdicts.{no-replacement}
use Rattle.compaction.proofs.filter.StreamFilterVerdict.replaces.Goals as goal

pub returns-in-Replace : goal.returns-in-Replace
unfolding meant replaces
returns-in-Replace c = rw c.in-Replace.is

pub returns-in_default : goal.returns-in_default
returns-in_default c = no-replacement _ c.in_default.not-Replace
