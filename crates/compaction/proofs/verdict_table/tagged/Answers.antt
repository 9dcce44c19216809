-- No tag is above 255; any other is a byte, and has an answer of its own.
use Rattle.compaction.proofs.Verdicts.{tag-high}
use Rattle.compaction.proofs.verdict_table.tagged.Goals as goal

pub returns-then-tag-gt255 : goal.returns-then-tag-gt255
returns-then-tag-gt255 c = tag-high _ c.if-tag-gt255.true
