-- The tag's own answer tells the kind.
use mathlib.Core.Path.{◌∙◌}
use Rattle.compaction.proofs.Verdicts.{kind-is}
use Rattle.compaction.proofs.verdict_table.kind_of.Goals as goal

pub returns : goal.returns
returns c = c.unwrap_or.ensures ∙ kind-is _ _ c.tagged.ensures
