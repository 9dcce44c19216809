-- What stands first says which of the three it is; a replacement is judged.
use Rattle.compaction.proofs.Verdicts.{v-plain, v-other, v-replace}
use Rattle.compaction.proofs.verdict_table.VerdictTable.is_verdict.Goals as goal

pub returns-then-what-lt2 : goal.returns-then-what-lt2
returns-then-what-lt2 c = v-plain _ _ _ _ c.word-what.ensures.value c.if-what-lt2.true

pub returns-then-what-ne2 : goal.returns-then-what-ne2
returns-then-what-ne2 c = v-other _ _ _ _ c.word-what.ensures.value c.if-what-lt2.false c.if-what-ne2.true

pub returns : goal.returns
returns c = v-replace _ _ _ _ c.word-what.ensures.value c.if-what-lt2.false c.if-what-ne2.false _ _ _ c.word-tag.ensures.value c.word-start.ensures.value c.word-length.ensures.value _ c.is_replacement.ensures
