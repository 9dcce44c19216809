-- Four entries of four bytes make a verdict.
use native.Mathlib.Omega.{arith}
use Rattle.list.specs.Field.{words_in}
use Rattle.compaction.specs.Filter.{verdicts_in}
use Rattle.compaction.proofs.verdict_table.VerdictTable.word.Goals as goal

pub overflow_mul-i : goal.overflow_mul-i
unfolding verdicts_in
overflow_mul-i c = omega (arith, c.requires)

pub overflow_add-i : goal.overflow_add-i
unfolding verdicts_in
overflow_add-i c = omega (arith, c.requires)

pub word_at-requires : goal.word_at-requires
unfolding verdicts_in words_in
word_at-requires c = omega (arith, c.requires)
