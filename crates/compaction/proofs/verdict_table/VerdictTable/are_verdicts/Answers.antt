-- All verdicts before the one looked at are; the first that is none ends the loop.
use native.Mathlib.Omega.{arith}
use Rattle.compaction.specs.Filter.{verdicts_in}
use Rattle.compaction.proofs.Verdicts.{all-other, all_none, all_one, verdicts-on, verdicts-nil}
use Rattle.compaction.proofs.verdict_table.VerdictTable.are_verdicts.Goals as goal

pub returns-then-n-count : goal.returns-then-n-count
returns-then-n-count c = all-other _ _ _ c.if-n-count.true

pub loop-i-init : goal.loop-i-init
loop-i-init c = verdicts-nil _ _

pub is_verdict-requires : goal.is_verdict-requires
unfolding verdicts_in
is_verdict-requires c = omega arith

pub returns-then-not-is_verdict : goal.returns-then-not-is_verdict
returns-then-not-is_verdict c = all_none _ _ _ _ c.if-n-count.false c.loop-i-test.true _ c.is_verdict.ensures c.if-not-is_verdict.true

pub loop-i-preserved : goal.loop-i-preserved
loop-i-preserved c = verdicts-on _ _ _ c.loop-i.invariant _ c.is_verdict.ensures c.if-not-is_verdict.false

pub returns : goal.returns
returns c = all_one _ _ _ _ c.if-n-count.false (omega arith) (omega arith) c.loop-i.invariant
