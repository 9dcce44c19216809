-- The record read is the next one, and after the last there is none.
use native.Mathlib.Omega.{arith}
use Rattle.compaction.proofs.Deciding.{n-over, n-reads}
use Rattle.compaction.proofs.stream.next_of.Goals as goal

pub returns-then-left-eq0 : goal.returns-then-left-eq0
returns-then-left-eq0 c = n-over _ _ _ _ c.if-left-eq0.true c.no_record.ensures

pub returns : goal.returns
returns c = n-reads _ _ _ _ (omega arith) _ c.read_record.ensures _ c.no_record-2.ensures c.unwrap_or.ensures
