-- What is counted and what is left add up to the whole's figures, turn by turn.
use Prim.Native.Nat.{◌-◌}
use Rattle.compaction.specs.Compaction.{figures}
use Rattle.compaction.specs.Turn.{asked_by}
use Rattle.compaction.proofs.Pass.{Held, rest, fates_from}
use Rattle.compaction.proofs.Measuring.{Sums}
use Rattle.compaction.proofs.stream.measure.Given as goal

abbrev pub invariant-loop-number : goal.invariant-loop-number
invariant-loop-number g l =
    Held l.s l.held.from l.held.«record» (l.list.count - l.number)
    × Sums (fates_from l.job l.held.tail (rest (g.F.StreamFilter.verdict_on l.filter) l.number (l.list.count - l.number) l.s l.held.«record»)) l.f (figures l.job (asked_by (g.F.StreamFilter.verdict_on l.filter) l.s))
