-- All verdicts before the one looked at are; the first that is none ends the loop.
use mathlib.Core.Path.{◌≡◌}
use mathlib.Core.Bool.{true}
use Rattle.compaction.specs.Filter.{are_verdicts}
use Rattle.compaction.proofs.verdict_table.VerdictTable.are_verdicts.Given as goal

abbrev pub invariant-loop-i : goal.invariant-loop-i
invariant-loop-i l = are_verdicts l.i l.self.verdicts.now l.self.values.now ≡ true
