-- What is left to judge, with the records counted so far, comes to the same verdict as the whole.
use Prim.Native.Nat.{◌-◌, ◌≤◌}
use mathlib.Core.Path.{◌≡◌}
use Rattle.list.specs.Field.{words_in}
use Rattle.bundle.specs.Bundle.{start_at, judge_from}
use Rattle.bundle.proofs.judge.judge_lists.Given as goal

abbrev pub invariant-loop-k : goal.invariant-loop-k
invariant-loop-k l =
    (l.total ≤ start_at l.lengths l.k)
    × (l.start ≡ start_at l.lengths l.k)
    × (judge_from (words_in l.lengths - l.k) l.bundle l.lengths l.k l.total ≡ judge_from (words_in l.lengths) l.bundle l.lengths 0 0)
