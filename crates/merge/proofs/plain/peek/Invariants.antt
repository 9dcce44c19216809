-- `peek` meets its contract: after k sources the best is the best of k.
use Rattle.merge.specs.Private.{reader_in}
use Rattle.merge.proofs.Looking.{BestOf}
use Rattle.merge.proofs.plain.peek.Given as goal

abbrev pub invariant-loop-k : goal.invariant-loop-k
invariant-loop-k l = BestOf l.end (reader_in l.layout.bundle) l.ends l.k l.best
