-- `drain_source` meets its contract: at each turn the record that leads is passed, and the next of its source leads if it has the key.
use Rattle.list.specs.Field.{words_in}
use Rattle.merge.specs.Plain.{left}
use Rattle.read.proofs.Keyed.{Turns}
use Rattle.read.proofs.mvcc_stream.drain_source.Given as goal

abbrev pub invariant-loop-x : goal.invariant-loop-x
invariant-loop-x l =
    Turns l.layout.bundle.bytes.now l.layout.bundle.lengths.now l.layout.bundle.index.now l.end l.snapshot l.initial.held l.initial.ends l.held l.ends l.x l.k l.best.twin

abbrev pub decreases-loop-x : goal.decreases-loop-x
decreases-loop-x l = left (words_in l.layout.bundle.lengths.now) l.ends
