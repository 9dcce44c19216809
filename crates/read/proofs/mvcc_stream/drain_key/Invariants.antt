-- `drain_key` meets its contract: what the definition makes of the rest is what it made of the whole, at each turn with fewer records.
use mathlib.Core.Path.{◌≡◌}
use mathlib.Core.Option.{none}
use Rattle.list.specs.Field.{words_in}
use Rattle.merge.specs.Plain.{left, plain}
use Rattle.merge.specs.Private.{Fitting, reader_in, size_in}
use Rattle.read.specs.Entries.{visible}
use Rattle.read.specs.Mvcc.{drain}
use Rattle.read.specs.Private.{held_of, Sure}
use Rattle.read.proofs.mvcc_stream.drain_key.Given as goal

abbrev pub invariant-loop-best : goal.invariant-loop-best
invariant-loop-best l =
    record {
      fits : Fitting (words_in l.layout.bundle.lengths.now) (size_in l.layout.bundle) l.ends;
      drains : drain (left (words_in l.layout.bundle.lengths.now) l.ends) (plain (words_in l.layout.bundle.lengths.now) (reader_in l.layout.bundle)) l.end (visible l.snapshot) (held_of l.held) l.ends
          ≡ drain (left (words_in l.layout.bundle.lengths.now) l.initial.ends) (plain (words_in l.layout.bundle.lengths.now) (reader_in l.layout.bundle)) l.end (visible l.snapshot) none l.initial.ends;
      sure : Sure l.layout.bundle.bytes.now l.layout.bundle.lengths.now l.layout.bundle.index.now l.end (held_of l.held) l.ends l.asks;
    }

abbrev pub decreases-loop-best : goal.decreases-loop-best
decreases-loop-best l = left (words_in l.layout.bundle.lengths.now) l.ends
