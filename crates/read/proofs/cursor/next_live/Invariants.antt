-- `next_live` meets its contract: what the definition makes of the rest is what it made of the whole, at each turn with a key less.
use mathlib.Core.Path.{◌≡◌}
use Rattle.list.specs.Field.{words_in}
use Rattle.merge.specs.Plain.{left, plain}
use Rattle.merge.specs.Private.{Fitting, reader_in, size_in}
use Rattle.read.specs.Entries.{visible}
use Rattle.read.specs.Mvcc.{step}
use Rattle.read.proofs.cursor.next_live.Given as goal

abbrev pub invariant-loop-entry : goal.invariant-loop-entry
invariant-loop-entry l =
    record {
      fits : Fitting (words_in l.layout.bundle.lengths.now) (size_in l.layout.bundle) l.ends;
      steps : step (plain (words_in l.layout.bundle.lengths.now) (reader_in l.layout.bundle)) l.end (visible l.snapshot) l.ends
          ≡ step (plain (words_in l.layout.bundle.lengths.now) (reader_in l.layout.bundle)) l.end (visible l.snapshot) l.initial.ends;
    }

abbrev pub decreases-loop-entry : goal.decreases-loop-entry
decreases-loop-entry l = left (words_in l.layout.bundle.lengths.now) l.ends
