-- What is left to write, at its place, makes the same table as the whole.
use Prim.Native.Nat.{◌-◌, ◌*◌}
use mathlib.Core.Path.{◌≡◌}
use lib.ListN.{length}
use lib.Seq.{sets}
use Rattle.list.specs.Field.{words, words_in}
use Rattle.bundle.specs.Bundle.{start_at}
use Rattle.bundle.specs.Index.{places}
use Rattle.bundle.specs.Look.{base_at}
use Rattle.bundle.proofs.index.fill_index.Given as goal

abbrev pub invariant-loop-k : goal.invariant-loop-k
invariant-loop-k l =
    (length l.index ≡ length l.initial.index)
    × (l.start ≡ start_at l.lengths l.k)
    × (l.first ≡ base_at l.bundle l.lengths l.k)
    × (sets l.index (4 * base_at l.bundle l.lengths l.k) (words (places (words_in l.lengths - l.k) l.bundle l.lengths l.k)) ≡ sets l.initial.index 0 (words (places (words_in l.lengths) l.bundle l.lengths 0)))
