-- What is left to write, at its place, makes the same table as the whole.
use Prim.Native.Nat.{◌+◌, ◌-◌, ◌*◌, ◌≤◌}
use mathlib.Core.Path.{◌≡◌}
use lib.ListN.{length}
use lib.Seq.{sets}
use Rattle.list.specs.Limits.{header_size}
use Rattle.list.specs.Field.{words}
use Rattle.bundle.specs.Index.{starts}
use Rattle.bundle.proofs.index.fill_list.Given as goal

abbrev pub invariant-loop-i : goal.invariant-loop-i
invariant-loop-i l =
    (length l.index ≡ length l.initial.index)
    × (l.at ≤ length l.s)
    × (sets l.index (4 * l.i) (words (starts (l.first + l.count - l.i) l.s l.start l.at)) ≡ sets l.initial.index (4 * l.first) (words (starts l.count l.s l.start header_size)))
