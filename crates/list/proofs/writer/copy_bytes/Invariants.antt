-- The copy of what is left, at its place, is the copy of the whole.
use Prim.Native.Nat.{◌+◌, ◌-◌}
use mathlib.Core.Path.{◌≡◌}
use lib.ListN.{length, take, drop}
use lib.Seq.{sets}
use Rattle.list.proofs.writer.copy_bytes.Given as goal

abbrev pub invariant-loop-i : goal.invariant-loop-i
invariant-loop-i l =
    (length l.t ≡ length l.initial.t) × (sets l.t (l.at + l.i) (take (l.len - l.i) (drop (l.from + l.i) l.s)) ≡ sets l.initial.t l.at (take l.len (drop l.from l.s)))
