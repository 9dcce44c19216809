-- `put_le` meets its contract: what the bytes left would write to the rest is what all of them write to the whole.
use Prim.Native.Nat.{◌+◌, ◌-◌}
use mathlib.Core.Path.{◌≡◌}
use lib.Seq.{sets}
use Rattle.list.specs.Field.{le_bytes}
use Rattle.list.proofs.field.put_le.Given as goal

abbrev pub invariant-loop-i : goal.invariant-loop-i
invariant-loop-i l = sets l.t (l.at + l.i) (le_bytes l.rest (l.n - l.i)) ≡ sets l.initial.t l.at (le_bytes l.v l.n)
