-- While no bit of the words so far differs, their bytes are shared.
use Prim.Native.Nat.{◌+◌, ◌*◌, ◌≤◌}
use mathlib.Core.Path.{◌≡◌}
use Rattle.list.specs.Shared.{shared}
use Rattle.list.proofs.key.differ_in.Given as goal

abbrev pub invariant-loop-word : goal.invariant-loop-word
invariant-loop-word g l = l.bits ≡ 0 → l.fn.i ≤ shared l.a l.b → l.fn.i + 8 * l.word ≤ shared l.a l.b
