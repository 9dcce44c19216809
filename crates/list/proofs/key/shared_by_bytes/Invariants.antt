-- The invariant: the first i bytes are shared.
use Prim.Native.Nat.{◌≤◌}
use Rattle.list.specs.Shared.{shared}
use Rattle.list.proofs.key.shared_by_bytes.Given as goal

abbrev pub invariant-loop-i : goal.invariant-loop-i
invariant-loop-i l = l.i ≤ shared l.a l.b
