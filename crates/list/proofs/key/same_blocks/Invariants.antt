-- The invariant: the blocks so far are shared.
use Prim.Native.Nat.{◌*◌, ◌≤◌}
use Rattle.list.specs.Shared.{shared}
use Rattle.list.proofs.key.same_blocks.Given as goal

abbrev pub invariant-loop-block : goal.invariant-loop-block
invariant-loop-block l = 64 * l.block ≤ shared l.a l.b
