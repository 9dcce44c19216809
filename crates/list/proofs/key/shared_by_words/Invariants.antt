-- The invariant: the first i bytes are shared; so are those that the last word reaches back over.
use Prim.Native.Nat.{◌≤◌, ◌-◌}
use Rattle.list.specs.Shared.{shared}
use Rattle.list.proofs.key.shared_by_words.Given as goal

abbrev pub invariant-loop-i : goal.invariant-loop-i
invariant-loop-i l = l.i ≤ shared l.a l.b

abbrev pub decreases-loop-i : goal.decreases-loop-i
decreases-loop-i l = l.last - l.i
