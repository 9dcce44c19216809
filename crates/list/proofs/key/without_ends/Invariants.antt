-- What is still to be compared decides as the whole does: an end that both have is left off.
use mathlib.Core.Path.{◌≡◌}
use lib.ListN.{length}
use Rattle.list.specs.Order.{compare, is_equal}
use Rattle.list.proofs.key.without_ends.Given as goal

abbrev pub invariant-loop-x_start : goal.invariant-loop-x_start
invariant-loop-x_start g l = (length l.x ≡ length l.y) × (is_equal (compare l.x l.y) ≡ is_equal (compare l.a l.b))

abbrev pub decreases-loop-x_start : goal.decreases-loop-x_start
decreases-loop-x_start g l = length l.x
