-- `le` meets its contract: each turn adds a byte, worth 256 times the one before it.
use mathlib.Core.Path.{◌≡◌}
use Rattle.list.specs.Field.{le_at}
use Rattle.list.proofs.field.le.Given as goal

abbrev pub invariant-loop-i : goal.invariant-loop-i
invariant-loop-i g l = l.number ≡ le_at l.s l.at l.i
