-- After each turn the walk has come one list further.
use mathlib.Core.Path.{◌≡◌}
use Rattle.std.specs.Prelude.{Some}
use Rattle.bundle.specs.Private.{fence_at}
use Rattle.bundle.proofs.look.Bundle.past_lists.Given as goal

abbrev pub invariant-loop-k : goal.invariant-loop-k
invariant-loop-k l = Some l.at ≡ fence_at l.self.bytes.now l.self.lengths.now l.k
