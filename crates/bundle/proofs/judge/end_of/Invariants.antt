-- The sum so far is where the next list starts.
use Prim.Native.Nat.{◌*◌, ◌≤◌}
use mathlib.Core.Path.{◌≡◌}
use Rattle.bundle.specs.Bundle.{start_at}
use Rattle.bundle.proofs.judge.end_of.Given as goal

abbrev pub invariant-loop-k : goal.invariant-loop-k
invariant-loop-k l = (l.end ≡ start_at l.lengths l.k) × (l.end ≤ 4294967296 * l.k)
