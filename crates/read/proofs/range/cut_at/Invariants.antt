-- `cut_at` meets its contract: whatever is behind n is 255, so the prefix up to n is cut where the whole is.
use mathlib.Core.Path.{◌≡◌}
use lib.ListN.{take}
use Rattle.read.specs.Prefix.{cut_at}
use Rattle.read.proofs.range.cut_at.Given as goal

abbrev pub invariant-loop-n : goal.invariant-loop-n
invariant-loop-n l = cut_at (take l.n l.prefix) ≡ cut_at l.prefix
