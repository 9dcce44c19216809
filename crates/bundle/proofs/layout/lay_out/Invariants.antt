-- After each turn one fence more is laid.
use mathlib.Core.Path.{◌≡◌}
use lib.ListN.{length}
use Rattle.std.specs.Prelude.{Some}
use Rattle.bundle.specs.Private.{fence, fence_at, lay}
use Rattle.bundle.proofs.layout.lay_out.Given as goal

abbrev pub invariant-loop-k : goal.invariant-loop-k
invariant-loop-k l =
    (length l.fences ≡ 17)
    × (Some l.at ≡ fence_at l.bundle.bytes.now l.bundle.lengths.now l.k)
    × (l.fences ≡ lay l.k (fence l.bundle.bytes.now l.bundle.lengths.now) l.initial.fences)
