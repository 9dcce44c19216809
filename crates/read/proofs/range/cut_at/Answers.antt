-- `cut_at` meets its contract: whatever is behind n is 255, so the prefix up to n is cut where the whole is.
use native.Mathlib.Omega.{arith}
use Rattle.read.proofs.Cut.{cut_all, cut-found, cut_on, cut-nowhere}
use Rattle.read.proofs.range.cut_at.Goals as goal

pub loop-n-init : goal.loop-n-init
loop-n-init c = cut_all _

pub returns-then-prefix-n-lt255-clause-cut : goal.returns-then-prefix-n-lt255-clause-cut
returns-then-prefix-n-lt255-clause-cut c =
    omega (arith, cut-found _ _ c.loop-n-test.true c.loop-n.auto.n c.loop-n.invariant c.if-prefix-n-lt255.true)

pub loop-n-preserved : goal.loop-n-preserved
loop-n-preserved c = cut_on _ _ c.loop-n-test.true c.loop-n.auto.n c.loop-n.invariant c.if-prefix-n-lt255.false

pub returns-clause-cut : goal.returns-clause-cut
returns-clause-cut c = cut-nowhere _ c.loop-n.n (omega arith) c.loop-n.invariant
