-- What is still to be compared decides as the whole does: an end that both have is left off.
use mathlib.Core.Path.{ap₂, refl, ◌∙◌}
use native.Mathlib.Omega.{arith}
use Rattle.list.specs.Order.{compare, is_equal}
use Rattle.list.proofs.ByStd.{starts-decide, ends-part, ends-agree}
use Rattle.list.proofs.key.without_ends.Goals as goal

pub returns-then-ne : goal.returns-then-ne
returns-then-ne g c =
    let p = c.in-Some-Some.ensures.cases in
    let q = c.in-Some-Some.ensures'.cases in
    ends-part _ _ _ _ _ p.1 q.1 c.if-ne.ensures ∙ c.loop-x_start.invariant.1

pub loop-x_start-init : goal.loop-x_start-init
loop-x_start-init g c = (c.requires.same_length, refl)

pub loop-x_start-preserved : goal.loop-x_start-preserved
loop-x_start-preserved g c =
    let x = c.loop-x_start.x.now in
    let y = c.loop-x_start.y.now in
    let p = c.in-Some-Some.ensures.cases in
    let q = c.in-Some-Some.ensures'.cases in (
      omega (arith, p.2, q.2, c.loop-x_start.invariant.0),
      ap₂ (λ s t. is_equal (compare s t)) p.0 q.0 ∙ starts-decide _ x y (ends-agree _ x y _ _ p.1 q.1 c.if-ne.ensures) ∙ c.loop-x_start.invariant.1,
    )

pub returns : goal.returns
returns g c = c.loop-x_start.invariant
