-- The invariant: the first i bytes are shared; so are those that the last word reaches back over.
use native.Mathlib.Omega.{arith}
use Rattle.list.proofs.Shared.{within, last}
use Rattle.list.proofs.key.shared_by_words.Goals as goal

pub returns-then-d-ne0 : goal.returns-then-d-ne0
returns-then-d-ne0 c =
    let e = c.differ-d.ensures.first c.if-d-ne0.true c.loop-i.invariant in
    omega arith

pub loop-i-preserved : goal.loop-i-preserved
loop-i-preserved c = c.differ-d.ensures.same c.if-d-ne0.false c.loop-i.invariant

pub returns : goal.returns
returns c =
    let (p, q) = within c.args.a.now c.args.b.now in
    let e = last _ _ _ c.differ.ensures.same c.differ.ensures.first (omega arith) (omega arith) in
    omega arith
