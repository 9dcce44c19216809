-- The invariant: the blocks so far are shared.
use native.Mathlib.Omega.{arith}
use Rattle.list.proofs.key.same_blocks.Goals as goal

pub loop-block-preserved : goal.loop-block-preserved
loop-block-preserved c =
    let s = c.differ_in.ensures c.if-differ_in-ne0.false c.loop-block.invariant in
    omega arith
