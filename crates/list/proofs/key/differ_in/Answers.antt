-- While no bit of the words so far differs, their bytes are shared.
use native.Mathlib.Omega.{arith}
use Rattle.list.proofs.Zeros.{or-zero}
use Rattle.list.proofs.key.differ_in.Goals as goal

pub loop-word-preserved : goal.loop-word-preserved
loop-word-preserved g c = λ z h.
    let (p, q) = or-zero _ _ z in
    let s = c.differ-bits.ensures.same q (c.loop-word.invariant p h) in
    omega arith

pub returns : goal.returns
returns g c = λ z h. let s = c.loop-word.invariant z h in omega arith
