-- The invariant: the first i bytes are shared.
use mathlib.Core.Path.{sym}
use native.Mathlib.Omega.{arith}
use Rattle.list.proofs.Shared.{within, same_byte, other_byte}
use Rattle.list.proofs.key.shared_by_bytes.Goals as goal

pub returns-then-a-i : goal.returns-then-a-i
returns-then-a-i c =
    let s = c.args in
    sym (other_byte s.a.now s.b.now _ (omega arith) (omega arith) c.loop-i.invariant c.if-a-i.true)

pub loop-i-preserved : goal.loop-i-preserved
loop-i-preserved c =
    let s = c.args in
    same_byte s.a.now s.b.now _ (omega arith) (omega arith) c.loop-i.invariant c.if-a-i.false

pub returns : goal.returns
returns c =
    let (p, q) = within c.args.a.now c.args.b.now in
    omega arith
