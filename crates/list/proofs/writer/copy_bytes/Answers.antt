-- The copy of what is left, at its place, is the copy of the whole.
use Prim.Native.Nat.{◌+◌, ◌-◌}
use mathlib.Core.Path.{sym, ◌∙◌}
use native.Mathlib.Omega.{arith}
use lib.ListN.{length-set}
use Rattle.list.proofs.Copy.{copy-none, copy-one}
use Rattle.list.proofs.writer.copy_bytes.Goals as goal

pub loop-i-preserved : goal.loop-i-preserved
loop-i-preserved c =
    let l = c.loop-i in
    let a = c.args in (
      simp length-set (omega arith),
      sym (copy-one a.s.now l.t (a.from + l.i) (a.at + l.i) (a.len - l.i) (a.from + (l.i + 1)) (a.at + (l.i + 1)) (a.len - (l.i + 1)) (omega arith) (omega arith) (omega arith) (omega arith)) ∙ l.invariant.1,
    )

pub returns : goal.returns
returns c =
    let l = c.loop-i in
    let a = c.args in
    sym (copy-none a.s.now l.t (a.from + l.i) (a.at + l.i) (a.len - l.i) (omega arith)) ∙ l.invariant.1
