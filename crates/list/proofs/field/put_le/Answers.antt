-- `put_le` meets its contract: what the bytes left would write to the rest is what all of them write to the whole.
use Prim.Native.Nat.{◌+◌, ◌-◌}
use mathlib.Core.Path.{sym, ◌∙◌}
use native.Mathlib.Omega.{arith}
use Rattle.list.proofs.Numbers.{put-none, put_one}
use Rattle.list.proofs.field.put_le.Goals as goal

pub loop-i-preserved : goal.loop-i-preserved
loop-i-preserved c =
    let l = c.loop-i in
    let at = c.args.at + l.i in
    let left = c.args.n - l.i in
    sym (put_one l.t at l.rest left (c.args.at + (l.i + 1)) (c.args.n - (l.i + 1)) (omega arith) (omega arith)) ∙ l.invariant

pub returns : goal.returns
returns c =
    let l = c.loop-i in
    sym (put-none l.t (c.args.at + l.i) l.rest (c.args.n - l.i) (omega arith)) ∙ l.invariant
