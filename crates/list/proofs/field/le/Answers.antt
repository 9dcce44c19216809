-- `le` meets its contract: each turn adds a byte, worth 256 times the one before it.
use native.Mathlib.Omega.{arith}
use mathlib.Core.Path.{◌≡◌, refl}
use Rattle.list.specs.Field.{le_at}
use Rattle.list.specs.Version.{Bytes}
use Rattle.list.proofs.Numbers.{le-bound, le_more, le-fits}
use Rattle.list.proofs.field.le.Goals as goal

pub loop-i-init : goal.loop-i-init
unfolding le_at
loop-i-init g c = refl

pub overflow_add-number-in-loop-i : goal.overflow_add-number-in-loop-i
unfolding Bytes
overflow_add-number-in-loop-i g c =
    let a = c.args in
    let p : Bytes a.s.now = λ i. omega (arith, c.type_inv.s i) in
    omega (arith, le_more a.s.now a.at c.loop-i.i p (omega arith) _ c.loop-i.invariant, le-fits a.s.now a.at c.loop-i.i p (omega arith))

pub loop-i-preserved : goal.loop-i-preserved
unfolding Bytes
loop-i-preserved g c =
    let a = c.args in
    let p : Bytes a.s.now = λ i. omega (arith, c.type_inv.s i) in
    le_more a.s.now a.at c.loop-i.i p (omega arith) _ c.loop-i.invariant

pub returns : goal.returns
unfolding Bytes
returns g c =
    let a = c.args in
    let p : Bytes a.s.now = λ i. omega (arith, c.type_inv.s i) in
    let e : c.loop-i.i ≡ g.row.N = omega arith in
    let v : c.loop-i.number ≡ le_at a.s.now a.at g.row.N = rw (← e) c.loop-i.invariant in
    record { value = v; upper_bound = omega (arith, le-bound g.row.N a.s.now a.at p) }
