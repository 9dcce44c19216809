-- `peek` meets its contract: after k sources the best is the best of k.
use Prim.Native.Nat.{◌<◌}
use mathlib.Core.Path.{◌∙◌}
use native.Mathlib.Omega.{arith}
use Rattle.std.proofs.lemmas.Result.{err_from_is_err_and}
use Rattle.list.specs.Field.{words_in}
use Rattle.bundle.proofs.Looking.{few-lists}
use Rattle.merge.proofs.Looking.{best-none, best-past, best-on, best-torn, list-lies, ends-room, next-is}
use Rattle.merge.proofs.plain.peek.Goals as goal
use Rattle.merge.proofs.plain.peek.Goals.{in-Some, in_default}

pub loop-k-init : goal.loop-k-init
loop-k-init c = best-none _ _ _

pub next_head-requires : goal.next_head-requires
next_head-requires c =
    let l = c.args.layout.now in
    let h : c.loop-k.k < words_in l.bundle.lengths.now = rw c.lists-k-end.ensures at c.loop-k-test.true in
    record {
      start_le_end = list-lies l _ h _ c.span.ensures;
      back_bound = rw c.left.ensures (ends-room l _ h _ c.span.ensures _ (c.requires.fitting.inside _ h));
    }

pub left-requires : goal.left-requires
left-requires c =
    let h : c.loop-k.k < words_in c.args.layout.now.bundle.lengths.now = rw c.lists-k-end.ensures at c.loop-k-test.true in
    omega (arith, few-lists _ _ _ c.args.layout.now.covered)

pub returns-in_err-y-clause-ahead : goal.returns-in_err-y-clause-ahead
returns-in_err-y-clause-ahead c =
    let p = err_from_is_err_and c.from_residual.result c.from_residual.ensures.1 in
    let l = c.args.layout.now in
    let h = (rw c.lists-k-end.ensures at c.loop-k-test.true) in
    (best-torn _ _ _ _ _ (c.in_err-y.ensures ∙ next-is l _ h _ c.span.ensures _ _ _ c.left.ensures) _ h _ _ p.1).0

pub returns-in_err-y-clause-twin : goal.returns-in_err-y-clause-twin
returns-in_err-y-clause-twin c =
    let p = err_from_is_err_and c.from_residual.result c.from_residual.ensures.1 in
    let l = c.args.layout.now in
    let h = (rw c.lists-k-end.ensures at c.loop-k-test.true) in
    (best-torn _ _ _ _ _ (c.in_err-y.ensures ∙ next-is l _ h _ c.span.ensures _ _ _ c.left.ensures) _ h _ _ p.1).1

pub loop-k-preserved : goal.loop-k-preserved
loop-k-preserved c =
    let so = c.loop-k.invariant in
    let l = c.args.layout.now in
    let h = (rw c.lists-k-end.ensures at c.loop-k-test.true) in
    let read = c.in_ok-y.ensures ∙ next-is l _ h _ c.span.ensures _ _ _ c.left.ensures in
    elim c.match-branch-2.branch [
      | in-Some w ↦ let e = w.better.ensures in rw w.best-is (best-on _ _ _ _ _ so _ read _ w.in-Some.is _ e.chosen e.twin)
      | in_default w ↦ rw w.best-is (best-past _ _ _ _ _ so _ read w.in_default.is)
    ]
