-- `begin` meets its contract: 11, then the two bounds, each under its test.
use mathlib.Core.Path.{sym, ap, ◌∙◌}
use Rattle.std.proofs.lemmas.Result.{err_from_is_err_and}
use Rattle.list.specs.Refusal.{refused}
use Rattle.read.proofs.Laid.{not-laid, laid-out}
use Rattle.read.proofs.Beginnings.{begin-uncovered, begin-torn, begin-long, begin-short}
use Rattle.read.proofs.begin.begin.Goals as goal

pub returns-in_err-layout : goal.returns-in_err-layout
returns-in_err-layout c =
    let n = not-laid _ _ c.of.ensures.covering c.of.ensures.same_bundle _ c.ok_or.ensures.value _ c.in_err-layout.was in
    let p = err_from_is_err_and c.from_residual.result c.from_residual.ensures.1 in
    rw p.1 (begin-uncovered _ _ _ _ _ n.1 _ (p.2 ∙ ap (λ why. refused why 0 0) n.0))

pub returns-in_err-ends : goal.returns-in_err-ends
returns-in_err-ends c =
    let l = laid-out _ _ c.of.ensures.covering c.of.ensures.same_bundle _ c.ok_or.ensures.value _ c.in_ok-layout.was in
    let p = err_from_is_err_and c.from_residual-in_err-ends.result c.from_residual-in_err-ends.ensures.1 in
    rw (p.1, sym l) (begin-torn _ _ _ _ _ c.in_ok-layout.layout.covered _ c.start_lists.ensures _ c.in_err-ends.was _ p.2)

pub returns-then-are_overlong : goal.returns-then-are_overlong
returns-then-are_overlong c =
    let l = laid-out _ _ c.of.ensures.covering c.of.ensures.same_bundle _ c.ok_or.ensures.value _ c.in_ok-layout.was in
    rw (sym l) (begin-long _ _ _ _ _ c.in_ok-layout.layout.covered _ c.start_lists.ensures _ c.in_ok-ends.was _ c.are_overlong.ensures c.if-are_overlong.true _ c.into.ensures)

pub returns : goal.returns
returns c =
    let l = laid-out _ _ c.of.ensures.covering c.of.ensures.same_bundle _ c.ok_or.ensures.value _ c.in_ok-layout.was in
    rw (sym l) (begin-short _ _ _ _ _ c.in_ok-layout.layout.covered _ c.start_lists.ensures _ c.in_ok-ends.was _ c.are_overlong.ensures c.if-are_overlong.false)
