-- What is left to judge, with the records counted so far, comes to the same verdict as the whole.
use Prim.Native.Nat.{◌+◌, ◌<◌}
use Rattle.list.specs.Field.{words_in}
use mathlib.Core.Path.{◌≡◌, refl, sym, ap, ◌∙◌}
use Rattle.std.specs.Prelude.{Err}
use native.Mathlib.Omega.{arith}
use Rattle.std.proofs.lemmas.Result.{err_from_is_err_and}
use borrow.Author.Rules.{rules}
use Rattle.list.specs.Refusal.{refused}
use native.Mathlib.Nat.{sub-zero}
use Rattle.bundle.specs.Bundle.{start_at}
use Rattle.bundle.proofs.Starts.{Part, part}
use Rattle.bundle.proofs.Judging.{list-few, judge-on, judge-stops, ends, same-ok, mapped-err}
use Rattle.bundle.proofs.judge.judge_lists.Goals as goal
use Rattle.bundle.proofs.judge.judge_lists.Goals.{After-word_at}

pub loop-k-init : goal.loop-k-init
unfolding start_at
loop-k-init c = (omega arith, refl, rw sub-zero)

pub word_at-requires : goal.word_at-requires
word_at-requires c = omega (arith, c.words_in-n.ensures)

-- the list of this turn
here : (c : After-word_at) → Part c.args.bundle.now c.args.lengths.now c.loop-k.k c.loop-k.start (c.loop-k.start + c.word_at.result)
here c = part _ _ _ c.requires _ (omega (arith, c.words_in-n.ensures)) _ _ c.loop-k.invariant.1 c.word_at.ensures.value

pub overflow_add-end : goal.overflow_add-end
overflow_add-end c = let p = here (goal.at.overflow_add-end c).After-word_at in omega (arith, p.inside)

pub slice_bounds-check_list-end : goal.slice_bounds-check_list-end
slice_bounds-check_list-end c = (here (goal.at.slice_bounds-check_list-end c).After-word_at).inside

pub overflow_add-total : goal.overflow_add-total
overflow_add-total c =
    let p = here (goal.at.overflow_add-total c).After-word_at in
    let e = same-ok _ _ c.in_ok-total.ensures.cases in
    let f = list-few _ _ _ _ p.list _ c.check_list.ensures.value _ c.requires (omega (arith, c.words_in-n.ensures)) _ e in
    omega (arith, f)

pub returns-in_err-total : goal.returns-in_err-total
returns-in_err-total c =
    let p = here (goal.at.returns-in_err-total c).After-word_at in
    let x = err_from_is_err_and c.from_residual.result c.from_residual.ensures.1 in
    let e = mapped-err _ _ _ c.in_err-total.ensures.cases in
    let d : c.in_err-total.field-0.0 ≡ refused e.0.refusal c.loop-k.k e.0.«record» = search (rules, e.2) in
    let m : c.loop-k.k < words_in c.args.lengths.now = omega (arith, c.words_in-n.ensures) in
    rw (x.1, x.2) (ap Err d ∙ judge-stops _ _ _ _ p.list _ c.check_list.ensures.value _ _ m _ c.loop-k.invariant.2 _ e.1)

pub loop-k-preserved : goal.loop-k-preserved
loop-k-preserved c =
    let p = here (goal.at.loop-k-preserved c).After-word_at in
    let v = c.check_list.ensures.value in
    let e = same-ok _ _ c.in_ok-total.ensures.cases in
    let f = list-few _ _ _ _ p.list _ v _ c.requires (omega (arith, c.words_in-n.ensures)) _ e in
    (omega (arith, f), p.next, judge-on _ _ _ _ p.list _ v _ _ (omega (arith, c.words_in-n.ensures)) _ c.loop-k.invariant.2 _ e)

pub returns : goal.returns
returns c = sym (ends _ _ _ _ _ (omega (arith, c.words_in-n.ensures))) ∙ c.loop-k.invariant.2
