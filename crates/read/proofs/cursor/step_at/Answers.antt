-- `step_at` meets its contract: 11 where the cursor does not stand on the bundle, and else what the next entry is.
use mathlib.Core.Path.{sym, ap, ◌∙◌}
use borrow.Author.Rules.{rules}
use Rattle.std.specs.Prelude.{Ok}
use Rattle.std.proofs.lemmas.Result.{err_from_is_err_and}
use Rattle.list.specs.Refusal.{refused}
use Rattle.bundle.specs.Bundle.{bundle_limit}
use Rattle.read.specs.Cursor.{ends_of}
use Rattle.read.proofs.Laid.{not-laid, laid-out}
use Rattle.read.proofs.Standing.{steady-fits}
use Rattle.read.proofs.Strides.{stride-unfit, stride-uncovered, stride-none, stride-torn, stride-found}
use Rattle.read.proofs.cursor.step_at.Goals as goal

pub returns-in_err-layout : goal.returns-in_err-layout
returns-in_err-layout c =
    let n = not-laid _ _ c.of.ensures.covering c.of.ensures.same_bundle _ c.ok_or.ensures.value _ c.in_err-layout.was in
    let p = err_from_is_err_and c.from_residual.result c.from_residual.ensures.1 in
    let z = stride-uncovered _ _ _ c.args.end c.args.cursor.now n.1 _ (p.2 ∙ ap (λ why. refused why 0 0) n.0) in
    rw p.1 (record { answers = z.answers; gives = z.gives })

pub returns-then-not-are_steady : goal.returns-then-not-are_steady
unfolding ends_of
returns-then-not-are_steady c =
    let l = laid-out _ _ c.of.ensures.covering c.of.ensures.same_bundle _ c.ok_or.ensures.value _ c.in_ok-layout.was in
    let z = stride-unfit _ _ _ c.args.end c.args.cursor.now (sym c.are_steady.ensures ∙ c.if-not-are_steady.true) _ c.into.ensures in
    rw (sym l) (record { answers = z.answers; gives = z.gives })

pub next_live-requires : goal.next_live-requires
unfolding bundle_limit
next_live-requires c = steady-fits _ _ _ _ (sym c.are_steady.ensures ∙ c.if-not-are_steady.false) (search rules) (search rules)

pub returns-in_err-x : goal.returns-in_err-x
unfolding ends_of
returns-in_err-x c =
    let l = laid-out _ _ c.of.ensures.covering c.of.ensures.same_bundle _ c.ok_or.ensures.value _ c.in_ok-layout.was in
    let p = err_from_is_err_and c.from_residual-in_err-x.result c.from_residual-in_err-x.ensures.1 in
    let z = stride-torn _ _ _ c.args.end c.args.cursor.now (sym c.are_steady.ensures ∙ c.if-not-are_steady.false) _ _ c.next_live.ensures _ c.in_err-x.was _ p.2 in
    rw (p.1, sym l) (record { answers = z.answers; gives = z.gives })

pub returns-in_default : goal.returns-in_default
unfolding ends_of
returns-in_default c =
    let l = laid-out _ _ c.of.ensures.covering c.of.ensures.same_bundle _ c.ok_or.ensures.value _ c.in_ok-layout.was in
    let z = stride-none _ _ _ c.args.end c.args.cursor.now (sym c.are_steady.ensures ∙ c.if-not-are_steady.false) _ _ c.next_live.ensures (c.in_ok-x.was ∙ ap Ok c.in_default.is) in
    rw (sym l) (record { answers = z.answers; gives = z.gives })

pub returns : goal.returns
unfolding ends_of
returns c =
    let l = laid-out _ _ c.of.ensures.covering c.of.ensures.same_bundle _ c.ok_or.ensures.value _ c.in_ok-layout.was in
    let z = stride-found _ _ _ c.args.end c.args.cursor.now (sym c.are_steady.ensures ∙ c.if-not-are_steady.false) _ _ c.next_live.ensures _ (c.in_ok-x.was ∙ ap Ok c.in-Some.is) in
    rw (sym l) (record { answers = z.answers; gives = z.gives })
