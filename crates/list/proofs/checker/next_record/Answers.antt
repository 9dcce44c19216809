-- The record is read first and its order tested once it is whole.
use mathlib.Core.Path.{sym, ◌∙◌}
use native.Mathlib.Omega.{arith}
use Rattle.std.proofs.Common.{inl, inr}
use Rattle.std.proofs.lemmas.Result.{err_from_is_err_and}
use Rattle.list.proofs.Whole.{inside}
use Rattle.list.proofs.Checking.{next-broken, next-less, next-equal, next-greater}
use borrow.Author.Rules.{rules}
use Rattle.list.proofs.checker.next_record.Goals as goal

pub returns-in_err-e : goal.returns-in_err-e
returns-in_err-e c =
    let p = err_from_is_err_and c.from_residual.result c.from_residual.ensures.1 in
    rw (p.1, p.2) (sym c.in_err-e.was ∙ next-broken _ _ _ _ c.read_record.ensures _ c.in_err-e.was)

pub order_of-requires : goal.order_of-requires
order_of-requires c =
    let i = inside _ _ _ (sym c.read_record.ensures ∙ c.in_ok-e.was) in
    record { before_in_list = search rules; after_in_list = omega arith }

pub returns-in-Less : goal.returns-in-Less
returns-in-Less c = next-less _ _ _ _ c.read_record.ensures _ c.in_ok-e.was _ c.order_of.ensures c.in-Less.is

pub returns-in-Equal : goal.returns-in-Equal
returns-in-Equal c =
    elim c.in-Equal.is [
      | inl e ↦ next-equal _ _ _ _ c.read_record.ensures _ c.in_ok-e.was _ c.order_of.ensures e
      | inr e ↦ next-greater _ _ _ _ c.read_record.ensures _ c.in_ok-e.was _ c.order_of.ensures e
    ]
