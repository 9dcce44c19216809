-- The walk passes the lists before, the list itself and those behind it; what does not cover the bundle fails one of the tests.
use mathlib.Core.Path.{sym, ap, ◌∙◌}
use native.Mathlib.Omega.{arith}
use Rattle.std.specs.Prelude.{Some}
use Rattle.bundle.specs.Bundle.{bundle_limit}
use Rattle.bundle.specs.Private.{fence_at}
use Rattle.bundle.proofs.Walks.{walk_first}
use Rattle.bundle.proofs.Spans.{span-many, span-no-list, span-off, span-uncovered, span-here}
use Rattle.bundle.proofs.look.Bundle.find_list.Goals as goal

pub returns-then-n-gt-BUNDLE_LIMIT : goal.returns-then-n-gt-BUNDLE_LIMIT
unfolding bundle_limit
returns-then-n-gt-BUNDLE_LIMIT c = span-many _ _ _ _ _ c.lists-n.ensures c.if-n-gt-BUNDLE_LIMIT.true

pub returns-then-n-list : goal.returns-then-n-list
returns-then-n-list c = span-no-list _ _ _ _ _ c.lists-n.ensures c.if-n-list.true

pub past_lists-requires : goal.past_lists-requires
unfolding bundle_limit
past_lists-requires c = record { from_le_to = (omega arith, omega (arith, c.lists-n.ensures)); walked = walk_first _ _ (omega (arith, c.lists-n.ensures)) }

pub returns-in_err-own : goal.returns-in_err-own
returns-in_err-own c = c.from_residual.ensures ∙ span-off _ _ _ _ _ c.lists-n.ensures _ (omega arith) (sym c.past_lists.ensures ∙ c.in_err-own.was)

pub past_list-requires : goal.past_list-requires
past_list-requires c = record { k_bound = omega (arith, c.lists-n.ensures); walked = sym c.in_ok-own.was ∙ c.past_lists.ensures }

pub returns-in_err-next : goal.returns-in_err-next
returns-in_err-next c = c.from_residual-in_err-next.ensures ∙ span-off _ _ _ _ _ c.lists-n.ensures _ (omega arith) (sym c.past_list.ensures ∙ c.in_err-next.was)

pub past_lists-requires-2 : goal.past_lists-requires-2
past_lists-requires-2 c = record { from_le_to = (omega arith, omega (arith, c.lists-n.ensures)); walked = sym c.in_ok-next.was ∙ c.past_list.ensures }

pub returns-in_err-end : goal.returns-in_err-end
returns-in_err-end c = c.from_residual-in_err-end.ensures ∙ span-off _ _ _ _ _ c.lists-n.ensures _ (omega arith) (sym c.past_lists-2.ensures ∙ c.in_err-end.was)

pub is_covered-requires : goal.is_covered-requires
is_covered-requires c = sym c.in_ok-end.was ∙ c.past_lists-2.ensures ∙ ap (fence_at c.args.self.bytes.now c.args.self.lengths.now) c.lists-n.ensures

pub returns-then-not-is_covered : goal.returns-then-not-is_covered
returns-then-not-is_covered c = span-uncovered _ _ _ _ (sym c.if-not-is_covered.true ∙ c.is_covered.ensures)

pub returns : goal.returns
returns c =
    ap Some c.up_to.ensures
    ∙ span-here _ _ _ _ _ c.lists-n.ensures (sym c.if-not-is_covered.false ∙ c.is_covered.ensures) (omega arith) _ _ (sym c.in_ok-own.was ∙ c.past_lists.ensures) (sym c.in_ok-next.was ∙ c.past_list.ensures)
