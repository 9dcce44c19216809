-- The fences are laid as far as the walk has come; the tests come one after the other, and each that fails settles it.
use Prim.Native.Nat.{◌+◌}
use mathlib.Core.Path.{◌≡◌, sym, ap, ◌∙◌}
use native.Mathlib.Omega.{arith}
use Rattle.std.specs.Prelude.{Some}
use lib.ListN.{length-set}
use Rattle.bundle.specs.Bundle.{bundle_limit}
use Rattle.bundle.specs.Private.{fence_at}
use Rattle.bundle.proofs.Looking.{cover-many, covers-not}
use Rattle.bundle.proofs.Walks.{come, walk_first, stopped}
use Rattle.bundle.proofs.Fences.{lay-first, lay-next, laid-many, laid-reached, laid_all}
use Rattle.bundle.proofs.layout.lay_out.Goals as goal

pub returns-then-n-gt-BUNDLE_LIMIT-clause-covering : goal.returns-then-n-gt-BUNDLE_LIMIT-clause-covering
unfolding bundle_limit
returns-then-n-gt-BUNDLE_LIMIT-clause-covering c = covers-not _ _ _ (sym (cover-many _ _ _ c.lists-n.ensures c.if-n-gt-BUNDLE_LIMIT.true))

pub returns-then-n-gt-BUNDLE_LIMIT-clause-fences_after : goal.returns-then-n-gt-BUNDLE_LIMIT-clause-fences_after
unfolding bundle_limit
returns-then-n-gt-BUNDLE_LIMIT-clause-fences_after c = laid-many _ _ _ (omega (arith, c.lists-n.ensures))

pub loop-k-init : goal.loop-k-init
unfolding bundle_limit
loop-k-init c = (simp length-set c.told-fences, walk_first _ _ (omega (arith, c.lists-n.ensures)), lay-first _ _ _)

pub past_list-requires : goal.past_list-requires
past_list-requires c = record { k_bound = omega (arith, c.lists-n.ensures); walked = c.loop-k.invariant.1 }

pub returns-in_default-clause-covering : goal.returns-in_default-clause-covering
returns-in_default-clause-covering c = stopped _ _ _ _ (omega (arith, c.lists-n.ensures)) (sym c.past_list.ensures ∙ c.in_default.is)

pub returns-in_default-clause-fences_after : goal.returns-in_default-clause-fences_after
returns-in_default-clause-fences_after c =
    laid-reached _ _ _ _ _ _ c.loop-k.invariant.2 _ c.loop-k.invariant.1 (omega (arith, c.lists-n.ensures)) (λ l. sym c.past_list.ensures ∙ c.in_default.is)

pub loop-k-preserved : goal.loop-k-preserved
loop-k-preserved c =
    let v : Some c.in-Some.next ≡ fence_at c.args.bundle.bytes.now c.args.bundle.lengths.now (c.loop-k.k + 1) = sym c.in-Some.is ∙ c.past_list.ensures in
    (simp length-set c.loop-k.invariant.0, v, lay-next _ _ _ _ _ c.loop-k.invariant.2 (come _ _ _ _ v).fence_is)

pub is_covered-requires : goal.is_covered-requires
is_covered-requires c = c.loop-k.invariant.1 ∙ ap (fence_at c.args.bundle.bytes.now c.args.bundle.lengths.now) (omega (arith, c.lists-n.ensures))

pub returns-clause-fences_after : goal.returns-clause-fences_after
returns-clause-fences_after c =
    laid-reached _ _ _ _ _ _ c.loop-k.invariant.2 _ c.loop-k.invariant.1 (omega (arith, c.lists-n.ensures)) (λ l. absurd (omega (arith, c.lists-n.ensures)))

pub returns-clause-laid : goal.returns-clause-laid
unfolding bundle_limit
returns-clause-laid c =
    λ _. laid_all _ _ _ _ _ _ c.loop-k.invariant.2 _ c.loop-k.invariant.1 (omega (arith, c.lists-n.ensures)) (omega (arith, c.told-fences))
