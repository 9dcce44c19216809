-- The number of lists is tested first, then the sum of the lengths.
use mathlib.Core.Path.{ap, ◌∙◌}
use native.Mathlib.Omega.{arith}
use Rattle.std.specs.Prelude.{Err}
use Rattle.bundle.specs.Bundle.{bundle_limit}
use Rattle.bundle.proofs.Judging.{too_many, bad_sum, in-turn}
use Rattle.bundle.proofs.judge.judge_bundle.Goals as goal

pub returns-then-words_in-gt-BUNDLE_LIMIT : goal.returns-then-words_in-gt-BUNDLE_LIMIT
unfolding bundle_limit
returns-then-words_in-gt-BUNDLE_LIMIT c = ap Err c.into.ensures ∙ too_many _ _ _ c.words_in.ensures c.if-words_in-gt-BUNDLE_LIMIT.true

pub end_of-requires : goal.end_of-requires
unfolding bundle_limit
end_of-requires c = omega (arith, c.words_in.ensures)

pub returns-then-end_of-bundle : goal.returns-then-end_of-bundle
unfolding bundle_limit
returns-then-end_of-bundle c = ap Err c.into-then-end_of-bundle.ensures ∙ bad_sum _ _ _ c.words_in.ensures c.if-words_in-gt-BUNDLE_LIMIT.false _ c.end_of.ensures c.if-end_of-bundle.true

pub judge_lists-requires : goal.judge_lists-requires
judge_lists-requires c = omega (arith, c.end_of.ensures, c.if-end_of-bundle.false)

pub returns : goal.returns
unfolding bundle_limit
returns c = in-turn _ _ _ c.words_in.ensures c.if-words_in-gt-BUNDLE_LIMIT.false _ c.end_of.ensures c.if-end_of-bundle.false _ c.judge_lists.ensures
