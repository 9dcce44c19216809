-- The sum so far is where the next list starts.
use mathlib.Core.Path.{refl, ap, ◌∙◌}
use native.Mathlib.Omega.{arith}
use Rattle.bundle.specs.Bundle.{bundle_limit, start_at}
use Rattle.bundle.proofs.Starts.{start-next}
use Rattle.bundle.proofs.judge.end_of.Goals as goal

pub loop-k-init : goal.loop-k-init
unfolding start_at
loop-k-init c = (refl, omega arith)

pub word_at-requires : goal.word_at-requires
word_at-requires c = omega (arith, c.words_in-k-end.ensures)

pub overflow_add-end : goal.overflow_add-end
unfolding bundle_limit
overflow_add-end c = omega (arith, c.words_in-k-end.ensures, c.loop-k.invariant.1, c.word_at.ensures.upper_bound)

pub loop-k-preserved : goal.loop-k-preserved
loop-k-preserved c =
    (omega (arith, c.loop-k.invariant.0, c.word_at.ensures.value, start-next c.args.lengths.now c.loop-k.k), omega (arith, c.loop-k.invariant.1, c.word_at.ensures.upper_bound))

pub returns : goal.returns
returns c = c.loop-k.invariant.0 ∙ ap (start_at c.args.lengths.now) (omega (arith, c.words_in-k-end.ensures))
