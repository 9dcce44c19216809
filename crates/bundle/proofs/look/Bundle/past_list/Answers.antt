-- The list's own length settles it: too long for what is left of the bundle, too short for a header, or passed.
use mathlib.Core.Path.{refl}
use native.Mathlib.Omega.{arith}
use Rattle.list.specs.Limits.{header_size}
use Rattle.bundle.specs.Bundle.{bundle_limit}
use Rattle.bundle.proofs.Walks.{come, walk-long, walk-short, walk-on, base-most}
use Rattle.bundle.proofs.look.Bundle.past_list.Goals as goal

pub overflow_sub-self : goal.overflow_sub-self
overflow_sub-self c = (come _ _ _ _ c.requires.walked).inside

pub returns-then-self-at : goal.returns-then-self-at
returns-then-self-at c = walk-long _ _ _ _ c.requires.walked _ c.word_at-len.ensures.value c.if-self-at.true

pub returns-then-len-lt-HEADER_LEN : goal.returns-then-len-lt-HEADER_LEN
unfolding header_size
returns-then-len-lt-HEADER_LEN c = walk-short _ _ _ _ c.requires.walked _ c.word_at-len.ensures.value c.if-len-lt-HEADER_LEN.true

pub count_of-requires : goal.count_of-requires
unfolding header_size
count_of-requires c = let i = (come _ _ _ _ c.requires.walked).inside in record { len_in_bounds = omega arith; header_size_le_len = omega arith }

pub overflow_add-result : goal.overflow_add-result
unfolding bundle_limit
overflow_add-result c =
    let w = come _ _ _ _ c.requires.walked in
    let m = base-most _ c.args.self.lengths.now c.count_of.ensures.bytes c.args.k in
    omega (arith, c.requires.k_bound, w.few-lists, w.base-is, c.count_of.ensures.upper_bound)

pub returns : goal.returns
unfolding header_size
returns c = walk-on _ _ _ _ c.requires.walked _ c.word_at-len.ensures.value c.if-self-at.false c.if-len-lt-HEADER_LEN.false _ refl _ c.count_of.ensures.value
