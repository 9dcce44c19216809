-- `prefix_to_range` meets its contract: each answer stands under its test, and what is copied, its last byte raised, is the upper bound.
use native.Mathlib.Omega.{arith}
use Rattle.list.specs.Limits.{key_limit}
use Rattle.read.proofs.Prefixing.{cut-byte, too_long, unbounded, no_room, bounded}
use Rattle.read.proofs.range.prefix_to_range.Goals as goal

pub returns-then-prefix-gt-KEY_LIMIT : goal.returns-then-prefix-gt-KEY_LIMIT
unfolding key_limit
returns-then-prefix-gt-KEY_LIMIT c =
    let (p, q) = too_long _ _ c.if-prefix-gt-KEY_LIMIT.true in
    record { answers = p; writes = q }

pub returns-then-n-eq0 : goal.returns-then-n-eq0
unfolding key_limit
returns-then-n-eq0 c =
    let (p, q) = unbounded _ _ _ c.if-prefix-gt-KEY_LIMIT.false c.cut_at-n.ensures.cut c.if-n-eq0.true in
    record { answers = p; writes = q }

pub returns-then-upper-n : goal.returns-then-upper-n
unfolding key_limit
returns-then-upper-n c =
    let (p, q) = no_room _ _ _ c.if-prefix-gt-KEY_LIMIT.false c.cut_at-n.ensures.cut c.if-n-eq0.false c.if-upper-n.true in
    record { answers = p; writes = q }

pub overflow_add-upper : goal.overflow_add-upper
overflow_add-upper c = omega (arith, cut-byte _ _ c.cut_at-n.ensures.cut c.if-n-eq0.false)

pub returns : goal.returns
unfolding key_limit
returns c =
    let (p, q) = bounded _ _ _ c.if-prefix-gt-KEY_LIMIT.false c.cut_at-n.ensures.cut c.if-n-eq0.false _ c.copy_bytes.ensures c.if-upper-n.false in
    record { answers = p; writes = q }
