-- Each test behind the key's length settles one stage of the record.
use native.Mathlib.Omega.{arith}
use borrow.Author.Rules.{rules}
use Rattle.std.proofs.lemmas.Result.{err_from_is_err_and}
use Rattle.list.specs.Limits.{key_limit}
use Rattle.list.proofs.Reading.{value-no-size, value-cut, value-whole, rest-short, rest-untagged, rest-value}
use Rattle.list.proofs.record.read_rest.Goals as goal

pub overflow_add-q : goal.overflow_add-q
unfolding key_limit
overflow_add-q c = search rules

pub overflow_add-tag : goal.overflow_add-tag
unfolding key_limit
overflow_add-tag c = search rules

pub overflow_add-size : goal.overflow_add-size
unfolding key_limit
overflow_add-size c = search rules

pub overflow_add-value : goal.overflow_add-value
unfolding key_limit
overflow_add-value c = search rules

pub returns-then-n-size : goal.returns-then-n-size
returns-then-n-size c = rest-short _ _ _ _ (omega arith)

pub returns-in_err-kind : goal.returns-in_err-kind
returns-in_err-kind c =
    let p = err_from_is_err_and c.from_residual.result c.from_residual.ensures.1 in
    rw (p.1, p.2) (rest-untagged _ _ _ _ _ c.try_from.ensures (omega arith) _ c.in_err-kind.was)

pub returns-then-n-value : goal.returns-then-n-value
returns-then-n-value c =
    rest-value _ _ _ _ _ c.try_from.ensures (omega arith) _ c.in_ok-kind.was _ c.le-seqno.ensures.value _
    (value-no-size _ _ _ _ _ _ (omega arith))

pub returns-then-n-value-2 : goal.returns-then-n-value-2
returns-then-n-value-2 c =
    rest-value _ _ _ _ _ c.try_from.ensures (omega arith) _ c.in_ok-kind.was _ c.le-seqno.ensures.value _
    (value-cut _ _ _ _ _ _ _ c.le-vlen.ensures.value (omega arith))

pub returns : goal.returns
returns c =
    rest-value _ _ _ _ _ c.try_from.ensures (omega arith) _ c.in_ok-kind.was _ c.le-seqno.ensures.value _
    (value-whole _ _ _ _ _ _ _ c.le-vlen.ensures.value (omega arith))
