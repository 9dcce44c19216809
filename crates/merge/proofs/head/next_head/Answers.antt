-- `next_head` meets its contract: the record is read in its list, and its key lies as far behind the list's start as it lies in it.
use native.Mathlib.Omega.{arith}
use mathlib.Core.Path.{sym}
use Rattle.std.proofs.lemmas.Option.{cond_some}
use Rattle.merge.specs.Private.{reply_of, head_of, placed_at}
use Rattle.merge.proofs.Heads.{read-torn, rest-holds, read-found, parts-inside, next-nothing, next-torn, next-found, cond_none}
use Rattle.merge.proofs.head.next_head.Goals as goal

pub returns-in_default : goal.returns-in_default
unfolding reply_of
returns-in_default c = next-nothing _ _ _ _ (cond_none _ _ (sym c.in_default.ensures.next))

pub record_at-requires-clause-number_bound : goal.record_at-requires-clause-number_bound
record_at-requires-clause-number_bound c = omega (arith, c.in-Some.ensures.left, c.requires.back_bound)

pub returns-in_default-record_at : goal.returns-in_default-record_at
unfolding reply_of
returns-in_default-record_at c =
    let l = cond_some _ _ _ (sym c.in-Some.ensures.next) in
    next-torn _ _ _ _ l.0 _ (sym l.1) (read-torn c.args.bundle c.args.span _ _ _ c.record_at.ensures _ c.in_default-record_at.is)

pub overflow_add-key : goal.overflow_add-key
overflow_add-key c = omega (arith, parts-inside c.args.bundle c.args.span c.args.list _ _ c.record_at.ensures _ c.in-Ok.is c.requires.start_le_end)

pub returns : goal.returns
unfolding reply_of head_of placed_at
returns c =
    let l = cond_some _ _ _ (sym c.in-Some.ensures.next) in
    next-found _ _ _ _ l.0 _ (sym l.1) _ (read-found c.args.bundle c.args.span _ _ _ c.record_at.ensures _ c.in-Ok.is c.requires.start_le_end)

pub invariant_of-result : goal.invariant_of-result
invariant_of-result c =
    record { inside = rest-holds c.args.bundle c.args.span c.args.list _ _ c.record_at.ensures _ c.in-Ok.is c.requires.start_le_end }

pub slice_bounds-result-count : goal.slice_bounds-result-count
slice_bounds-result-count c = omega (arith, c.requires.start_le_end.1, parts-inside c.args.bundle c.args.span c.args.list _ _ c.record_at.ensures _ c.in-Ok.is c.requires.start_le_end)

pub slice_bounds-result-start : goal.slice_bounds-result-start
slice_bounds-result-start c = omega (arith, c.requires.start_le_end.1, parts-inside c.args.bundle c.args.span c.args.list _ _ c.record_at.ensures _ c.in-Ok.is c.requires.start_le_end)
