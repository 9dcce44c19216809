-- `place_of` meets its contract: each answer stands under its test.
use mathlib.Core.Path.{◌∙◌}
use native.Mathlib.Omega.{arith}
use Rattle.read.proofs.Placing.{place-nowhere, place-fenced, place-no-record, place-broken, place_inside, place_found}
use Rattle.read.proofs.place.place_of.Goals as goal

pub returns-in_err-span : goal.returns-in_err-span
returns-in_err-span c = c.from_residual.ensures ∙ place-nowhere _ _ _ _ _ _ c.find_list.ensures c.in_err-span.was

pub overflow_sub-span : goal.overflow_sub-span
overflow_sub-span c = omega (arith, (place-fenced _ _ _ _ 0 _ c.find_list.ensures _ c.in_ok-span.was).counted)

pub returns-then-span-record : goal.returns-then-span-record
returns-then-span-record c = place-no-record _ _ _ _ _ _ c.find_list.ensures _ c.in_ok-span.was c.if-span-record.true

pub record_at-requires : goal.record_at-requires
record_at-requires c =
    let f = place-fenced _ _ _ _ 0 _ c.find_list.ensures _ c.in_ok-span.was in
    record { start_le_end = (omega (arith, f.headed), f.inside); number_bound = omega (arith, c.if-span-record.false, f.room) }

pub returns-in_err-e : goal.returns-in_err-e
returns-in_err-e c =
    c.from_residual-in_err-e.ensures ∙ place-broken _ _ _ _ _ _ c.find_list.ensures _ c.in_ok-span.was c.if-span-record.false _ c.record_at.ensures _ c.ok.ensures.value c.in_err-e.was

pub overflow_add-result : goal.overflow_add-result
overflow_add-result c =
    let g = c.well_formed in
    let i = place_inside _ _ _ _ _ _ c.find_list.ensures _ c.in_ok-span.was c.if-span-record.false _ c.record_at.ensures _ c.ok.ensures.value _ c.in_ok-e.was in
    omega (arith, i.0)

pub overflow_add-result-2 : goal.overflow_add-result-2
overflow_add-result-2 c =
    let g = c.well_formed in
    let i = place_inside _ _ _ _ _ _ c.find_list.ensures _ c.in_ok-span.was c.if-span-record.false _ c.record_at.ensures _ c.ok.ensures.value _ c.in_ok-e.was in
    omega (arith, i.1)

pub returns : goal.returns
returns c = place_found _ _ _ _ _ _ c.find_list.ensures _ c.in_ok-span.was c.if-span-record.false _ c.record_at.ensures _ c.ok.ensures.value _ c.in_ok-e.was
