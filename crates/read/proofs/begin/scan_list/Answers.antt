-- `scan_list` meets its contract: the definition on the records left gives what it gave on all.
use mathlib.Core.Path.{refl}
use native.Mathlib.Omega.{arith}
use Rattle.read.proofs.Laid.{laid-at}
use Rattle.read.proofs.Beginnings.{scan-count, scan-room, scan-over, scan-torn, scan-key, scan-goes, scan-inside}
use Rattle.read.proofs.begin.scan_list.Goals as goal

pub slice_bounds-list-count : goal.slice_bounds-list-count
slice_bounds-list-count c = omega (arith, (laid-at c.args.layout.now c.args.k c.requires _ c.span-span.ensures).headed)

pub slice_bounds-list-start : goal.slice_bounds-list-start
slice_bounds-list-start c = omega (arith, (laid-at c.args.layout.now c.args.k c.requires _ c.span-span.ensures).headed)

pub slice_bounds-list-end : goal.slice_bounds-list-end
slice_bounds-list-end c = (laid-at c.args.layout.now c.args.k c.requires _ c.span-span.ensures).inside

pub count_in-i-end-requires : goal.count_in-i-end-requires
count_in-i-end-requires c = scan-room _ _ _ _ _ (laid-at c.args.layout.now c.args.k c.requires _ c.span-span.ensures)

pub record_at-requires : goal.record_at-requires
record_at-requires c =
    let f = laid-at c.args.layout.now c.args.k c.requires _ c.span-span.ensures in
    record {
      start_le_end = (omega (arith, f.headed), f.inside);
      number_bound = omega (arith, f.room, f.counted, scan-count _ _ _ _ _ f _ c.count_in-i-end.ensures.value, c.loop-i-test.true);
    }

pub returns-in_default : goal.returns-in_default
returns-in_default c =
    let f = laid-at c.args.layout.now c.args.k c.requires _ c.span-span.ensures in
    scan-torn _ _ _ _ _ f _ _ c.record_at.ensures _ _ _ _ _ _ (omega (arith, scan-count _ _ _ _ _ f _ c.count_in-i-end.ensures.value, c.loop-i-test.true)) c.loop-i.invariant _ c.in_default.is

pub key_of-key-requires : goal.key_of-key-requires
key_of-key-requires c =
    scan-key _ _ _ _ _ (laid-at c.args.layout.now c.args.k c.requires _ c.span-span.ensures) _ _ c.record_at.ensures _ c.in-Ok.is

pub loop-i-preserved : goal.loop-i-preserved
loop-i-preserved c =
    let f = laid-at c.args.layout.now c.args.k c.requires _ c.span-span.ensures in
    scan-goes _ _ _ _ _ f _ _ c.record_at.ensures _ _ _ _ _ _ (omega (arith, scan-count _ _ _ _ _ f _ c.count_in-i-end.ensures.value, c.loop-i-test.true)) c.loop-i.invariant _ c.in-Ok.is
    _ c.key_of-key.ensures.result_value _ _ c.first_after-first.ensures c.last_after-last.ensures

pub overflow_cast-result : goal.overflow_cast-result
overflow_cast-result c =
    let e = scan-count _ _ _ _ _ (laid-at c.args.layout.now c.args.k c.requires _ c.span-span.ensures) _ c.count_in-i-end.ensures.value in
    omega (arith, (scan-inside _ _ _ _ _ _ (scan-over _ _ _ _ _ _ _ _ (omega (arith, e, c.loop-i-test.false)) c.loop-i.invariant _ refl)).0, c.count_in-i-end.ensures.upper_bound, e)

pub overflow_cast-result-2 : goal.overflow_cast-result-2
overflow_cast-result-2 c =
    let e = scan-count _ _ _ _ _ (laid-at c.args.layout.now c.args.k c.requires _ c.span-span.ensures) _ c.count_in-i-end.ensures.value in
    omega (arith, (scan-inside _ _ _ _ _ _ (scan-over _ _ _ _ _ _ _ _ (omega (arith, e, c.loop-i-test.false)) c.loop-i.invariant _ c.max.ensures)).1, c.count_in-i-end.ensures.upper_bound, e)

pub returns : goal.returns
returns c =
    let e = scan-count _ _ _ _ _ (laid-at c.args.layout.now c.args.k c.requires _ c.span-span.ensures) _ c.count_in-i-end.ensures.value in
    scan-over _ _ _ _ _ _ _ _ (omega (arith, e, c.loop-i-test.false)) c.loop-i.invariant _ c.max.ensures
