-- What is still to be written, put at the places reached, makes the whole output and the whole report, turn by turn.
use Prim.Native.Nat.{◌+◌, ◌-◌, ◌*◌, ◌≤◌, ◌<◌}
use mathlib.Core.Path.{◌≡◌, refl}
use native.Mathlib.Omega.{arith}
use native.Mathlib.Numerals.{unary_clauses}
use Rattle.list.specs.Limits.{header_size}
use Rattle.list.specs.Version.{Bytes}
use Rattle.compaction.specs.Turn.{turned, Ready}
use Rattle.compaction.proofs.Pass.{held_reads, keys_in, next-held}
use Rattle.compaction.proofs.Writing.{none_left, out-fits, out-again, told-fits, told-again, start-held, start-out, start-table, out-over, words-over}
use Rattle.compaction.proofs.stream.write.Goals as goal

pub loop-number-init : goal.loop-number-init
unfolding header_size Bytes
loop-number-init g c =
    let r = c.requires in
    let a = c.args in
    let q = g.F.StreamFilter.verdict_on a.filter.now in
    let e = c.next_of.ensures in
    simp unary_clauses (
      refl,
      refl,
      start-held a.job q _ _ a.list.lent a.list.accepted _ e,
      start-out a.job q _ _ a.list.lent a.list.accepted _ e a.out.now r.out_room,
      start-table a.job q _ _ a.list.lent a.list.accepted _ e a.table.now r.table_room,
    )

pub decide-turn-requires : goal.decide-turn-requires
unfolding Ready
decide-turn-requires g c =
    let l = c.loop-number in
    record { keys_in_list = keys_in _ _ _ _ _ _ l.invariant.2 (omega arith) c.next_of-next.ensures; can_ask = (c.requires.ready l.number c.loop-number-test.true).0 }

pub put_kept-at-requires : goal.put_kept-at-requires
unfolding turned
put_kept-at-requires g c =
    let l = c.loop-number in
    let t : 0 < c.args.list.count - l.number = omega arith in
    record {
      reads = held_reads _ _ _ _ l.invariant.2 t;
      room = out-fits _ _ (g.F.StreamFilter.verdict_on c.args.filter.now) _ _ _ _ _ l.number _ l.invariant.2 t c.next_of-next.ensures c.decide-turn.ensures _ _ _ l.invariant.3;
    }

pub note-entry-requires : goal.note-entry-requires
unfolding turned
note-entry-requires g c =
    let l = c.loop-number in
    let t : 0 < c.args.list.count - l.number = omega arith in
    told-fits _ _ (g.F.StreamFilter.verdict_on c.args.filter.now) _ _ _ _ _ l.number _ l.invariant.2 t c.next_of-next.ensures c.decide-turn.ensures _ _ l.entry l.number l.invariant.4

pub loop-number-preserved : goal.loop-number-preserved
unfolding turned
loop-number-preserved g c =
    let l = c.loop-number in
    let q = g.F.StreamFilter.verdict_on c.args.filter.now in
    let t : 0 < c.args.list.count - l.number = omega arith in
    let w = c.next_of-next.ensures in
    let d = c.decide-turn.ensures in
    let e : c.args.list.count - (l.number + 1) ≡ c.args.list.count - l.number - 1 = omega arith in
    rw e (
      omega (arith, c.put_kept-at.auto.out),
      omega (arith, c.note-entry.auto.table),
      next-held _ _ _ _ _ _ l.invariant.2 (omega arith) w,
      out-again _ _ q _ _ _ _ _ l.number _ l.invariant.2 t w d _ _ _ _ _ (c.put_kept-at.ensures.value, c.put_kept-at.ensures.out_after) l.invariant.3,
      told-again _ _ q _ _ _ _ _ l.number _ l.invariant.2 t w d _ _ _ l.entry _ l.number c.note-entry.ensures.table_after c.note-entry.ensures.value l.invariant.4,
    )

pub returns : goal.returns
returns g c =
    let l = c.loop-number in
    let z : c.args.list.count - l.number ≤ 0 = omega arith in
    record { out_after = none_left _ l.at _ _ (out-over _ _ _ _ _ _ _ z) l.invariant.3; table_after = none_left _ (4 * l.entry) _ _ (words-over _ _ _ _ _ _ _ z l.number) l.invariant.4 }
