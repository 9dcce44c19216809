-- What is counted and what is left add up to the whole's figures, turn by turn.
use Prim.Native.Nat.{◌+◌, ◌-◌, ◌<◌}
use mathlib.Core.Path.{◌≡◌, ap, ◌∙◌}
use native.Mathlib.Omega.{arith}
use native.Mathlib.Numerals.{unary_clauses}
use Rattle.list.specs.Limits.{header_size}
use Rattle.list.specs.Version.{Bytes}
use Rattle.compaction.specs.Turn.{counted, turned, Ready}
use Rattle.compaction.proofs.Pass.{held_reads, held-grows, keys_in}
use Rattle.compaction.proofs.Measuring.{m-start, m-room, m-limit, m-klen, leaves-short, m-leaves, m-again, m-end}
use Rattle.compaction.proofs.stream.measure.Goals as goal

pub loop-number-init : goal.loop-number-init
unfolding header_size Ready Bytes
loop-number-init g c =
    let a = c.args in
    simp unary_clauses (m-start a.job (g.F.StreamFilter.verdict_on a.filter.now) a.list.bytes.now a.list.count a.list.lent (λ i l. (c.requires.ready i l).1) a.list.accepted _ c.next_of.ensures)

pub decide-turn-requires : goal.decide-turn-requires
unfolding Ready
decide-turn-requires g c =
    let l = c.loop-number in
    record { keys_in_list = keys_in _ _ _ _ _ _ l.invariant.0 (omega arith) c.next_of-next.ensures; can_ask = (c.requires.ready l.number c.loop-number-test.true).0 }

pub leaving_len-requires : goal.leaving_len-requires
unfolding Ready turned
leaving_len-requires g c =
    let l = c.loop-number in
    let t : 0 < c.args.list.count - l.number = omega arith in
    record {
      stands_before_next = held-grows _ _ _ _ l.invariant.0 t;
      fits = (m-klen _ _ _ _ c.args.list.accepted (held_reads _ _ _ _ l.invariant.0 t), m-leaves _ _ _ _ _ _ _ (c.requires.ready l.number c.loop-number-test.true).1 c.decide-turn.ensures);
    }

pub tally-f-requires : goal.tally-f-requires
unfolding Ready turned Bytes
tally-f-requires g c =
    let a = c.args in
    let l = c.loop-number in
    let t : 0 < a.list.count - l.number = omega arith in
    let short = m-leaves _ _ _ _ _ _ _ (c.requires.ready l.number c.loop-number-test.true).1 c.decide-turn.ensures in
    let size = leaves-short _ _ _ (held_reads _ _ _ _ l.invariant.0 t) _ short (m-limit _ _ a.list.accepted) in
    m-room a.job (g.F.StreamFilter.verdict_on a.filter.now) a.list.bytes.now a.list.count a.list.lent (λ i l. (c.requires.ready i l).1) a.list.accepted _ l.f _ (rw c.leaving_len.ensures size) l.invariant.1

pub loop-number-preserved : goal.loop-number-preserved
unfolding turned
loop-number-preserved g c =
    let l = c.loop-number in
    let t : 0 < c.args.list.count - l.number = omega arith in
    let e : c.args.list.count - (l.number + 1) ≡ c.args.list.count - l.number - 1 = omega arith in
    rw e (m-again _ _ (g.F.StreamFilter.verdict_on c.args.filter.now) _ _ _ _ _ l.number _ _ _ _ l.invariant.0 t c.next_of-next.ensures c.decide-turn.ensures (c.tally-f.ensures ∙ ap (λ n. counted l.f (turned c.decide-turn.result) n) c.leaving_len.ensures) l.invariant.1)

pub returns : goal.returns
returns g c = m-end _ _ _ _ _ _ _ _ _ (omega arith) c.loop-number.invariant.1
