-- A refused list's own refusal, or what the accepted one gives with nobody asked.
use Rattle.std.proofs.lemmas.Result.{err_from_is_err_and}
use Rattle.compaction.proofs.Verdicts.{none-ready}
use Rattle.compaction.proofs.Answering.{a-refused, a-accepted}
use Rattle.compaction.proofs.stream.compact.Goals as goal

pub returns-in_err-count : goal.returns-in_err-count
returns-in_err-count c =
    let e = err_from_is_err_and c.from_residual.result c.from_residual.ensures.1 in
    let (p, (q, (r, t))) = a-refused _ _ _ _ _ (c.check_list.ensures.value, c.check_list.ensures.bytes) _ c.in_err-count.was in
    rw (e.1, e.2) (record { value = p; out_after = q; table_after = r; bytes = t })

pub compact_accepted-requires : goal.compact_accepted-requires
compact_accepted-requires c = record { ready = none-ready _ }

pub returns : goal.returns
returns c =
    let (p, (q, (r, t))) = a-accepted _ _ _ _ _ (c.check_list.ensures.value, c.check_list.ensures.bytes) _ _ _ _ c.in_ok-count.was (c.compact_accepted.ensures.value, (c.compact_accepted.ensures.out_after, c.compact_accepted.ensures.table_after)) in
    record { value = p; out_after = q; table_after = r; bytes = t }
