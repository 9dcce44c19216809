-- The index is filled once the bundle is accepted and the index has an entry for each record.
use mathlib.Core.Path.{ap, ◌∙◌}
use Rattle.std.specs.Prelude.{Err}
use Rattle.std.proofs.lemmas.Result.{err_from_is_err_and}
use Rattle.list.proofs.Lent.{bytes-lent}
use Rattle.bundle.proofs.Filling.{opens-refused, opens-short, opens-covered, opens-whole}
use Rattle.bundle.proofs.index.open.Goals as goal

pub returns-in_err-count : goal.returns-in_err-count
returns-in_err-count c =
    let e = err_from_is_err_and c.from_residual.result c.from_residual.ensures.1 in
    let (p, (q, r)) = opens-refused _ _ _ (bytes-lent _ c.type_inv.bundle) _ c.judge_bundle.ensures _ c.in_err-count.was in
    record { value = rw (e.1, e.2) p; index_after = q; bytes = r }

pub returns-then-words_in-count : goal.returns-then-words_in-count
returns-then-words_in-count c =
    let (p, (q, r)) = opens-short _ _ _ (bytes-lent _ c.type_inv.bundle) _ c.judge_bundle.ensures _ c.in_ok-count.was _ c.words_in.ensures c.if-words_in-count.true in
    record { value = ap Err c.into.ensures ∙ p; index_after = q; bytes = r }

pub fill_index-requires : goal.fill_index-requires
fill_index-requires c = opens-covered _ _ _ (bytes-lent _ c.type_inv.bundle) _ c.judge_bundle.ensures _ c.in_ok-count.was _ c.words_in.ensures c.if-words_in-count.false

pub returns : goal.returns
returns c =
    let (p, (q, r)) = opens-whole _ _ _ (bytes-lent _ c.type_inv.bundle) _ c.judge_bundle.ensures _ c.in_ok-count.was _ c.words_in.ensures c.if-words_in-count.false _ c.fill_index.ensures in
    record { value = p; index_after = q; bytes = r }
