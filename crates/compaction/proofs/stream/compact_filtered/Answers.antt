-- A refused list's own refusal, 12 where the verdicts are not judged good, or what the accepted list gives.
use native.Mathlib.Omega.{arith}
use mathlib.Core.Path.{sym, ap, ◌∙◌}
use Rattle.std.specs.Prelude.{Err}
use Rattle.std.proofs.lemmas.Result.{err_from_is_err_and}
use Rattle.list.specs.Version.{Bytes}
use Rattle.compaction.proofs.Verdicts.{judged-ready}
use Rattle.compaction.proofs.Answering.{f-refused, f-none, f-done}
use Rattle.compaction.proofs.stream.compact_filtered.Goals as goal

pub returns-in_err-count : goal.returns-in_err-count
unfolding Bytes
returns-in_err-count c =
    let a = c.args in
    let bt : Bytes a.verdicts.now = λ i. omega (arith, c.type_inv.verdicts i) in
    let b : Bytes a.values.now = λ i. omega (arith, c.type_inv.values i) in
    let e = err_from_is_err_and c.from_residual.result c.from_residual.ensures.1 in
    let (p, (q, (r, t))) = f-refused _ a.verdicts.now a.values.now _ _ _ _ (c.check_list.ensures.value, c.check_list.ensures.bytes) bt b _ c.in_err-count.was in
    rw (e.1, e.2) (record { value = p; out_after = q; table_after = r; bytes = t })

pub returns-then-not-are_verdicts : goal.returns-then-not-are_verdicts
unfolding Bytes
returns-then-not-are_verdicts c =
    let a = c.args in
    let bt : Bytes a.verdicts.now = λ i. omega (arith, c.type_inv.verdicts i) in
    let b : Bytes a.values.now = λ i. omega (arith, c.type_inv.values i) in
    let (p, (q, (r, t))) = f-none _ a.verdicts.now a.values.now _ _ _ _ (c.check_list.ensures.value, c.check_list.ensures.bytes) bt b _ c.in_ok-count.was _ c.are_verdicts.ensures _ c.if-not-are_verdicts.true (ap Err c.into.ensures) in
    record { value = p; out_after = q; table_after = r; bytes = t }

pub compact_accepted-requires : goal.compact_accepted-requires
unfolding Bytes
compact_accepted-requires c =
    let a = c.args in
    let bt : Bytes a.verdicts.now = λ i. omega (arith, c.type_inv.verdicts i) in
    let b : Bytes a.values.now = λ i. omega (arith, c.type_inv.values i) in
    record { ready = judged-ready _ _ bt b _ (sym c.are_verdicts.ensures ∙ c.if-not-are_verdicts.false) }

pub returns : goal.returns
unfolding Bytes
returns c =
    let a = c.args in
    let bt : Bytes a.verdicts.now = λ i. omega (arith, c.type_inv.verdicts i) in
    let b : Bytes a.values.now = λ i. omega (arith, c.type_inv.values i) in
    let (p, (q, (r, t))) = f-done _ a.verdicts.now a.values.now _ _ _ _ (c.check_list.ensures.value, c.check_list.ensures.bytes) bt b _ c.in_ok-count.was _ c.are_verdicts.ensures _ _ _ c.if-not-are_verdicts.false (c.compact_accepted.ensures.value, (c.compact_accepted.ensures.out_after, c.compact_accepted.ensures.table_after)) in
    record { value = p; out_after = q; table_after = r; bytes = t }
