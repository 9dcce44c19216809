-- What was measured decides; then header, records and report are written.
use mathlib.Core.Path.{ap}
use Rattle.std.specs.Prelude.{Err}
use Rattle.list.specs.Limits.{list_limit}
use Rattle.compaction.specs.Turn.{asked_by}
use Rattle.compaction.proofs.Answering.{a-large, a-output, a-report, a-header, a-room, a-done}
use Rattle.compaction.proofs.stream.compact_accepted.Goals as goal

pub returns-then-f : goal.returns-then-f
unfolding list_limit
returns-then-f g c =
    let a = c.args in
    let (p, (q, r)) = a-large a.job (asked_by (g.F.StreamFilter.verdict_on a.filter) a.list.bytes.now) a.out.now a.table.now _ c.measure-f.ensures _ c.if-f.true (ap Err c.into.ensures) in
    record { value = p; out_after = q; table_after = r }

pub returns-then-out-f : goal.returns-then-out-f
unfolding list_limit
returns-then-out-f g c =
    let a = c.args in
    let (p, (q, r)) = a-output a.job (asked_by (g.F.StreamFilter.verdict_on a.filter) a.list.bytes.now) a.out.now a.table.now _ c.measure-f.ensures c.if-f.false _ c.if-out-f.true (ap Err c.no_room.ensures) in
    record { value = p; out_after = q; table_after = r }

pub returns-then-words_in-f : goal.returns-then-words_in-f
unfolding list_limit
returns-then-words_in-f g c =
    let a = c.args in
    let (p, (q, r)) = a-report a.job (asked_by (g.F.StreamFilter.verdict_on a.filter) a.list.bytes.now) a.out.now a.table.now _ c.measure-f.ensures c.if-f.false _ _ c.words_in.ensures c.if-out-f.false c.if-words_in-f.true (ap Err c.no_room-then-words_in-f.ensures) in
    record { value = p; out_after = q; table_after = r }

pub write_header-requires : goal.write_header-requires
unfolding list_limit
write_header-requires g c =
    let a = c.args in
    a-header a.job (asked_by (g.F.StreamFilter.verdict_on a.filter) a.list.bytes.now) a.out.now a.table.now _ c.measure-f.ensures c.if-f.false c.if-out-f.false

pub write-requires : goal.write-requires
unfolding list_limit
write-requires g c =
    let a = c.args in
    let z = a-room a.job (asked_by (g.F.StreamFilter.verdict_on a.filter) a.list.bytes.now) a.out.now a.table.now _ c.measure-f.ensures c.if-f.false c.if-out-f.false _ c.words_in.ensures c.if-words_in-f.false _ c.write_header.auto.t in
    record { ready = c.requires.ready; out_room = z.0; table_room = z.1 }

pub returns : goal.returns
unfolding list_limit
returns g c =
    let a = c.args in
    let (p, (q, r)) = a-done a.job (asked_by (g.F.StreamFilter.verdict_on a.filter) a.list.bytes.now) a.out.now a.table.now _ c.measure-f.ensures c.if-f.false c.if-out-f.false _ c.words_in.ensures c.if-words_in-f.false _ _ _ c.write_header.ensures c.write.ensures.out_after c.write.ensures.table_after in
    record { value = p; out_after = q; table_after = r }
