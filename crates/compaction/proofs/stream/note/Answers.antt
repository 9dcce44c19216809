-- Only a reported record's number is put, at the next free entry.
use native.Mathlib.Omega.{arith}
use Rattle.list.specs.Field.{words_in}
use Rattle.compaction.proofs.Writing.{n_room, n-told, n-untold}
use Rattle.compaction.proofs.stream.note.Goals as goal

pub returns-then-not-reported : goal.returns-then-not-reported
returns-then-not-reported c =
    let (p, q) = n-untold _ _ _ _ c.if-not-reported.true in
    record { value = p; table_after = q }

pub put_word-requires : goal.put_word-requires
put_word-requires c = n_room _ _ _ _ c.if-not-reported.false c.requires

pub overflow_add-result : goal.overflow_add-result
unfolding words_in
overflow_add-result c =
    let a = c.args in
    let p = n_room a.number a.reported a.entry (words_in a.table.now) c.if-not-reported.false c.requires in
    omega arith

pub returns : goal.returns
returns c =
    let (p, q) = n-told _ _ _ _ _ c.if-not-reported.false c.put_word.ensures in
    record { value = p; table_after = q }
