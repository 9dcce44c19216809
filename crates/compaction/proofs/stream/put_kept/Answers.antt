-- What leaves is put with the seqno it leaves with: the record as it is, or with another kind and value.
-- The one lemma `r-room` answers more than one goal, since each has a bound of its own.
use native.Mathlib.Omega.{arith}
use lib.ListN.{length}
use Rattle.list.specs.Limits.{record_size}
use Rattle.compaction.proofs.Pass.{key_in}
use Rattle.compaction.proofs.Writing.{p-drop, p-room, p-next, p-kept, r-room, r-write, r-new}
use Rattle.compaction.proofs.stream.put_kept.Goals as goal

pub copy_record-requires : goal.copy_record-requires
copy_record-requires c =
    record { stands = c.requires.reads; has_room = p-room _ _ _ _ c.requires.reads _ c.in-Keep.is _ _ c.requires.room }

pub overflow_sub-result : goal.overflow_sub-result
overflow_sub-result c = (p-next _ _ _ _ c.requires.reads _ c.in-Keep.is _ _ c.requires.room).0

pub overflow_add-result : goal.overflow_add-result
overflow_add-result c =
    let a = c.args in
    let p = p-next a.job a.s.now a.held.from a.held.«record» c.requires.reads a.leaves c.in-Keep.is a.at (length a.out.now) c.requires.room in
    omega arith

pub key_of-requires : goal.key_of-requires
key_of-requires c = key_in _ _ _ c.requires.reads

pub write_record-requires : goal.write_record-requires
write_record-requires c =
    let a = c.args in
    r-write a.job a.s.now a.held.from a.held.«record» c.requires.reads a.leaves _ _ c.in-Replace.is a.at (length a.out.now) c.requires.room _ c.key_of.ensures.result_value

pub overflow_add-result-in-Replace : goal.overflow_add-result-in-Replace
unfolding record_size
overflow_add-result-in-Replace c =
    let a = c.args in
    let p = r-room a.job a.s.now a.held.from a.held.«record» c.requires.reads a.leaves _ _ c.in-Replace.is a.at (length a.out.now) c.requires.room in
    omega (arith, p)

pub overflow_add-result-in-Replace-2 : goal.overflow_add-result-in-Replace-2
unfolding record_size
overflow_add-result-in-Replace-2 c =
    let a = c.args in
    let p = r-room a.job a.s.now a.held.from a.held.«record» c.requires.reads a.leaves _ _ c.in-Replace.is a.at (length a.out.now) c.requires.room in
    omega (arith, p)

pub overflow_add-result-in-Replace-3 : goal.overflow_add-result-in-Replace-3
unfolding record_size
overflow_add-result-in-Replace-3 c =
    let a = c.args in
    let p = r-room a.job a.s.now a.held.from a.held.«record» c.requires.reads a.leaves _ _ c.in-Replace.is a.at (length a.out.now) c.requires.room in
    omega (arith, p)

pub returns-in-Keep : goal.returns-in-Keep
returns-in-Keep c =
    let (p, q) = p-kept _ _ _ _ c.requires.reads _ c.in-Keep.is _ _ _ _ c.leaving_seqno-seqno.ensures c.copy_record.ensures in
    record { value = p; out_after = q }

pub returns-in-Drop : goal.returns-in-Drop
returns-in-Drop c =
    let (p, q) = p-drop _ _ _ _ c.requires.reads _ _ _ c.in-Drop.is in
    record { value = p; out_after = q }

pub returns-in-Replace : goal.returns-in-Replace
unfolding record_size
returns-in-Replace c =
    let a = c.args in
    let (p, q) = r-new a.job a.s.now a.held.from a.held.«record» c.requires.reads a.leaves _ _ c.in-Replace.is _ _ _ _ _ c.key_of.ensures.result_value c.leaving_seqno-seqno.ensures c.write_record.ensures in
    record { value = p; out_after = q }
