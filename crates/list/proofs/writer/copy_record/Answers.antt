-- The record is copied whole, and its seqno written over the old one.
use native.Mathlib.Omega.{arith}
use Rattle.list.specs.Limits.{record_size}
use lib.ListN.{length-take, length-drop}
use Rattle.list.specs.Version.{Bytes}
use Rattle.list.proofs.Whole.{inside}
use Rattle.list.proofs.Written.{record-copied}
use borrow.Author.Rules.{rules}
use Rattle.list.proofs.writer.copy_record.Goals as goal

pub slice_bounds-put_bytes-count : goal.slice_bounds-put_bytes-count
slice_bounds-put_bytes-count c = let i = inside _ _ _ c.requires.stands in omega arith

pub slice_bounds-put_bytes-start : goal.slice_bounds-put_bytes-start
slice_bounds-put_bytes-start c = let i = inside _ _ _ c.requires.stands in omega arith

pub slice_bounds-put_bytes-end : goal.slice_bounds-put_bytes-end
slice_bounds-put_bytes-end c = let i = inside _ _ _ c.requires.stands in omega arith

pub put_bytes-requires : goal.put_bytes-requires
put_bytes-requires c =
    let i = inside _ _ _ c.requires.stands in
    simp (length-take, length-drop) (omega arith)

pub put_le-requires : goal.put_le-requires
unfolding record_size
put_le-requires c = search rules

pub returns : goal.returns
unfolding Bytes
returns c = record-copied _ _ _ _ _ _ _ _ (λ i. omega (arith, c.type_inv.s i)) c.requires.stands (omega arith) c.put_bytes.ensures c.put_le.ensures
