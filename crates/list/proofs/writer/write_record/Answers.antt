-- The fields stand behind each other, so together they are the record.
use borrow.Author.Rules.{rules}
use Rattle.list.specs.Limits.{record_size}
use Rattle.list.proofs.Written.{record-written}
use Rattle.list.proofs.writer.write_record.Goals as goal

pub put_le-requires : goal.put_le-requires
unfolding record_size
put_le-requires c = search rules

pub put_bytes-requires : goal.put_bytes-requires
unfolding record_size
put_bytes-requires c = search rules

pub put_le-requires-2 : goal.put_le-requires-2
unfolding record_size
put_le-requires-2 c = search rules

pub put_le-requires-3 : goal.put_le-requires-3
unfolding record_size
put_le-requires-3 c = search rules

pub put_le-requires-4 : goal.put_le-requires-4
unfolding record_size
put_le-requires-4 c = search rules

pub put_bytes-requires-2 : goal.put_bytes-requires-2
unfolding record_size
put_bytes-requires-2 c = search rules

pub returns : goal.returns
returns c = record-written _ _ _ _ _ _ _ _ _ _ _ _ _ c.put_le.ensures c.put_bytes.ensures c.put_le-2.ensures c.from.ensures c.put_le-3.ensures c.put_le-4.ensures c.put_bytes-2.ensures
