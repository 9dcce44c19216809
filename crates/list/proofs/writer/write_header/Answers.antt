-- The mark, the version and the count stand behind each other.
use borrow.Author.Rules.{rules}
use Rattle.list.specs.Limits.{header_size}
use Rattle.list.specs.Check.{mark}
use Rattle.list.proofs.Written.{header-written}
use Rattle.list.proofs.writer.write_header.Goals as goal

pub put_bytes-requires : goal.put_bytes-requires
unfolding header_size
put_bytes-requires c = search rules

pub put_le-requires : goal.put_le-requires
unfolding header_size
put_le-requires c = search rules

pub returns : goal.returns
unfolding mark
returns c = header-written _ _ _ _ _ c.put_bytes.ensures c.put_le.ensures c.put_count.ensures
