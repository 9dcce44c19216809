-- The count ends the header.
use borrow.Author.Rules.{rules}
use Rattle.list.specs.Limits.{header_size}
use Rattle.list.proofs.writer.put_count.Goals as goal

pub put_le-requires : goal.put_le-requires
unfolding header_size
put_le-requires c = search rules
