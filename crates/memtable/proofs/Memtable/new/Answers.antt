-- The state before a creation.
use borrow.Author.Rules.{rules}
use Rattle.memtable.specs.Insert.{blank}
use Rattle.memtable.proofs.Memtable.new.Goals as goal

pub returns : goal.returns
unfolding blank
returns c = search rules
