-- Only the flag is set.
use borrow.Author.Rules.{rules}
use Rattle.memtable.specs.Answers.{flagged}
use Rattle.memtable.proofs.Memtable.flag_rotated.Goals as goal

pub returns : goal.returns
unfolding flagged
returns c = search rules
