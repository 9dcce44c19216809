-- Two bytes hold at most 65,535, which is the longest key.
use borrow.Author.Rules.{rules}
use Rattle.list.specs.Limits.{key_limit}
use Rattle.list.proofs.record.klen_at.Goals as goal

pub returns : goal.returns
unfolding key_limit
returns c = search rules
