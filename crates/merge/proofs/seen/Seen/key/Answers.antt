-- `key` meets its contract: the key stands first.
use mathlib.Core.Path.{sym}
use Rattle.list.proofs.Behind.{by_key}
use Rattle.merge.specs.Private.{placed_at}
use Rattle.merge.proofs.seen.Seen.key.Goals as goal

pub returns : goal.returns
unfolding placed_at
returns c = sym (by_key _ 0 _)
