-- The tag stands behind key and seqno.
use mathlib.Core.Path.{◌∙◌}
use Rattle.list.proofs.Behind.{by-tag}
use Rattle.list.proofs.value.kind_by.Goals as goal

pub returns : goal.returns
returns c = c.unwrap_or.ensures ∙ rw c.try_from.ensures (by-tag c.args.s.now c.args.key c.args.klen)
