-- The seqno stands right behind the key.
use mathlib.Core.Path.{sym, ◌∙◌}
use Rattle.list.proofs.Behind.{by-seqno}
use Rattle.list.proofs.value.seqno_by.Goals as goal

pub returns : goal.returns
returns c = c.le.ensures.value ∙ sym (by-seqno _ _ _)
