-- The survey's count is the number of versions, as the image is judged.
use mathlib.Core.Path.{◌∙◌}
use Rattle.list.proofs.Lent.{bytes-lent}
use Rattle.memtable.proofs.Judging.{is-refused, is_held}
use Rattle.memtable.proofs.Answering.{exits, len-refused, len_is}
use Rattle.memtable.proofs.Memtable.len.Goals as goal

pub returns-in_err-survey : goal.returns-in_err-survey
returns-in_err-survey c = exits _ _ c.from_residual.ensures.1 ∙ (len-refused _ _ (is-refused _ _ _ _ _ (bytes-lent _ c.type_inv.buffer) c.examine.ensures _ c.in_err-survey.was))

pub returns : goal.returns
returns c = let h = is_held _ _ _ _ _ (bytes-lent _ c.type_inv.buffer) c.examine.ensures _ c.in_ok-survey.was in len_is _ _ h.held _ h.known.count
