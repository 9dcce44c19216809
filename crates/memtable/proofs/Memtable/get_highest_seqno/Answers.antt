-- The survey's highest seqno is the versions', and none where there are none.
use native.Mathlib.Omega.{arith}
use mathlib.Core.Path.{◌∙◌}
use Rattle.list.proofs.Lent.{bytes-lent}
use Rattle.memtable.proofs.Judging.{is-refused, is_held}
use Rattle.memtable.proofs.Answering.{exits, highest-refused, has-none, has_some}
use Rattle.memtable.proofs.Memtable.get_highest_seqno.Goals as goal

pub returns-in_err-survey : goal.returns-in_err-survey
returns-in_err-survey c = exits _ _ c.from_residual.ensures.1 ∙ (highest-refused _ _ (is-refused _ _ _ _ _ (bytes-lent _ c.type_inv.buffer) c.examine.ensures _ c.in_err-survey.was))

pub returns-then-survey-gt0 : goal.returns-then-survey-gt0
returns-then-survey-gt0 c =
    let h = is_held _ _ _ _ _ (bytes-lent _ c.type_inv.buffer) c.examine.ensures _ c.in_ok-survey.was in has_some _ _ h.held _ h.known.count (λ z. omega arith) _ h.known.highest

pub returns : goal.returns
returns c = let h = is_held _ _ _ _ _ (bytes-lent _ c.type_inv.buffer) c.examine.ensures _ c.in_ok-survey.was in has-none _ _ h.held _ h.known.count (omega arith)
