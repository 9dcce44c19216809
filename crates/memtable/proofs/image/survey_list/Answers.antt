-- The header is judged first, then the records.
use mathlib.Core.Path.{◌∙◌}
use Rattle.memtable.proofs.Answering.{exits}
use Rattle.memtable.proofs.Surveying.{survey-no, survey-yes}
use Rattle.memtable.proofs.image.survey_list.Goals as goal

pub returns-in_err-count : goal.returns-in_err-count
returns-in_err-count c = exits _ _ c.from_residual.ensures.1 ∙ (survey-no _ _ _ _ c.check_header.ensures _ c.in_err-count.was)

pub returns : goal.returns
returns c = survey-yes _ _ _ _ c.check_header.ensures _ c.in_ok-count.was _ c.survey_records.ensures
