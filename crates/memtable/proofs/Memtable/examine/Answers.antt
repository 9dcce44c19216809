-- The image is judged between the two tests of the state.
use mathlib.Core.Path.{◌∙◌}
use Rattle.memtable.proofs.Answering.{exits}
use Rattle.memtable.proofs.Judging.{e-past, e-unsound, e-size, e-highest, e-sound}
use Rattle.memtable.proofs.Memtable.examine.Goals as goal
use Rattle.memtable.proofs.Memtable.examine.Goals.{then-self-survey-via-then-self-survey, then-self-survey-via-else-self-survey+then-self-survey-2}

pub returns-then-buffer-self : goal.returns-then-buffer-self
returns-then-buffer-self c = rw c.into.ensures (e-past _ _ _ _ c.if-buffer-self.true)

pub returns-in_err-survey : goal.returns-in_err-survey
returns-in_err-survey c = exits _ _ c.from_residual.ensures.1 ∙ (e-unsound _ _ _ _ c.if-buffer-self.false _ c.survey_list.ensures _ c.in_err-survey.was)

pub returns-then-self-survey : goal.returns-then-self-survey
returns-then-self-survey c =
    rw c.into-then-self-survey.ensures
    (elim c.then-self-survey.branch [
      | then-self-survey-via-then-self-survey w ↦ e-size _ _ _ _ c.if-buffer-self.false _ c.survey_list.ensures _ c.in_ok-survey.was w.if-self-survey.true
      | then-self-survey-via-else-self-survey+then-self-survey-2 w ↦
          e-highest _ _ _ _ c.if-buffer-self.false _ c.survey_list.ensures _ c.in_ok-survey.was w.if-self-survey.false w.if-self-survey-2.true
    ])

pub returns : goal.returns
returns c = e-sound _ _ _ _ c.if-buffer-self.false _ c.survey_list.ensures _ c.in_ok-survey.was c.if-self-survey.false c.if-self-survey-2.false
