-- Nothing is read yet.
use mathlib.Core.Path.{refl}
use Rattle.list.specs.Limits.{header_size}
use Rattle.memtable.specs.Private.{no_survey, no_spot}
use Rattle.memtable.proofs.image.no_survey.Goals as goal

pub returns : goal.returns
unfolding header_size no_survey no_spot
returns c = refl
