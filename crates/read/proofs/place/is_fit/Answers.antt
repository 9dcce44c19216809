-- `is_fit` meets its contract: a place is fit where it has a record.
use mathlib.Core.Path.{◌∙◌}
use Rattle.read.proofs.Placing.{fit-told}
use Rattle.read.proofs.place.is_fit.Goals as goal

pub returns : goal.returns
returns c = c.is_some.ensures ∙ fit-told _ _ _ _ _ _ c.place_of.ensures
