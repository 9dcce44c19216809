-- std's test of slices is that of the order.
use mathlib.Core.Path.{◌∙◌}
use Rattle.list.proofs.ByStd.{equal}
use Rattle.list.proofs.key.same_start.Goals as goal

pub returns : goal.returns
returns c = c.eq.ensures ∙ equal _ _
