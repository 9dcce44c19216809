-- The order of versions is that of their keys, then that of their seqnos the other way round.
use mathlib.Core.Path.{ap₂, ◌∙◌}
use Rattle.list.specs.Order.{versions, then_by}
use Rattle.list.proofs.ByStd.{then, seqnos}
use Rattle.list.proofs.key.compare_versions.Goals as goal

pub returns : goal.returns
unfolding versions
returns c = c.then.ensures ∙ then _ _ ∙ ap₂ then_by c.ordered.ensures (c.cmp.ensures ∙ seqnos _ _)
