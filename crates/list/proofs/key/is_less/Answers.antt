-- Two keys are in the order of their versions with one seqno.
use mathlib.Core.Path.{ap, refl, ◌∙◌}
use Rattle.list.specs.Order.{is_less}
use Rattle.list.proofs.ByStd.{below, keys-alone}
use Rattle.list.proofs.key.is_less.Goals as goal

pub returns : goal.returns
returns c = c.eq.ensures ∙ below _ ∙ ap is_less c.compare_versions.ensures ∙ keys-alone _ _ _ _ refl
