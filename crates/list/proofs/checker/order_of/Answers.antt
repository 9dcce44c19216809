-- The order of two records is that of the versions' keys and seqnos.
use mathlib.Core.Path.{◌∙◌}
use Rattle.list.specs.Check.{order}
use Rattle.list.proofs.checker.order_of.Goals as goal

pub returns : goal.returns
unfolding order
returns c = c.compare_versions.ensures ∙ rw (c.key_of.ensures.result_value, c.key_of-2.ensures.result_value)
