-- Keys whose last bytes differ are not the same; else they are compared from their ends on.
use mathlib.Core.Path.{◌∙◌}
use Rattle.list.proofs.ByStd.{other_ends}
use Rattle.list.proofs.key.same_key.Goals as goal

pub returns-then-eq : goal.returns-then-eq
returns-then-eq c = c.same_from_end.ensures

pub returns-else-eq : goal.returns-else-eq
returns-else-eq c = c.if-eq.false ∙ other_ends _ _ _ _ c.last_chunk.ensures.cases c.last_chunk-2.ensures.cases c.if-eq.ensures
