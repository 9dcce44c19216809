-- Each order has its number.
use mathlib.Core.Path.{sym, ap, ◌∙◌}
use Rattle.list.specs.Shared.{number}
use Rattle.timed.proofs.timed_compare_keys.Goals as goal

pub returns-in-Less : goal.returns-in-Less
unfolding number
returns-in-Less c = ap number (sym c.in-Less.is ∙ c.compare_keys.ensures)

pub returns-in-Equal : goal.returns-in-Equal
unfolding number
returns-in-Equal c = ap number (sym c.in-Equal.is ∙ c.compare_keys.ensures)

pub returns-in-Greater : goal.returns-in-Greater
unfolding number
returns-in-Greater c = ap number (sym c.in-Greater.is ∙ c.compare_keys.ensures)
