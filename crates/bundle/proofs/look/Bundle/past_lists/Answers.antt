-- After each turn the walk has come one list further; a list that stops it is not made up for by later ones.
use mathlib.Core.Path.{sym, ap, ◌∙◌}
use native.Mathlib.Omega.{arith}
use Rattle.bundle.specs.Private.{fence_at}
use Rattle.bundle.proofs.Walks.{walk-stops}
use Rattle.bundle.proofs.look.Bundle.past_lists.Goals as goal

pub past_list-requires-clause-walked : goal.past_list-requires-clause-walked
past_list-requires-clause-walked c = c.loop-k.invariant

pub returns-in_err-at : goal.returns-in_err-at
returns-in_err-at c = c.from_residual.ensures ∙ walk-stops _ _ _ _ (omega arith) (sym c.past_list.ensures ∙ c.in_err-at.was)

pub returns : goal.returns
returns c = c.loop-k.invariant ∙ ap (fence_at c.args.self.bytes.now c.args.self.lengths.now) (omega arith)
