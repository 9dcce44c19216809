-- The lengths' sum, then the index's room: what a walk over all lists has told.
use mathlib.Core.Path.{◌∙◌}
use borrow.Author.Tests.{ne_eqb}
use Rattle.bundle.proofs.Walks.{covered-sum, covered-room}
use Rattle.bundle.proofs.look.Bundle.is_covered.Goals as goal

pub returns-then-end-self : goal.returns-then-end-self
returns-then-end-self c = covered-room _ _ _ _ c.requires c.if-end-self.true _ c.words_in.ensures

pub returns-else-end-self : goal.returns-else-end-self
returns-else-end-self c = ne_eqb _ _ c.if-end-self.false ∙ covered-sum _ _ _ _ c.requires c.if-end-self.false
