-- The count is the number of 32 bits that ends the header.
use borrow.Author.Rules.{rules}
use Rattle.list.specs.Limits.{header_size}
use Rattle.list.specs.Check.{count_in}
use Rattle.list.proofs.checker.count_in.Goals as goal

pub le-requires-clause-in_bounds : goal.le-requires-clause-in_bounds
unfolding header_size
le-requires-clause-in_bounds c = search rules

pub returns : goal.returns
unfolding count_in
returns c = c.le.ensures
