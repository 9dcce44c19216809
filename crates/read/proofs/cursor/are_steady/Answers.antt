-- `are_steady` meets its contract: sources that aren't there have no records, so theirs are 0.
use mathlib.Core.Path.{sym, ap, ◌∙◌}
use native.Mathlib.Omega.{arith}
use Rattle.bundle.specs.Bundle.{bundle_limit}
use Rattle.read.specs.Private.{empty_to}
use Rattle.read.proofs.Laid.{few}
use Rattle.read.proofs.Standing.{steady-crossed, steady-rest}
use Rattle.read.proofs.cursor.are_steady.Goals as goal

pub rest_empty-requires : goal.rest_empty-requires
rest_empty-requires c = omega (arith, c.lists.ensures, few c.args.layout.now)

pub returns-then-ends_stand : goal.returns-then-ends_stand
returns-then-ends_stand c =
    let e = c.rest_empty.ensures ∙ ap (λ n. empty_to bundle_limit n c.args.ends.now.front c.args.ends.now.back) c.lists.ensures in
    sym (steady-rest _ _ _ _ c.args.layout.now.covered _ c.ends_stand.ensures c.if-ends_stand.true _ e)

pub returns-else-ends_stand : goal.returns-else-ends_stand
returns-else-ends_stand c = c.if-ends_stand.false ∙ sym (steady-crossed _ _ _ _ c.args.layout.now.covered _ c.ends_stand.ensures c.if-ends_stand.false)
