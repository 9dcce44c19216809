-- The two fences around a list stand in the table.
use Prim.Native.Nat.{◌+◌, ◌≤◌}
use mathlib.Core.Path.{◌∙◌}
use native.Mathlib.Omega.{arith}
use Rattle.bundle.specs.Bundle.{bundle_limit}
use Rattle.bundle.proofs.Looking.{few-lists}
use Rattle.bundle.proofs.Fences.{span-laid}
use Rattle.bundle.proofs.layout.Layout.span.Goals as goal
use Rattle.bundle.proofs.layout.Layout.span.Goals.{Start}

within : (c : Start) → c.args.k + 1 ≤ 16
unfolding bundle_limit
within c = omega (arith, c.requires, few-lists _ _ _ c.args.self.now.covered)

pub bounds-self-k : goal.bounds-self-k
bounds-self-k c = let w = within (goal.at.bounds-self-k c).Start in omega arith

pub bounds-self-k-2 : goal.bounds-self-k-2
bounds-self-k-2 c = let w = within (goal.at.bounds-self-k-2 c).Start in omega arith

pub overflow_add-k : goal.overflow_add-k
overflow_add-k c = let w = within (goal.at.overflow_add-k c).Start in omega arith

pub offset_bounds-self-k : goal.offset_bounds-self-k
offset_bounds-self-k c = let w = within (goal.at.offset_bounds-self-k c).Start in omega arith

pub offset_bounds-self-k-2 : goal.offset_bounds-self-k-2
offset_bounds-self-k-2 c = let w = within (goal.at.offset_bounds-self-k-2 c).Start in omega arith

pub returns : goal.returns
returns c = c.up_to.ensures ∙ span-laid _ _ _ c.args.self.now.laid _ c.requires
