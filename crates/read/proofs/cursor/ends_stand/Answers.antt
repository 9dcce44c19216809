-- `ends_stand` meets its contract: after k sources it has the definition's answer for k.
use mathlib.Core.Path.{refl}
use native.Mathlib.Omega.{arith}
use Rattle.read.proofs.Laid.{laid-at}
use Rattle.read.specs.Cursor.{stands}
use Rattle.read.proofs.Standing.{stands-next}
use Rattle.read.proofs.cursor.ends_stand.Goals as goal

pub loop-k-init : goal.loop-k-init
unfolding stands
loop-k-init c = refl

pub overflow_sub-held : goal.overflow_sub-held
overflow_sub-held c =
    omega (arith, (laid-at c.args.layout.now c.loop-k.k (omega (arith, c.loop-k-test.true, c.lists-k-end.ensures)) _ c.span-span.ensures).counted)

pub loop-k-preserved : goal.loop-k-preserved
loop-k-preserved c =
    let f = laid-at c.args.layout.now c.loop-k.k (omega (arith, c.loop-k-test.true, c.lists-k-end.ensures)) _ c.span-span.ensures in
    stands-next _ _ _ _ (omega (arith, c.loop-k-test.true, c.lists-k-end.ensures)) _ c.loop-k.invariant _ (omega (arith, f.counted))
