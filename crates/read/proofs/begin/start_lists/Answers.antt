-- `start_lists` meets its contract: after k lists the ends are those of k.
use mathlib.Core.Path.{◌≡◌, sym}
use native.Mathlib.Omega.{arith}
use Rattle.std.proofs.lemmas.Result.{err_from_is_err_and}
use Rattle.list.specs.Field.{words_in}
use Rattle.list.specs.Pick.{on_result}
use Rattle.bundle.specs.Bundle.{bundle_limit}
use Rattle.read.specs.Start.{nothing_left}
use Rattle.read.proofs.Beginnings.{start_none, list-ends, list-torn}
use Rattle.read.proofs.begin.start_lists.Goals as goal

pub loop-k-init : goal.loop-k-init
unfolding nothing_left bundle_limit
loop-k-init c = start_none _ _ _ _ _

pub returns-in_err-first : goal.returns-in_err-first
unfolding on_result
returns-in_err-first c =
    let p = err_from_is_err_and c.from_residual.result c.from_residual.ensures.1 in
    rw p.1 (list-torn _ _ _ _ _ _ _ c.scan_list.ensures _ _ c.loop-k.invariant _ c.in_err-first.was (omega (arith, c.loop-k-test.true, c.lists-k-end.ensures)))

pub loop-k-preserved : goal.loop-k-preserved
loop-k-preserved c = list-ends _ _ _ _ _ _ _ c.scan_list.ensures _ _ c.loop-k.invariant _ c.in_ok-first.was

pub returns : goal.returns
unfolding on_result
returns c =
    let e : words_in c.args.layout.now.bundle.lengths.now ≡ c.loop-k.k = omega (arith, c.lists-k-end.ensures, c.loop-k-test.false, c.loop-k.auto.k-end) in
    rw e (sym c.loop-k.invariant)
