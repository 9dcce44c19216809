-- `drain_key` meets its contract: what the definition makes of the rest is what it made of the whole, at each turn with fewer records.
use mathlib.Core.Path.{refl, sym, ap, ◌∙◌}
use Rattle.std.specs.Prelude.{Ok}
use Rattle.std.proofs.lemmas.Result.{err_from_is_err_and}
use Rattle.merge.specs.Private.{reply_of}
use Rattle.read.specs.Private.{held_of}
use Rattle.read.proofs.Keyed.{sure-none, turn-none, turn-torn, turn-counts, turn-led, rest_over, rest_goes}
use Rattle.read.proofs.mvcc_stream.drain_key.Goals as goal

pub loop-best-init : goal.loop-best-init
unfolding held_of
loop-best-init c = record { fits = c.requires; drains = refl; sure = sure-none _ _ _ _ _ _ }

pub returns-in_err-best : goal.returns-in_err-best
unfolding reply_of
returns-in_err-best c =
    let p = err_from_is_err_and c.from_residual.result c.from_residual.ensures.1 in
    let z = turn-torn _ _ _ _ _ _ _ _ c.loop-best.invariant.fits c.loop-best.invariant.drains _ c.peek.ensures.ahead _ c.in_err-best.was in
    rw p.1 (z)

pub returns-in_default : goal.returns-in_default
returns-in_default c =
    turn-none _ _ _ _ _ _ _ _ c.loop-best.invariant.fits c.loop-best.invariant.drains _ c.peek.ensures.ahead (c.in_ok-best.was ∙ ap Ok c.in_default.is)

pub returns-then-does_count : goal.returns-then-does_count
returns-then-does_count c =
    let z = turn-counts _ _ _ _ _ _ _ _ c.loop-best.invariant.fits c.loop-best.invariant.drains _ c.peek.ensures.ahead _ (c.in_ok-best.was ∙ ap Ok c.in-Some.is) _ _ c.does_count.ensures c.if-does_count.true in
    z

pub drain_source-requires : goal.drain_source-requires
drain_source-requires c =
    turn-led _ _ _ _ _ _ _ _ c.loop-best.invariant.fits c.loop-best.invariant.drains _ c.peek.ensures.ahead _ (c.in_ok-best.was ∙ ap Ok c.in-Some.is)
    _ c.loop-best.invariant.sure _ c.does_count.ensures c.if-does_count.false c.peek.ensures.twin

pub returns-in_err-drained : goal.returns-in_err-drained
unfolding reply_of
returns-in_err-drained c =
    let p = err_from_is_err_and c.from_residual-in_err-drained.result c.from_residual-in_err-drained.ensures.1 in
    let z = sym c.in_err-drained.ensures.torn ∙ c.loop-best.invariant.drains in
    rw p.1 (z)

pub returns-then-is_over : goal.returns-then-is_over
returns-then-is_over c =
    let o = c.in_ok-drained.ensures.drains in
    rest_over _ _ _ _ _ _ _ _ c.loop-best.invariant.drains _ _ o (sym c.is_over.ensures ∙ c.if-is_over.true)

pub loop-best-preserved : goal.loop-best-preserved
loop-best-preserved c =
    let o = c.in_ok-drained.ensures.drains in
    let e = sym c.is_over.ensures ∙ c.if-is_over.false in
    record { fits = o.fits; drains = rest_goes _ _ _ _ _ _ _ _ c.loop-best.invariant.drains _ _ o e; sure = o.sure e }
