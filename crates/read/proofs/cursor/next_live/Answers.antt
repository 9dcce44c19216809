-- `next_live` meets its contract: what the definition makes of the rest is what it made of the whole, at each turn with a key less.
use mathlib.Core.Path.{ap, ◌∙◌}
use Rattle.std.specs.Prelude.{Ok}
use Rattle.std.proofs.lemmas.Result.{err_from_is_err_and}
use Rattle.merge.specs.Private.{reply_of}
use Rattle.read.proofs.Strides.{key-none, key-broken, key-passed, key-live, key-dead}
use Rattle.read.proofs.cursor.next_live.Goals as goal

pub returns-in_err-entry : goal.returns-in_err-entry
unfolding reply_of
returns-in_err-entry c =
    let p = err_from_is_err_and c.from_residual.result c.from_residual.ensures.1 in
    rw p.1 (key-broken _ _ _ _ _ _ _ c.loop-entry.invariant.fits c.loop-entry.invariant.steps _ _ c.drain_key.ensures _ c.in_err-entry.was)

pub returns-in_default : goal.returns-in_default
unfolding reply_of
returns-in_default c = key-none _ _ _ _ _ _ _ c.loop-entry.invariant.fits c.loop-entry.invariant.steps _ _ c.drain_key.ensures (c.in_ok-entry.was ∙ ap Ok c.in_default.is)

pub returns-then-is_live : goal.returns-then-is_live
unfolding reply_of
returns-then-is_live c =
    key-live _ _ _ _ _ _ _ c.loop-entry.invariant.fits c.loop-entry.invariant.steps _ _ c.drain_key.ensures _ (c.in_ok-entry.was ∙ ap Ok c.in-Some.is) _ c.is_live.ensures c.if-is_live.true

pub loop-entry-smaller : goal.loop-entry-smaller
loop-entry-smaller c =
    (key-passed _ _ _ _ _ _ _ c.loop-entry.invariant.fits c.loop-entry.invariant.steps _ _ c.drain_key.ensures _ (c.in_ok-entry.was ∙ ap Ok c.in-Some.is)).0

pub loop-entry-preserved : goal.loop-entry-preserved
loop-entry-preserved c =
    let q = c.in_ok-entry.was ∙ ap Ok c.in-Some.is in
    let p = key-passed _ _ _ _ _ _ _ c.loop-entry.invariant.fits c.loop-entry.invariant.steps _ _ c.drain_key.ensures _ q in
    let d = key-dead _ _ _ _ _ _ _ c.loop-entry.invariant.fits c.loop-entry.invariant.steps _ _ c.drain_key.ensures _ q _ c.is_live.ensures c.if-is_live.false in
    record { fits = p.1; steps = d }
