-- Each return is a case of the turn's definition, by the answer on the keys and by the verdict.
use mathlib.Core.Path.{◌∙◌}
use Rattle.compaction.specs.Turn.{turned}
use Rattle.compaction.proofs.Deciding.{d-tail, d-drop, d-other, d-low, d-on}
use Rattle.compaction.proofs.stream.decide.Goals as goal

pub returns-then-held : goal.returns-then-held
returns-then-held g c = c.dropped.ensures ∙ d-tail _ _ _ _ _ _ _ _ c.key_of.ensures.result_value c.key_of-2.ensures.result_value _ c.same_key-same.ensures c.if-held.true

pub returns-then-drops : goal.returns-then-drops
returns-then-drops g c =
    let e = c.ask-verdict.ensures in
    c.dropped-then-drops.ensures
    ∙ rw (← e) (d-drop _ _ _ _ _ _ _ _ c.key_of.ensures.result_value c.key_of-2.ensures.result_value _ c.same_key-same.ensures c.if-held.false _ c.drops.ensures c.if-drops.true)

pub returns-then-not-same : goal.returns-then-not-same
unfolding turned
returns-then-not-same g c =
    let e = c.ask-verdict.ensures in
    rw (← e) (d-other _ _ _ _ _ _ _ _ c.key_of.ensures.result_value c.key_of-2.ensures.result_value _ c.same_key-same.ensures c.if-held.false _ c.drops.ensures c.if-drops.false _ c.kind-kind.ensures _ c.replaces-reported.ensures _ c.goes_last.ensures _ c.unless.ensures c.if-not-same.true)

pub returns-then-next-job : goal.returns-then-next-job
unfolding turned
returns-then-next-job g c =
    let e = c.ask-verdict.ensures in
    rw (← e) (d-low _ _ _ _ _ _ _ _ c.key_of.ensures.result_value c.key_of-2.ensures.result_value _ c.same_key-same.ensures c.if-held.false _ c.drops.ensures c.if-drops.false _ c.kind-kind.ensures _ c.replaces-reported.ensures _ c.goes_before.ensures _ c.unless-then-next-job.ensures c.if-not-same.false c.if-next-job.true)

pub returns : goal.returns
unfolding turned
returns g c =
    let e = c.ask-verdict.ensures in
    rw (← e) (d-on _ _ _ _ _ _ _ _ c.key_of.ensures.result_value c.key_of-2.ensures.result_value _ c.same_key-same.ensures c.if-held.false _ c.drops.ensures c.if-drops.false _ c.kind-kind.ensures _ c.replaces-reported.ensures c.if-not-same.false c.if-next-job.false)
