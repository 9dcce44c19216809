-- `drain_source` meets its contract: at each turn the record that leads is passed, and the next of its source leads if it has the key.
use mathlib.Core.Path.{◌≡◌, refl, ap, ◌∙◌}
use native.Mathlib.Omega.{arith}
use Rattle.std.specs.Prelude.{Ok}
use Rattle.std.proofs.lemmas.Result.{err_from_is_err_and}
use Rattle.merge.proofs.Looking.{list-lies, ends-room, next-is}
use Rattle.read.proofs.Laid.{few}
use Rattle.read.proofs.Keyed.{led-there, led-fits, led-falls, led-twin, led-torn, led-over, led-other, led_on}
use Rattle.merge.specs.Plain.{next}
use Rattle.merge.specs.Private.{head_of, reader_in, reply_of}
use Rattle.read.proofs.mvcc_stream.drain_source.Goals as goal
use Rattle.read.proofs.mvcc_stream.drain_source.Goals.{After-next_head}

pub loop-x-init : goal.loop-x-init
loop-x-init c = record { of-source = refl; led = c.requires; drains = refl; fewer = omega arith }

pub pop-requires : goal.pop-requires
pop-requires c =
    let i = led-there c.loop-x.invariant in
    record { source = omega (arith, i.0, few c.args.layout.now); some_left = i.1 }

pub returns-then-best : goal.returns-then-best
returns-then-best c =
    record { drains = led-twin c.loop-x.invariant _ c.hold_entry-held.ensures _ c.pop.ensures c.if-best.true; torn = tt }

pub span-requires : goal.span-requires
span-requires c = (led-there c.loop-x.invariant).0

pub next_head-requires : goal.next_head-requires
next_head-requires c =
    let i = led-there c.loop-x.invariant in
    let f = led-fits c.loop-x.invariant _ c.hold_entry-held.ensures _ c.pop.ensures in
    let l = c.args.layout.now in
    record {
      start_le_end = list-lies l _ i.0 _ c.span.ensures;
      back_bound = rw c.left.ensures (ends-room l _ i.0 _ c.span.ensures _ (f.inside _ i.0));
    }

pub left-requires : goal.left-requires
left-requires c = omega (arith, (led-there c.loop-x.invariant).0, few c.args.layout.now)

-- what stands next at the source's span is what stands next in it
read : (c : After-next_head) → reply_of head_of c.next_head.result ≡ next c.args.end (reader_in c.args.layout.now.bundle) c.pop.new.self c.args.best.seen.list
read c = c.next_head.ensures ∙ next-is c.args.layout.now _ (led-there c.loop-x.invariant).0 _ c.span.ensures _ _ _ c.left.ensures

pub returns-in_err-next : goal.returns-in_err-next
returns-in_err-next c =
    let p = err_from_is_err_and c.from_residual.result c.from_residual.ensures.1 in
    let z = led-torn c.loop-x.invariant _ c.hold_entry-held.ensures _ c.pop.ensures c.if-best.false _ (read (goal.at.returns-in_err-next c).After-next_head) _ c.in_err-next.was in
    rw p.1 (record { drains = tt; torn = z })

pub returns-in_default : goal.returns-in_default
returns-in_default c =
    let z = led-over c.loop-x.invariant _ c.hold_entry-held.ensures _ c.pop.ensures c.if-best.false _ (read (goal.at.returns-in_default c).After-next_head) (c.in_ok-next.was ∙ ap Ok c.in_default.is) in
    record { drains = z; torn = tt }

pub returns-then-not-of_one_key : goal.returns-then-not-of_one_key
returns-then-not-of_one_key c =
    let z = led-other c.loop-x.invariant _ c.hold_entry-held.ensures _ c.pop.ensures c.if-best.false _ (read (goal.at.returns-then-not-of_one_key c).After-next_head) _ (c.in_ok-next.was ∙ ap Ok c.in-Some.is) _ c.of_one_key.ensures c.if-not-of_one_key.true in
    record { drains = z; torn = tt }

pub loop-x-smaller : goal.loop-x-smaller
loop-x-smaller c = led-falls c.loop-x.invariant _ c.hold_entry-held.ensures _ c.pop.ensures

pub loop-x-preserved : goal.loop-x-preserved
loop-x-preserved c =
    led_on c.loop-x.invariant _ c.hold_entry-held.ensures _ c.pop.ensures c.if-best.false _ (read (goal.at.loop-x-preserved c).After-next_head) _ (c.in_ok-next.was ∙ ap Ok c.in-Some.is)
    _ c.of_one_key.ensures c.if-not-of_one_key.false
