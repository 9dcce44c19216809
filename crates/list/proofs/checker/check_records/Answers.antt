-- `check_records` meets its contract: checking the records left, after those done, gives what checking all of them gives.
use Rattle.list.specs.Limits.{header_size}
use Rattle.list.specs.declared.record.Record.{Record}
use mathlib.Core.Path.{sym, ap, ◌∙◌}
use native.Mathlib.Omega.{arith}
use native.Mathlib.Numerals.{unary_clauses}
use Rattle.list.specs.Refusal.{refused}
use Rattle.list.specs.declared.refusal.Refusal.TheVariants.{Excess}
use Rattle.std.specs.Prelude.{Ok, Err, ◌-◌, ◌+◌, ◌≡◌}
use Rattle.list.specs.Record.{no_record}
use Rattle.list.specs.Check.{check_from}
use Rattle.list.proofs.Whole.{inside}
use Rattle.list.proofs.Checking.{next-rises, t-ends, t-trails, t-stops, t-on}
use Rattle.list.proofs.checker.check_records.Goals as goal

pub loop-done-init : goal.loop-done-init
unfolding header_size no_record
loop-done-init c =
    let e = c.no_record-before.ensures in
    (rw e (omega arith), simp unary_clauses (ap (λ (p : Record). check_from c.args.count c.args.s.now header_size p 0) e))

pub returns-in-Err : goal.returns-in-Err
returns-in-Err c =
    rw c.at_record.ensures (t-stops _ _ _ _ _ _ _ c.next_record.ensures (omega arith) _ c.in-Err.is c.loop-done.invariant.1)

pub loop-done-preserved : goal.loop-done-preserved
loop-done-preserved c =
    let n = c.next_record.ensures in
    let i = inside _ _ _ (next-rises _ _ _ _ (sym n ∙ c.in-Ok.is)).reads in
    let e : c.args.count - (c.loop-done.done + 1) ≡ c.args.count - c.loop-done.done - 1 = omega arith in
    (omega arith, rw e (t-on _ _ _ _ _ _ _ n (omega arith) _ c.in-Ok.is c.loop-done.invariant.1))

pub returns-then-at-s : goal.returns-then-at-s
returns-then-at-s c =
    let e : c.args.count ≡ c.loop-done.done = omega arith in
    ap Err (c.at_record-then-at-s.ensures ∙ ap (refused Excess 0) e) ∙ t-trails _ _ _ _ _ _ c.if-at-s.true (omega arith) c.loop-done.invariant.1

pub returns : goal.returns
returns c =
    let e : c.loop-done.done ≡ c.args.count = omega arith in
    ap Ok (sym e) ∙ t-ends _ _ _ _ _ _ c.if-at-s.false (omega arith) c.loop-done.invariant.1
