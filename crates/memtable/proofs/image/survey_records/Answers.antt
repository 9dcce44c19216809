-- What is left to judge and to survey comes to the same as the whole.
use mathlib.Core.Path.{◌≡◌, refl, sym, ap, ◌∙◌}
use native.Mathlib.Omega.{arith}
use native.Mathlib.Numerals.{unary_clauses}
use Rattle.std.specs.Prelude.{ℕ, Err, ◌+◌, ◌-◌}
use Rattle.list.specs.Limits.{header_size}
use Rattle.list.specs.Record.{no_record}
use Rattle.list.specs.Refusal.{refused}
use Rattle.list.specs.Check.{check_from}
use Rattle.list.specs.declared.record.Record.{Record}
use Rattle.list.specs.declared.refusal.Refusal.TheVariants.{Excess}
use Rattle.list.proofs.Whole.{inside}
use Rattle.list.proofs.Checking.{next-rises, t-on}
use Rattle.memtable.specs.Private.{no_survey, no_spot, survey_from}
use Rattle.memtable.proofs.Surveying.{t-sound, t-excess, t-unsound, t-passes, keeps_low}
use Rattle.memtable.proofs.image.survey_records.Goals as goal

pub loop-done-init : goal.loop-done-init
unfolding header_size no_record no_survey no_spot
loop-done-init c =
    let e = c.no_record-before.ensures in
    let f = c.no_survey-survey.ensures in
    let a = c.args in
    record {
      key_inside = rw e (omega arith);
      counted = rw f refl;
      ranked = rw f (omega arith);
      low = rw f (omega arith);
      judged = simp unary_clauses (ap (λ (p : Record). check_from a.count a.s.now header_size p 0) e);
      told = simp unary_clauses (ap (survey_from a.count a.s.now header_size a.key.now a.seqno) f);
    }

pub next_record-requires : goal.next_record-requires
next_record-requires c = c.loop-done.invariant.key_inside

pub returns-in-Err : goal.returns-in-Err
returns-in-Err c = t-unsound _ _ _ _ _ _ _ _ c.next_record.ensures (omega arith) _ c.in-Err.is c.loop-done.invariant.judged

pub pass-survey-requires : goal.pass-survey-requires
pass-survey-requires c =
    let i = inside _ _ _ (next-rises _ _ _ _ (sym c.next_record.ensures ∙ c.in-Ok.is)).reads in
    record { key_inside = omega arith; figures_in_bounds = (omega arith, omega arith, omega arith) }

pub loop-done-preserved : goal.loop-done-preserved
loop-done-preserved c =
    let n = c.next_record.ensures in
    let w = c.in-Ok.is in
    let l = c.loop-done.invariant in
    let i = inside _ _ _ (next-rises _ _ _ _ (sym n ∙ w)).reads in
    let k = keeps_low _ _ _ _ _ _ _ c.pass-survey.ensures i l.ranked l.low in
    let e : c.args.count - (c.loop-done.done + 1) ≡ c.args.count - c.loop-done.done - 1 = omega arith in
    record {
      key_inside = omega arith;
      counted = omega arith;
      ranked = k.1;
      low = k.2;
      judged = rw e (t-on _ _ _ _ _ _ _ n (omega arith) _ w l.judged);
      told = rw e (t-passes _ _ _ _ _ _ _ _ n (omega arith) _ w _ c.pass-survey.ensures _ l.told);
    }

pub returns-then-at-s : goal.returns-then-at-s
returns-then-at-s c =
    let e : c.args.count ≡ c.loop-done.done = omega arith in
    ap (λ (n : ℕ). Err (refused Excess 0 n)) e ∙ t-excess _ _ _ _ _ _ _ c.if-at-s.true (omega arith) c.loop-done.invariant.judged

pub returns : goal.returns
returns c = t-sound _ _ _ _ _ _ _ _ _ _ c.if-at-s.false (omega arith) c.loop-done.invariant.judged c.loop-done.invariant.told
