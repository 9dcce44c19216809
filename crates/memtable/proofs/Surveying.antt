-- The pass over an image is its definition, turn by turn: what is left to survey comes to the same as the whole.
use Rattle.std.specs.Prelude.{Result, Ok, Err}
use Prim.Native.Nat.{ℕ, suc, ◌+◌, ◌-◌, ◌≤◌, ◌<◌}
use mathlib.Core.Path.{◌≡◌, refl, sym, ap, ◌∙◌}
use mathlib.Core.List.{List}
use mathlib.Core.Bool.{Bool, true, false}
use native.Mathlib.Omega.{arith}
use Rattle.std.specs.Option.{is_some}
use lib.ListN.{length}
use Rattle.list.specs.Limits.{header_size, record_size}
use Rattle.list.specs.Pick.{pick, on_result}
use Rattle.list.specs.Order.{versions}
use Rattle.list.specs.Record.{read_at, key_of, no_record}
use Rattle.list.specs.Check.{next_at, check_from, check_header}
use Rattle.list.proofs.Whole.{Inside}
use Rattle.list.proofs.Header.{list-no, list-yes}
use Rattle.list.proofs.Accepted.{header_of}
use Rattle.list.proofs.Checking.{next-rises, t-ends, t-trails, t-stops}
use Rattle.std.specs.declared.cmp.Ordering.{Ordering}
use Rattle.std.specs.declared.cmp.Ordering.TheVariants.{Less, Equal, Greater}
use Rattle.list.specs.declared.refusal.Refusal.{Refusal}
use Rattle.list.specs.declared.refusal.Refusal.TheVariants.{Excess}
use Rattle.list.specs.declared.record.Record.{Record}
use Rattle.list.specs.Record.{Read}
use Rattle.list.specs.Check.{Verdict}
use Rattle.memtable.specs.Change.{by_order}
use Rattle.memtable.specs.Private.{stop_at, move_to, spot_of, pass, no_survey, survey_from, Surveyed, sound_if, surveyed}
use Rattle.memtable.specs.declared.image.Spot.{Spot}
use Rattle.memtable.specs.declared.image.Survey.{Survey}
use Rattle.list.specs.Refusal.{refuse}

-- the image's header decides, or else its records do
module _ (s key : List ℕ) (seqno : ℕ) (h : Result ℕ Refusal) (a : h ≡ check_header s) where
  pub survey-no : (why : Refusal) → h ≡ Err why → refuse why 0 0 ≡ surveyed s key seqno
  unfolding surveyed sound_if on_result
  survey-no why b = rw (← list-no s h a why b)

  pub survey-yes : (n : ℕ) → h ≡ Ok n → (r : Surveyed) → r ≡ sound_if (check_from n s header_size no_record 0) (survey_from n s header_size key seqno no_survey) → r ≡ surveyed s key seqno
  unfolding surveyed
  survey-yes n b r f = f ∙ rw ((header_of s n (sym a ∙ b)).1, list-yes s h a n b _ refl)

-- once a record is here the place stays, and before that the order decides
module _ (s k : List ℕ) (n : ℕ) (p : Spot) (e : Record) where
  pub p-stays : is_some p.here ≡ true → p ≡ spot_of s k n p e
  unfolding spot_of pick
  p-stays h = rw h

  pub p-moves : is_some p.here ≡ false → (o : Ordering) → o ≡ versions k n (key_of s e) e.seqno → move_to p e o ≡ spot_of s k n p e
  unfolding spot_of pick
  p-moves h o f = rw (h, ← f)

  rank_rises : (spot_of s k n p e).rank ≤ p.rank + 1
  unfolding spot_of pick move_to stop_at by_order
  rank_rises = go (is_some p.here) (versions k n (key_of s e) e.seqno)
    where
      go : (b : Bool) (o : Ordering) → (pick b p (move_to p e o)).rank ≤ p.rank + 1
      go true o = omega arith
      go false Less = omega arith
      go false Equal = omega arith
      go false Greater = omega arith

-- the figures keep below the place that was reached
pub keeps_low : (s k : List ℕ) (n : ℕ) (u r : Survey) (e : Record) (at : ℕ) → r ≡ pass s k n u e → Inside (length s) at e
    → u.place.rank ≤ u.count → u.count + u.size + header_size ≤ at → (r.count ≡ u.count + 1) × (r.place.rank ≤ r.count) × (r.count + r.size + header_size ≤ e.next)
unfolding record_size pass
keeps_low s k n u r e at h i a b =
    let c = rank_rises s k n u.place e in
    rw h (omega arith, omega arith, omega arith)

pub survey-one : (s key : List ℕ) (seqno at : ℕ) (u : Survey) (n m : ℕ) → n ≡ suc m → (e : Record) → read_at s at ≡ Ok e
    → survey_from n s at key seqno u ≡ survey_from m s e.next key seqno (pass s key seqno u e)
unfolding survey_from on_result
survey-one s key seqno at u n m more e h = rw more (rw h)

-- the loop's turns and ends: v is what judging the whole comes to, w what surveying it comes to
module _ (s : List ℕ) (at : ℕ) (p : Record) (done n : ℕ) (v : Verdict) (w : Survey) where
  pub t-excess : (at ≡ length s → ⊥) → n ≤ 0 → check_from n s at p done ≡ v → refuse Excess 0 done ≡ sound_if v w
  unfolding sound_if on_result
  t-excess h z i = ap (λ (x : Verdict). sound_if x w) (t-trails s at p done n v h z i)

  pub t-unsound : (r : Read) → r ≡ next_at s p at → 0 < n → (k : Refusal) → r ≡ Err k → check_from n s at p done ≡ v → refuse k 0 done ≡ sound_if v w
  unfolding sound_if on_result
  t-unsound r a more k b i = ap (λ (x : Verdict). sound_if x w) (t-stops s at p done n v r a more k b i)

module _ (s key : List ℕ) (seqno at : ℕ) (p : Record) (u : Survey) (n : ℕ) where
  pub t-sound : (done : ℕ) (v : Verdict) (w : Survey) → at ≡ length s → n ≤ 0 → check_from n s at p done ≡ v → survey_from n s at key seqno u ≡ w → Ok u ≡ sound_if v w
  unfolding sound_if on_result survey_from
  t-sound done v w h z i j =
      let e : n ≡ 0 = omega arith in
      let f : u ≡ w = rw e at j in
      ap Ok f ∙ ap (λ (x : Verdict). sound_if x w) (t-ends s at p done n v h z i)

  pub t-passes : (r : Read) → r ≡ next_at s p at → 0 < n → (e : Record) → r ≡ Ok e → (u' : Survey) → u' ≡ pass s key seqno u e
      → (w : Survey) → survey_from n s at key seqno u ≡ w → survey_from (n - 1) s e.next key seqno u' ≡ w
  t-passes r a more e b u' f w i =
      let m : n ≡ suc (n - 1) = omega arith in
      let h = (next-rises s p at e (sym a ∙ b)).reads in
      ap (survey_from (n - 1) s e.next key seqno) f ∙ sym (survey-one s key seqno at u n (n - 1) m e h) ∙ i
