-- A survey of an encoded list tells its versions' figures and splits them at the place, because each record reads back as its version.
use Rattle.std.specs.Prelude.{Some, None}
use Rattle.std.specs.Option.{is_some}
use Rattle.std.specs.declared.cmp.Ordering.{Ordering}
use Rattle.std.specs.declared.cmp.Ordering.TheVariants.{Less, Equal, Greater}
use Rattle.list.specs.Pick.{pick}
use Rattle.list.specs.Order.{versions}
use Rattle.memtable.specs.Change.{by_order}
use Prim.Native.Nat.{ℕ, suc, ◌+◌, max}
use mathlib.Core.Path.{◌≡◌, refl, sym, ap, ◌∙◌, subst}
use mathlib.Core.List.{List, [], ◌∷◌, ◌++◌}
use mathlib.Core.Bool.{true, false}
use native.Mathlib.Omega.{arith}
use lib.ListN.{length, drop, length-append}
use Rattle.list.specs.Record.{key_of}
use Rattle.list.specs.Limits.{header_size}
use Rattle.list.specs.Version.{Version, record_of, records, encode, Fits, AllFit, Fine, version_at}
use Rattle.list.proofs.Numbers as numbers
use Rattle.list.proofs.Whole.{inside}
use Rattle.list.proofs.Encode.{records-stand}
use Rattle.list.proofs.Places.{records-append, records-one}
use Rattle.list.proofs.Strict.{greater-less, greater-equal}
use Rattle.list.proofs.Fits.{record_for, next-is, reads, holds, ends}
use Rattle.list.specs.declared.record.Record.{Record}
use Rattle.memtable.specs.Figures.{size_of, highest_of}
use Rattle.memtable.specs.Private.{Lies, stop_at, move_to, spot_of, pass, survey_from}
use Rattle.memtable.proofs.Surveying.{survey-one}
use Rattle.memtable.specs.declared.image.Spot.{Spot}
use Rattle.memtable.specs.declared.image.Survey.{Survey}

module _ (k : List ℕ) (n : ℕ) where
  -- a turn, as the version tells it whose record stands at a place
  step : Spot → ℕ → Version → Spot
  step p at v = pick (is_some p.here) p (move_to p (record_for at v) (versions k n v.key v.seqno))

  taken : Survey → ℕ → Version → Survey
  taken u at v =
      record {
        count = u.count + 1;
        size = u.size + length v.key + length v.value;
        highest = max u.highest v.seqno;
        place = step u.place at v;
      }

  survey_on : List Version → ℕ → Survey → Survey
  survey_on [] at u = u
  survey_on (v ∷ vs) at u = survey_on vs (record_for at v).next (taken u at v)

  place_in : List Version → ℕ → Spot → Spot
  place_in [] at p = p
  place_in (v ∷ vs) at p = place_in vs (record_for at v).next (step p at v)

  pass-is : (s : List ℕ) (u : Survey) (at : ℕ) (v : Version) → version_at s (record_for at v) ≡ v → pass s k n u (record_for at v) ≡ taken u at v
  unfolding pass spot_of taken step record_for version_at
  pass-is s u at v h =
      let e : key_of s (record_for at v) ≡ v.key = ap (λ (x : Version). x.key) h in
      rw e

  survey-none : (s : List ℕ) (at : ℕ) (u : Survey) → survey_from 0 s at k n u ≡ u
  unfolding survey_from
  survey-none s at u = refl

  survey-is : (s : List ℕ) (vs : List Version) (at : ℕ) (u : Survey) → AllFit vs → drop at s ≡ records vs → survey_from (length vs) s at k n u ≡ survey_on vs at u
  unfolding AllFit records survey_on
  survey-is s [] at u f h = survey-none s at u
  survey-is s (v ∷ vs) at u f h =
      survey-one s k n at u (suc (length vs)) (length vs) refl (record_for at v) (reads s (records vs) at v f.0 h)
      ∙ ap (survey_from (length vs) s (record_for at v).next k n) (pass-is s u at v (holds s (records vs) at v f.0 h))
      ∙ survey-is s vs (record_for at v).next (taken u at v) f.1 (ends s (records vs) at v f.0 h)

  on-count : (vs : List Version) (at : ℕ) (u : Survey) → (survey_on vs at u).count ≡ u.count + length vs
  unfolding survey_on taken
  on-count [] at u = omega arith
  on-count (v ∷ vs) at u = on-count vs (record_for at v).next (taken u at v) ∙ omega arith

  on-size : (vs : List Version) (at : ℕ) (u : Survey) → (survey_on vs at u).size ≡ u.size + size_of vs
  unfolding survey_on taken size_of
  on-size [] at u = omega arith
  on-size (v ∷ vs) at u = on-size vs (record_for at v).next (taken u at v) ∙ omega arith

  on-highest : (vs : List Version) (at : ℕ) (u : Survey) → (survey_on vs at u).highest ≡ max u.highest (highest_of vs)
  unfolding survey_on taken highest_of
  on-highest [] at u = omega arith
  on-highest (v ∷ vs) at u = on-highest vs (record_for at v).next (taken u at v) ∙ omega arith

  on-place : (vs : List Version) (at : ℕ) (u : Survey) → (survey_on vs at u).place ≡ place_in vs at u.place
  unfolding survey_on taken place_in
  on-place [] at u = refl
  on-place (v ∷ vs) at u = on-place vs (record_for at v).next (taken u at v)

  -- every version of these stands before the place
  unfoldable pub Passed : List Version → Type 0
  Passed [] = Unit {0}
  Passed (v ∷ vs) = (versions k n v.key v.seqno ≡ Greater) × Passed vs

  -- who stands at the place, if anybody
  pub data Meeting (p : Spot) : List Version → Type 0 where
    at-end : p.here ≡ None → Meeting p []
    at_one : (w : Version) (ws : List Version) → (versions k n w.key w.seqno ≡ Greater → ⊥) → p.here ≡ Some (record_for p.start w) → Meeting p (w ∷ ws)

  -- versions split at a place
  pub record Split (vs : List Version) (r at : ℕ) (p : Spot) : Type 0 where
    pub before : List Version
    pub after : List Version
    pub whole : vs ≡ before ++ after
    pub ranked : p.rank ≡ r + length before
    pub started : p.start ≡ at + length (records before)
    pub passed : Passed before
    pub meeting : Meeting p after

  on-from : Spot → Record → Spot
  on-from p e = record { rank = p.rank + 1; start = e.next; here = None }

  stays : (vs : List Version) (at : ℕ) (p : Spot) → is_some p.here ≡ true → place_in vs at p ≡ p
  unfolding place_in step pick
  stays [] at p h = refl
  stays (v ∷ vs) at p h = rw h (stays vs (record_for at v).next p h)

  nobody : (p : Spot) → p.here ≡ None → is_some p.here ≡ false
  nobody p e = ap is_some e

  step-on : (p : Spot) (at : ℕ) (v : Version) → p.here ≡ None → versions k n v.key v.seqno ≡ Greater → step p at v ≡ on-from p (record_for at v)
  unfolding step pick move_to by_order on-from
  step-on p at v a b = let h = nobody p a in rw (h, b)

  step-stops : (p : Spot) (at : ℕ) (v : Version) → p.here ≡ None → (versions k n v.key v.seqno ≡ Greater → ⊥) → step p at v ≡ stop_at p (record_for at v)
  unfolding step pick move_to by_order
  step-stops p at v a f = let h = nobody p a in rw h (go (versions k n v.key v.seqno) refl)
    where
      go : (o : Ordering) → versions k n v.key v.seqno ≡ o → move_to p (record_for at v) o ≡ stop_at p (record_for at v)
      go Less e = refl
      go Equal e = refl
      go Greater e = absurd (f e)

  goes-past : (v : Version) (vs : List Version) (r at : ℕ) (p : Spot) → p.here ≡ None → versions k n v.key v.seqno ≡ Greater
      → Split vs (r + 1) (record_for at v).next (place_in vs (record_for at v).next (on-from p (record_for at v)))
      → Split (v ∷ vs) r at (place_in (v ∷ vs) at p)
  unfolding place_in records Passed
  goes-past v vs r at p a b i =
      let l = length-append (record_of v) (records i.before) in
      let e = next-is at v in
      let x = i.ranked in
      let y = i.started in
      rw (step-on p at v a b)
      (record { before = v ∷ i.before; after = i.after; whole = ap (λ (l : List Version). v ∷ l) i.whole; ranked = omega arith; started = omega arith; passed = (b, i.passed); meeting = i.meeting })

  halts : (v : Version) (vs : List Version) (r at : ℕ) (p : Spot) → p.rank ≡ r → p.start ≡ at → p.here ≡ None → (versions k n v.key v.seqno ≡ Greater → ⊥)
      → Split (v ∷ vs) r at (place_in (v ∷ vs) at p)
  unfolding place_in records Passed stop_at
  halts v vs r at p x y a h =
      let q = stop_at p (record_for at v) in
      rw (step-stops p at v a h, stays vs (record_for at v).next q refl)
      (record { before = []; after = v ∷ vs; whole = refl; ranked = omega arith; started = omega arith; passed = tt; meeting = at_one v vs h (ap (λ (j : ℕ). Some (record_for j v)) (sym y)) })

  splits : (vs : List Version) (r at : ℕ) (p : Spot) → p.rank ≡ r → p.start ≡ at → p.here ≡ None → Split vs r at (place_in vs at p)
  unfolding place_in records Passed on-from
  splits [] r at p a b c = record { before = []; after = []; whole = refl; ranked = omega arith; started = omega arith; passed = tt; meeting = at-end c }
  splits (v ∷ vs) r at p a b c =
      go (versions k n v.key v.seqno) refl
      (splits vs (r + 1) (record_for at v).next (on-from p (record_for at v)) (omega arith) refl refl)
    where
      go : (o : Ordering) → versions k n v.key v.seqno ≡ o
          → Split vs (r + 1) (record_for at v).next (place_in vs (record_for at v).next (on-from p (record_for at v)))
          → Split (v ∷ vs) r at (place_in (v ∷ vs) at p)
      go Greater e i = goes-past v vs r at p c e i
      go Less e i = halts v vs r at p a b c (λ f. greater-less (sym f ∙ e))
      go Equal e i = halts v vs r at p a b c (λ f. greater-equal (sym f ∙ e))

  -- a survey of records that stand at a place
  pub record Tells (vs : List Version) (at : ℕ) (u w : Survey) : Type 0 where
    pub count : w.count ≡ u.count + length vs
    pub size : w.size ≡ u.size + size_of vs
    pub highest : w.highest ≡ max u.highest (highest_of vs)
    pub place : Split vs u.place.rank at w.place

  pub tells : (s : List ℕ) (vs : List Version) (at : ℕ) (u : Survey) → AllFit vs → drop at s ≡ records vs → u.place.start ≡ at → u.place.here ≡ None
      → Tells vs at u (survey_from (length vs) s at k n u)
  tells s vs at u f h a b =
      rw (survey-is s vs at u f h)
      (record {
        count = on-count vs at u;
        size = on-size vs at u;
        highest = on-highest vs at u;
        place = rw (on-place vs at u) (splits vs u.place.rank at u.place refl a b);
      })

fit-from : (before : List Version) (w : Version) (ws : List Version) → AllFit (before ++ w ∷ ws) → Fits w
unfolding AllFit
fit-from [] w ws f = f.0
fit-from (x ∷ before) w ws f = fit-from before w ws f.1

-- what stands behind a part of an encoded list's versions
pub lies_behind : (vs before after : List Version) (at : ℕ) → vs ≡ before ++ after → at ≡ header_size + length (records before) → drop at (encode vs) ≡ records after
lies_behind vs before after at q a =
    numbers.after (encode vs) (records before) (records after) header_size (length (records before)) refl (records-stand vs ∙ ap records q ∙ records-append before after) at a

-- the record that is here has its version's key, and lies in the image
module _ (s : List ℕ) (vs before : List Version) (w : Version) (ws : List Version) (at : ℕ) (i : s ≡ encode vs) (f : Fine vs) (q : vs ≡ before ++ w ∷ ws) (a : at ≡ header_size + length (records before)) where
  here : drop at s ≡ record_of w ++ records ws
  here = ap (drop at) i ∙ lies_behind vs before (w ∷ ws) at q a ∙ records-one w ws

  fits : Fits w
  fits = fit-from before w ws (subst AllFit q f.fit)

  pub key-here : key_of s (record_for at w) ≡ w.key
  unfolding version_at
  key-here = ap (λ (x : Version). x.key) (holds s (records ws) at w fits here)

  pub lies_here : Lies (length s) (record_for at w)
  unfolding record_for
  lies_here = let x = inside s at _ (reads s (records ws) at w fits here) in (x.key_in, let y = x.next-in in omega arith)
