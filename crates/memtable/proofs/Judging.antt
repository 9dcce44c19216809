-- What the one pass says of an image is what judging it says: both make the same tests in the same order.
use Rattle.std.specs.Prelude.{Ok, Err}
use Prim.Native.Nat.{ℕ, ◌+◌, ◌≤◌, ◌<◌, max}
use mathlib.Core.Path.{◌≡◌, refl, sym, ap, ◌∙◌, subst}
use mathlib.Core.List.{List, []}
use mathlib.Core.Bool.{Bool, true, false}
use native.Mathlib.Omega.{arith}
use borrow.Author.Tests.{lt-ltb, le-ltb, eq-eqb, ne_eqb, ltb-false, eqb-true}
use lib.ListN.{length, take, drop}
use Rattle.list.specs.Limits.{header_size}
use Rattle.list.specs.Pick.{pick, on_result}
use Rattle.list.specs.Check.{Verdict, count_in, check_list}
use Rattle.list.specs.Refusal.{refuse}
use Rattle.list.specs.declared.refusal.Refused.{Refused}
use Rattle.list.specs.Version.{Version, records, encode, Bytes, Fine, versions_of}
use Rattle.list.proofs.Parts.{bytes_take}
use Rattle.list.proofs.Accepted.{header-count}
use Rattle.list.proofs.Encode.{records-stand, encode-accepted, versions-encode}
use Rattle.list.proofs.Meaning.{accepted-encode, accepted-fine, accepted-count}
use Rattle.list.specs.declared.refusal.Refusal.TheVariants.{Unfit}
use Rattle.memtable.specs.Figures.{size_of, highest_of}
use Rattle.memtable.specs.Image.{Image, agrees, judged, judge}
use Rattle.memtable.specs.Private.{no_spot, no_survey, survey_from, Surveyed, sound_if, surveyed, agreed_with, examined}
use Rattle.memtable.proofs.Placing.{Split, Tells, tells}
use Rattle.memtable.specs.declared.Memtable.{Memtable}
use Rattle.memtable.specs.declared.image.Survey.{Survey}

-- the whole of what a call learns of an image
pub record Known (m : Memtable) (b : List ℕ) (k : List ℕ) (n : ℕ) (vs : List Version) (u : Survey) : Type 0 where
  pub fits : m.used ≤ length b
  pub image : take m.used b ≡ encode vs
  pub fine : Fine vs
  pub count : u.count ≡ length vs
  pub size : u.size ≡ size_of vs
  pub highest : u.highest ≡ highest_of vs
  pub same_size : m.size ≡ size_of vs
  pub same-highest : m.highest ≡ highest_of vs
  pub place : Split k n vs 0 header_size u.place

data Both (m : Memtable) (b k : List ℕ) (n : ℕ) : Surveyed → Image → Type 0 where
  neither : {f : Refused} → Both m b k n (Err f) (Err f)
  both : {u : Survey} {vs : List Version} → Known m b k n vs u → Both m b k n (Ok u) (Ok vs)

module _ (m : Memtable) (b k : List ℕ) (n : ℕ) where
  by-pick : (t : Bool) (x y : Surveyed) (x' y' : Image) → (t ≡ true → Both m b k n x x') → (t ≡ false → Both m b k n y y') → Both m b k n (pick t x y) (pick t x' y')
  unfolding pick
  by-pick true x y x' y' f g = f refl
  by-pick false x y x' y' f g = g refl

  -- an accepted image's survey
  surveys : (s : List ℕ) (c : ℕ) → Bytes s → check_list s ≡ Ok c → Tells k n (versions_of s) header_size no_survey (survey_from (count_in s) s header_size k n no_survey)
  unfolding no_survey no_spot
  surveys s c y h =
      let e : count_in s ≡ length (versions_of s) = header-count s c h ∙ sym (accepted-count s c y h) in
      let d : drop header_size s ≡ records (versions_of s) = ap (drop header_size) (accepted-encode s c y h) ∙ records-stand (versions_of s) in
      subst (λ j. Tells k n (versions_of s) header_size no_survey (survey_from j s header_size k n no_survey)) (sym e)
      (tells k n s (versions_of s) header_size no_survey (accepted-fine s c y h).fit d refl refl)

  from_zero : (x y : ℕ) → x ≡ 0 + y → x ≡ y
  from_zero x y h = omega arith

  from-max : (x y : ℕ) → x ≡ max 0 y → x ≡ y
  from-max x y h = omega arith

  accepted : (s : List ℕ) (c : ℕ) → s ≡ take m.used b → m.used ≤ length b → Bytes s → check_list s ≡ Ok c
      → Both m b k n (agreed_with m (survey_from (count_in s) s header_size k n no_survey)) (agrees m (versions_of s))
  unfolding agreed_with agrees no_survey no_spot size_of survey_from highest_of
  accepted s c q f y h =
      let t = surveys s c y h in
      let vs = versions_of s in
      let u = survey_from (count_in s) s header_size k n no_survey in
      let z : u.size ≡ size_of vs = from_zero _ _ t.size in
      let w : u.highest ≡ highest_of vs = from-max _ _ t.highest in
      rw (z, w)
      (by-pick _ _ _ _ _
      (λ i. by-pick _ _ _ _ _
      (λ j. both (record {
        fits = f;
        image = sym q ∙ accepted-encode s c y h;
        fine = accepted-fine s c y h;
        count = from_zero _ _ t.count;
        size = z;
        highest = w;
        same_size = eqb-true _ _ i;
        same-highest = eqb-true _ _ j;
        place = t.place;
      }))
      (λ _. neither))
      (λ _. neither))

  by-verdict : (s : List ℕ) (v : Verdict) → s ≡ take m.used b → m.used ≤ length b → Bytes s → check_list s ≡ v
      → Both m b k n (on_result (sound_if v (survey_from (count_in s) s header_size k n no_survey)) (agreed_with m) Err) (on_result v (λ _. agrees m (versions_of s)) Err)
  unfolding sound_if on_result
  by-verdict s (Ok c) q f y h = accepted s c q f y h
  by-verdict s (Err f) q _ y h = neither

  both_ways : Bytes b → Both m b k n (examined m b k n) (judge m b)
  unfolding examined judge judged surveyed
  both_ways y =
      by-pick _ _ _ _ _ (λ _. neither)
      (λ t. by-verdict (take m.used b) (check_list (take m.used b)) refl (ltb-false _ _ t) (bytes_take m.used b y) refl)

neither-is : {m : Memtable} {b k : List ℕ} {n : ℕ} {i : Image} {f : Refused} → Both m b k n (Err f) i → Err f ≡ i
neither-is neither = refl

-- what a sound image holds
pub record Holds (m : Memtable) (b k : List ℕ) (n : ℕ) (u : Survey) : Type 0 where
  pub vs : List Version
  pub held : judge m b ≡ Ok vs
  pub known : Known m b k n vs u

both_is : {m : Memtable} {b k : List ℕ} {n : ℕ} {u : Survey} {i : Image} → judge m b ≡ i → Both m b k n (Ok u) i → Holds m b k n u
both_is e (both {u} {vs} h) = record { vs = vs; held = e; known = h }

module _ (m : Memtable) (b k : List ℕ) (n : ℕ) (x : Surveyed) (y : Bytes b) (a : x ≡ examined m b k n) where
  pub is-refused : (f : Refused) → x ≡ Err f → Err f ≡ judge m b
  is-refused f e = neither-is (subst (λ z. Both m b k n z (judge m b)) (sym a ∙ e) (both_ways m b k n y))

  pub is_held : (u : Survey) → x ≡ Ok u → Holds m b k n u
  is_held u e = both_is refl (subst (λ z. Both m b k n z (judge m b)) (sym a ∙ e) (both_ways m b k n y))

-- versions that an image holds are the image's, and the state's figures are theirs
known_of : {m : Memtable} {b k : List ℕ} {n : ℕ} {x : Surveyed} {vs : List Version} → Both m b k n x (Ok vs) → (u : Survey) × Known m b k n vs u
known_of (both {u} {vs} h) = (u, h)

pub judge-holds : (m : Memtable) (b : List ℕ) (vs : List Version) → Bytes b → judge m b ≡ Ok vs → (u : Survey) × Known m b [] 0 vs u
judge-holds m b vs y e = known_of (subst (Both m b [] 0 (examined m b [] 0)) e (both_ways m b [] 0 y))

-- and an image that is theirs holds them
pub holds-judge : (m : Memtable) (b : List ℕ) (vs : List Version) → Fine vs → m.used ≤ length b → take m.used b ≡ encode vs → m.size ≡ size_of vs → m.highest ≡ highest_of vs
    → judge m b ≡ Ok vs
unfolding judge judged on_result agrees pick
holds-judge m b vs f u i s h =
    let a : check_list (take m.used b) ≡ Ok (length vs) = ap check_list i ∙ encode-accepted vs f in
    let v : versions_of (take m.used b) ≡ vs = ap versions_of i ∙ versions-encode vs f in
    simp (le-ltb _ _ u, a, v, eq-eqb _ _ s, eq-eqb _ _ h)

-- the tests of the code
module _ (m : Memtable) (b k : List ℕ) (n : ℕ) where
  pub e-past : length b < m.used → refuse Unfit 0 0 ≡ examined m b k n
  unfolding examined pick
  e-past h = simp (lt-ltb _ _ h)

  module _ (f : m.used ≤ length b) (x : Surveyed) (a : x ≡ surveyed (take m.used b) k n) where
    pub e-unsound : (why : Refused) → x ≡ Err why → Err why ≡ examined m b k n
    unfolding examined pick on_result
    e-unsound why e = simp (le-ltb _ _ f) (rw (← a, e))

    module _ (u : Survey) (e : x ≡ Ok u) where
      pub e-size : (m.size ≡ u.size → ⊥) → refuse Unfit 0 0 ≡ examined m b k n
      unfolding examined pick agreed_with on_result
      e-size h = simp (le-ltb _ _ f, ← a, e, ne_eqb _ _ h)

      pub e-highest : m.size ≡ u.size → (m.highest ≡ u.highest → ⊥) → refuse Unfit 0 0 ≡ examined m b k n
      unfolding examined pick agreed_with on_result
      e-highest g h = simp (le-ltb _ _ f, ← a, e, eq-eqb _ _ g, ne_eqb _ _ h)

      pub e-sound : m.size ≡ u.size → m.highest ≡ u.highest → Ok u ≡ examined m b k n
      unfolding examined pick agreed_with on_result
      e-sound g h = simp (le-ltb _ _ f, ← a, e, eq-eqb _ _ g, eq-eqb _ _ h)
