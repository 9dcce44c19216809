-- The loop over one source's records gives the ends that the start gives it: having read some, it stands where the definition stands on the rest.
use native.Mathlib.Omega.{arith}
use mathlib.Core.List.{List, ◌∷◌, []}
use mathlib.Core.Bool.{Bool, true, false, not, ◌&&◌}
use mathlib.Core.Option.{Option, Option-elim, none, some}
use lib.Dec.{ltb, eqb}
use borrow.Author.Tests.{lt-ltb, le-ltb, eq-eqb, ne_eqb}
use mathlib.Core.Path.{refl, sym, ap₂, ◌≡◌, ◌∙◌}
use Prim.Native.Nat.{ℕ, zero, suc, ◌+◌, ◌≤◌, ◌<◌}
use Rattle.list.specs.Pick.{pick}
use Rattle.list.proofs.Strict.{Three, eq, gt, lt, three}
use Rattle.merge.specs.Placed.{Placed}
use Rattle.read.specs.Bounds.{Bound, from_lower, to_upper}
use Rattle.read.specs.Start.{end_to, first_from, last_to, recorded}
use Rattle.std.specs.Prelude.{Result, Ok, Err}
use Rattle.merge.specs.declared.head.Torn.{Torn}
use Rattle.read.specs.Private.{scan}
use Rattle.read.proofs.Stretch.{first_on, first-here, last_more, last-here, last_none}

-- the first and the last, having looked at the records before i
unfoldable pub first_at : Bound → ℕ → ℕ → List Placed → ℕ
first_at lo i f vs = pick (eqb f i) (i + first_from lo vs) f

unfoldable pub last_at : Bound → ℕ → ℕ → List Placed → ℕ
last_at hi i b vs = pick (ltb 0 (last_to hi vs)) (i + last_to hi vs) b

module _ (lo : Bound) (i f : ℕ) (vs : List Placed) where
  first-open : f ≡ i → first_at lo i f vs ≡ i + first_from lo vs
  unfolding first_at pick
  first-open e = rw (eq-eqb f i e)

  first_found : f < i → first_at lo i f vs ≡ f
  unfolding first_at pick
  first_found h =
      let d : f ≡ i → ⊥ = λ e. omega arith in
      rw (ne_eqb f i d)

module _ (hi : Bound) (i b : ℕ) (vs : List Placed) where
  last_some : 0 < last_to hi vs → last_at hi i b vs ≡ i + last_to hi vs
  unfolding last_at pick
  last_some h = rw (lt-ltb _ _ h)

  last-same : last_to hi vs ≡ 0 → last_at hi i b vs ≡ b
  unfolding last_at pick
  last-same h =
      let d : last_to hi vs ≤ 0 = omega arith in
      rw (le-ltb 0 (last_to hi vs) d)

first_next : (lo : Bound) (i f : ℕ) (v : Placed) (vs : List Placed) → f ≤ i
    → first_at lo (suc i) (pick (eqb f i && not (from_lower lo v.version.key)) (suc i) f) vs ≡ first_at lo i f (v ∷ vs)
unfolding pick
first_next lo i f v vs h = go (three f i) (from_lower lo v.version.key) refl
  where
    go : Three f i → (b : Bool) → from_lower lo v.version.key ≡ b → first_at lo (suc i) (pick (eqb f i && not b) (suc i) f) vs ≡ first_at lo i f (v ∷ vs)
    go (lt l) b e =
        let d : f ≡ i → ⊥ = λ q. omega arith in
        rw (ne_eqb f i d) (first_found lo (suc i) f vs (omega arith) ∙ sym (first_found lo i f (v ∷ vs) l))
    go (eq l) true e = rw (eq-eqb f i l) (first_found lo (suc i) f vs (omega arith) ∙ omega (arith, first-open lo i f (v ∷ vs) l, first-here lo v vs e))
    go (eq l) false e = rw (eq-eqb f i l) (first-open lo (suc i) (suc i) vs refl ∙ omega (arith, first-open lo i f (v ∷ vs) l, first_on lo v vs e))
    go (gt l) b e = absurd (omega arith)

last-next : (hi : Bound) (i b : ℕ) (v : Placed) (vs : List Placed) → last_at hi (suc i) (pick (to_upper hi v.version.key) (suc i) b) vs ≡ last_at hi i b (v ∷ vs)
unfolding pick
last-next hi i b v vs = go (three 0 (last_to hi vs)) (to_upper hi v.version.key) refl
  where
    go : Three 0 (last_to hi vs) → (u : Bool) → to_upper hi v.version.key ≡ u → last_at hi (suc i) (pick u (suc i) b) vs ≡ last_at hi i b (v ∷ vs)
    go (lt l) u e =
        let g = last_more hi v vs l in
        last_some hi (suc i) (pick u (suc i) b) vs l ∙ omega (arith, last_some hi i b (v ∷ vs) (omega arith))
    go (eq l) true e =
        let g = last-here hi v vs (sym l) e in
        last-same hi (suc i) (suc i) vs (sym l) ∙ omega (arith, last_some hi i b (v ∷ vs) (omega arith))
    go (eq l) false e = last-same hi (suc i) b vs (sym l) ∙ sym (last-same hi i b (v ∷ vs) (last_none hi v vs (sym l) e))
    go (gt l) u e = absurd (omega arith)

-- the ends that the records of a list give, having looked at those before i
unfoldable pub scan_of : Bound → Bound → ℕ → ℕ → ℕ → Option (List Placed) → Result (ℕ × ℕ) Torn
scan_of lo hi i f b (some vs) = Ok (first_at lo i f vs, pick (ltb (last_at hi i b vs) (first_at lo i f vs)) (first_at lo i f vs) (last_at hi i b vs))
scan_of lo hi i f b none = Err (record {})

module _ (lo hi : Bound) (look : ℕ → Option Placed) where
  up_one : (i f : ℕ) (b : Bool) → f ≤ i → pick b (suc i) f ≤ suc i
  unfolding pick
  up_one i f true h = omega arith
  up_one i f false h = omega arith

  nothing-first : (i f : ℕ) → f ≤ i → first_at lo i f [] ≡ f
  nothing-first i f h = go (three f i)
    where
      go : Three f i → first_at lo i f [] ≡ f
      go (lt l) = first_found lo i f [] l
      go (eq l) = let z : first_from lo [] ≡ 0 = unfold first_from in refl in first-open lo i f [] l ∙ omega arith
      go (gt l) = absurd (omega arith)

  scan-is : (m i f b : ℕ) → f ≤ i → scan m look lo hi i f b ≡ scan_of lo hi i f b (recorded m look i)
  unfolding scan recorded scan_of
  scan-is zero i f b h = rw (nothing-first i f h, last-same hi i b [] (unfold last_to in refl))
  scan-is (suc m) i f b h = go (scan-is m) (look i)
    where
      go : ((i f b : ℕ) → f ≤ i → scan m look lo hi i f b ≡ scan_of lo hi i f b (recorded m look i)) → (l : Option Placed)
          → Option-elim l (Err (record {})) (λ v. scan m look lo hi (suc i) (pick (eqb f i && not (from_lower lo v.version.key)) (suc i) f) (pick (to_upper hi v.version.key) (suc i) b))
          ≡ scan_of lo hi i f b (Option-elim l none (λ x. Option-elim (recorded m look (suc i)) none (λ xs. some (x ∷ xs))))
      go ih none = unfold Option-elim scan_of in refl
      go ih (some v) = unfold Option-elim in ih (suc i) _ _ (up_one i f _ h) ∙ by (recorded m look (suc i))
        where
          by : (r : Option (List Placed)) → scan_of lo hi (suc i) (pick (eqb f i && not (from_lower lo v.version.key)) (suc i) f) (pick (to_upper hi v.version.key) (suc i) b) r
              ≡ scan_of lo hi i f b (Option-elim r none (λ xs. some (v ∷ xs)))
          by none = unfold Option-elim scan_of in refl
          by (some vs) = unfold Option-elim scan_of in ap₂ (λ x y. Ok (x, pick (ltb y x) x y)) (first_next lo i f v vs h) (last-next hi i b v vs)

-- what a list's ends are
unfoldable pub ends_for : Bound → Bound → Option (List Placed) → Result (ℕ × ℕ) Torn
ends_for lo hi (some vs) = Ok (first_from lo vs, end_to lo hi vs)
ends_for lo hi none = Err (record {})

-- the whole list
pub scanned : (lo hi : Bound) (look : ℕ → Option Placed) (m : ℕ) → scan m look lo hi 0 0 0 ≡ ends_for lo hi (recorded m look 0)
scanned lo hi look m = scan-is lo hi look m 0 0 0 (omega arith) ∙ go (recorded m look 0)
  where
    the-first : (vs : List Placed) → first_at lo 0 0 vs ≡ first_from lo vs
    the-first vs = first-open lo 0 0 vs refl ∙ omega arith

    the_last : (vs : List Placed) → last_at hi 0 0 vs ≡ last_to hi vs
    the_last vs = by (three 0 (last_to hi vs))
      where
        by : Three 0 (last_to hi vs) → last_at hi 0 0 vs ≡ last_to hi vs
        by (lt l) = last_some hi 0 0 vs l ∙ omega arith
        by (eq l) = last-same hi 0 0 vs (sym l) ∙ l
        by (gt l) = absurd (omega arith)

    go : (r : Option (List Placed)) → scan_of lo hi 0 0 0 r ≡ ends_for lo hi r
    go (some vs) = unfold scan_of ends_for end_to in ap₂ (λ x y. Ok (x, pick (ltb y x) x y)) (the-first vs) (the_last vs)
    go none = unfold scan_of ends_for in refl
