-- The tests around a step: source by source, the ends stand as the definition asks; sources that aren't there have no records, so theirs are 0.
use Rattle.std.proofs.lemmas.Bool.{and_parts, and_right}
use native.Mathlib.Omega.{arith}
use native.Mathlib.Numerals.{add-one}
use mathlib.Core.List.{List}
use mathlib.Core.Bool.{Bool, true, false, ◌&&◌, and-true as and-true-right, and_assoc, and_comm}
use lib.Dec.{leb, eqb}
use borrow.Author.Tests.{lt-ltb, le-ltb, le-leb, lt-leb, leb-true, eq-eqb, ne_eqb}
use lib.ListN.{length, get_or}
use mathlib.Core.Path.{refl, sym, ap, ◌≡◌, ◌∙◌}
use Prim.Native.Nat.{ℕ, zero, suc, ◌+◌, ◌≤◌, ◌<◌}
use Rattle.list.specs.Field.{words_in}
use Rattle.list.specs.Pick.{pick}
use Rattle.list.proofs.Strict.{Three, eq, gt, lt, three}
use Rattle.bundle.specs.Bundle.{bundle_limit}
use Rattle.bundle.specs.Index.{count_at}
use Rattle.bundle.specs.Look.{covers, records_in}
use Rattle.bundle.proofs.Looking.{few-lists}
use Rattle.merge.specs.Plain.{front_at, back_at}
use Rattle.merge.specs.declared.ends.Ends.{Ends}
use Rattle.merge.specs.Private.{Fitting}
use Rattle.read.specs.Cursor.{stands, steady}
use Rattle.read.specs.Private.{empty_to}

pub records-there : (b lens : List ℕ) (k : ℕ) → k < words_in lens → records_in b lens k ≡ count_at b lens k
unfolding records_in pick
records-there b lens k l = rw (lt-ltb _ _ l)

-- one source more that is there
pub stands-next : (b lens : List ℕ) (c : Ends) (k : ℕ) → k < words_in lens → (v : Bool) → v ≡ stands k b lens c → (held : ℕ) → held ≡ count_at b lens k
    → (v && (leb (get_or c.front k 0) (get_or c.back k 0) && leb (get_or c.back k 0) held)) ≡ stands (k + 1) b lens c
unfolding stands front_at back_at
stands-next b lens c k l v e held q = rw (e, q, add-one, records-there b lens k l)

-- sources below the first of the others are not asked
pub empty_below : (first : ℕ) (f g : List ℕ) (m : ℕ) → m ≤ first → empty_to m first f g ≡ true
unfolding empty_to
empty_below first f g zero h = refl
empty_below first f g (suc m) h = rw (lt-ltb m first h, empty_below first f g m (omega arith))

-- one source more
pub empty_next : (first : ℕ) (f g : List ℕ) (k : ℕ) → first ≤ k → (v : Bool) → v ≡ empty_to k first f g → ((eqb (get_or f k 0) 0 && eqb (get_or g k 0) 0) && v) ≡ empty_to (k + 1) first f g
unfolding empty_to
empty_next first f g k h v e = rw (e, add-one, le-ltb k first h)

module _ (b lens : List ℕ) (c : Ends) where
  -- whether source k's ends stand, by the definition
  unfoldable pub stands_in : ℕ → Bool
  stands_in k = leb (front_at c k) (back_at c k) && leb (back_at c k) (records_in b lens k)

  -- sources that aren't there
  empty-is : (k : ℕ) → words_in lens ≤ k → stands_in k ≡ (eqb (front_at c k) 0 && eqb (back_at c k) 0)
  unfolding stands_in records_in pick
  empty-is k h = rw (le-ltb k (words_in lens) h) (go (front_at c k) (back_at c k))
    where
      go : (f g : ℕ) → (leb f g && leb g 0) ≡ (eqb f 0 && eqb g 0)
      go f g = by (three 0 f) (three 0 g)
        where
          by : Three 0 f → Three 0 g → (leb f g && leb g 0) ≡ (eqb f 0 && eqb g 0)
          by (lt a) (lt d) =
              let n : f ≡ 0 → ⊥ = λ q. omega arith in
              rw (lt-leb g 0 d, ne_eqb f 0 n) (and_right (leb f g) false refl)
          by (lt a) (eq d) =
              let n : f ≡ 0 → ⊥ = λ q. omega arith in
              let l : g < f = omega arith in
              rw (lt-leb f g l, ne_eqb f 0 n)
          by (eq a) (lt d) =
              let n : g ≡ 0 → ⊥ = λ q. omega arith in
              rw (lt-leb g 0 d, ne_eqb g 0 n) (and_right (leb f g) false refl ∙ sym (and_right (eqb f 0) false refl))
          by (eq a) (eq d) =
              let l : f ≤ g = omega arith in
              let m : g ≤ 0 = omega arith in
              rw (le-leb f g l, le-leb g 0 m, eq-eqb f 0 (sym a), eq-eqb g 0 (sym d))
          by (lt a) (gt d) = absurd (omega arith)
          by (eq a) (gt d) = absurd (omega arith)
          by (gt a) d = absurd (omega arith)

  stands-empty : (m : ℕ) → words_in lens ≤ m → stands m b lens c ≡ (stands (words_in lens) b lens c && empty_to m (words_in lens) c.front c.back)
  unfolding stands empty_to
  stands-empty zero h =
      let z : words_in lens ≡ 0 = omega arith in
      rw z
  stands-empty (suc m) h = go (three m (words_in lens)) (stands-empty m)
    where
      more : stands m b lens c ≡ (stands (words_in lens) b lens c && empty_to m (words_in lens) c.front c.back) → words_in lens ≤ m
          → stands (suc m) b lens c ≡ (stands (words_in lens) b lens c && empty_to (suc m) (words_in lens) c.front c.back)
      more ih i =
          let x : (leb (front_at c m) (back_at c m) && leb (back_at c m) (records_in b lens m)) ≡ (eqb (get_or c.front m 0) 0 && eqb (get_or c.back m 0) 0) = unfold stands_in front_at back_at in empty-is m i in
          rw (ih, x, le-ltb m (words_in lens) i) (and_assoc (stands (words_in lens) b lens c) _ _ ∙ ap (λ y. stands (words_in lens) b lens c && y) (and_comm (empty_to m (words_in lens) c.front c.back) _))

      go : Three m (words_in lens) → (words_in lens ≤ m → stands m b lens c ≡ (stands (words_in lens) b lens c && empty_to m (words_in lens) c.front c.back))
          → stands (suc m) b lens c ≡ (stands (words_in lens) b lens c && empty_to (suc m) (words_in lens) c.front c.back)
      go (lt i) ih =
          let z : suc m ≡ words_in lens = omega arith in
          ap (λ j. stands j b lens c) z ∙ sym (and-true-right (stands (words_in lens) b lens c)) ∙ ap (λ x. stands (words_in lens) b lens c && x) (sym (empty_below (words_in lens) c.front c.back (suc m) (omega arith)))
      go (eq i) ih = more (ih (omega arith)) (omega arith)
      go (gt i) ih = more (ih (omega arith)) (omega arith)

-- all of it, where lengths and index cover the bundle
module _ (b lens t : List ℕ) (c : Ends) (v : covers b lens t ≡ true) (r : Bool) (says : r ≡ stands (words_in lens) b lens c) where
  steady-is : steady b lens t c ≡ (r && empty_to bundle_limit (words_in lens) c.front c.back)
  unfolding steady
  steady-is = rw v (stands-empty b lens c bundle_limit (few-lists b lens t v) ∙ rw (sym says))

  pub steady-crossed : r ≡ false → steady b lens t c ≡ false
  steady-crossed h = steady-is ∙ rw h

  pub steady-rest : r ≡ true → (s : Bool) → s ≡ empty_to bundle_limit (words_in lens) c.front c.back → steady b lens t c ≡ s
  steady-rest h s rest = steady-is ∙ rw h (sym rest)

-- a cursor that stands fits
stands-each : (b lens : List ℕ) (c : Ends) (m k : ℕ) → k < m → stands m b lens c ≡ true → (front_at c k ≤ back_at c k) × (back_at c k ≤ records_in b lens k)
unfolding stands
stands-each b lens c zero k l h = absurd (omega arith)
stands-each b lens c (suc m) k l h = go (three k m) (and_parts _ _ h) (stands-each b lens c m k)
  where
    go : Three k m → (stands m b lens c ≡ true) × ((leb (front_at c m) (back_at c m) && leb (back_at c m) (records_in b lens m)) ≡ true)
        → (k < m → stands m b lens c ≡ true → (front_at c k ≤ back_at c k) × (back_at c k ≤ records_in b lens k)) → (front_at c k ≤ back_at c k) × (back_at c k ≤ records_in b lens k)
    go (lt i) p ih = ih i p.0
    go (eq i) p ih =
        let q = and_parts (leb (front_at c m) (back_at c m)) _ p.1 in
        rw i (leb-true _ _ q.0, leb-true _ _ q.1)
    go (gt i) p ih = absurd (omega arith)

pub steady-fits : (b lens t : List ℕ) (c : Ends) → steady b lens t c ≡ true → bundle_limit ≤ length c.front → bundle_limit ≤ length c.back → Fitting (words_in lens) (count_at b lens) c
unfolding steady
steady-fits b lens t c h p q =
    let both = and_parts (covers b lens t) (stands bundle_limit b lens c) h in
    let f = few-lists b lens t both.0 in
    record {
      front-room = omega arith;
      back-room = omega arith;
      uncrossed = λ k l. (stands-each b lens c bundle_limit k (omega arith) both.1).0;
      inside = λ k l. rw (← records-there b lens k l) (stands-each b lens c bundle_limit k (omega arith) both.1).1;
    }
