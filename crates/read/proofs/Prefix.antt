-- A key lies within a prefix's bounds exactly when it starts with the prefix: byte by byte, the bounds decide where the key first differs.
use Rattle.std.proofs.lemmas.Bool.{and_left, and_right}
use native.Mathlib.Omega.{arith}
use mathlib.Core.List.{List, ◌∷◌, []}
use mathlib.Core.Bool.{Bool, true, false, not, ◌&&◌}
use lib.Dec.{eqb}
use borrow.Author.Tests.{lt-ltb, le-ltb, eq-eqb, ne_eqb}
use lib.ListN.{length, take, length-take}
use mathlib.Core.Path.{refl, sym, ap, ◌≡◌, ◌∙◌}
use Prim.Native.Nat.{ℕ, suc, ◌≤◌, ◌<◌}
use Rattle.list.specs.Order.{compare, is_less}
use Rattle.list.specs.Pick.{pick}
use Rattle.list.specs.Version.{Bytes}
use Rattle.list.proofs.Strict.{Three, eq, gt, lt, three, cons-lt, cons-gt, cons-eq, empty-first, none-before-empty}
use Rattle.std.specs.declared.ops.Bound.TheVariants.{Included, Excluded, Unbounded}
use Rattle.read.specs.Bounds.{Bound, from_lower, to_upper}
use Rattle.read.specs.Prefix.{cut_at, raised, starts_with, upper_bytes}

-- the upper bound
unfoldable upper_of : List ℕ → Bound
upper_of p = pick (eqb (cut_at p) 0) Unbounded (Excluded (upper_bytes p))

-- where the last byte below 255 stands
module _ (x : ℕ) (p : List ℕ) where
  pub cut_later : 0 < cut_at p → cut_at (x ∷ p) ≡ suc (cut_at p)
  unfolding cut_at pick
  cut_later h = rw (lt-ltb 0 (cut_at p) h)

  module _ (z : cut_at p ≡ 0) where
    none-later : cut_at p ≤ 0
    none-later = omega arith

    pub cut-here : x < 255 → cut_at (x ∷ p) ≡ 1
    unfolding cut_at pick
    cut-here h = rw (le-ltb 0 (cut_at p) none-later, lt-ltb _ _ h)

    pub cut-none : 255 ≤ x → cut_at (x ∷ p) ≡ 0
    unfolding cut_at pick
    cut-none h = rw (le-ltb 0 (cut_at p) none-later, le-ltb x 255 h)

pub cut_in : (p : List ℕ) → cut_at p ≤ length p
cut_in [] = unfold cut_at in omega arith
cut_in (x ∷ p) = go (three 0 (cut_at p)) (three x 255) (cut_in p)
  where
    go : Three 0 (cut_at p) → Three x 255 → cut_at p ≤ length p → cut_at (x ∷ p) ≤ suc (length p)
    go (lt h) t i = omega (arith, cut_later x p h)
    go (eq h) (lt g) i = omega (arith, cut-here x p (sym h) g)
    go (eq h) (eq g) i = omega (arith, cut-none x p (sym h) (omega arith))
    go (eq h) (gt g) i = omega (arith, cut-none x p (sym h) (omega arith))
    go (gt h) t i = absurd (omega arith)

raise-later : (x : ℕ) (l : List ℕ) → 0 < length l → raised (x ∷ l) ≡ x ∷ raised l
unfolding raised
raise-later x [] h = absurd (omega arith)
raise-later x (y ∷ l) h = refl

-- the upper bound of a longer prefix
module _ (x : ℕ) (p : List ℕ) where
  bound-later : 0 < cut_at p → upper_bytes (x ∷ p) ≡ x ∷ upper_bytes p
  unfolding upper_bytes
  bound-later h =
      let l : 0 < length (take (cut_at p) p) = simp length-take (omega (arith, cut_in p)) in
      ap (λ n. raised (take n (x ∷ p))) (cut_later x p h) ∙ raise-later x (take (cut_at p) p) l

  bound-here : cut_at p ≡ 0 → x < 255 → upper_bytes (x ∷ p) ≡ suc x ∷ []
  unfolding upper_bytes raised
  bound-here z h = ap (λ n. raised (take n (x ∷ p))) (cut-here x p z h)

module _ (p : List ℕ) where
  upper-some : 0 < cut_at p → upper_of p ≡ Excluded (upper_bytes p)
  unfolding upper_of pick
  upper-some h =
      let d : cut_at p ≡ 0 → ⊥ = λ e. omega arith in
      rw (ne_eqb (cut_at p) 0 d)

  upper-none : cut_at p ≡ 0 → upper_of p ≡ Unbounded
  unfolding upper_of pick
  upper-none e = rw (eq-eqb (cut_at p) 0 e)

  under_some : (k : List ℕ) → 0 < cut_at p → to_upper (upper_of p) k ≡ is_less (compare k (upper_bytes p))
  unfolding to_upper
  under_some k h = rw (upper-some h)

  under_none : (k : List ℕ) → cut_at p ≡ 0 → to_upper (upper_of p) k ≡ true
  unfolding to_upper
  under_none k h = rw (upper-none h)

from : List ℕ → List ℕ → Bool
from p k = not (is_less (compare k p))

module _ (x : ℕ) (p k : List ℕ) (y : ℕ) where
  starts-same : x ≡ y → starts_with (x ∷ p) (y ∷ k) ≡ starts_with p k
  unfolding starts_with
  starts-same e = rw (eq-eqb x y e)

  starts_other : (x ≡ y → ⊥) → starts_with (x ∷ p) (y ∷ k) ≡ false
  unfolding starts_with
  starts_other d = rw (ne_eqb x y d)

  from-below : y < x → from (x ∷ p) (y ∷ k) ≡ false
  unfolding from is_less
  from-below h = rw (cons-lt y x k p h)

  from-same : x ≡ y → from (x ∷ p) (y ∷ k) ≡ from p k
  unfolding from
  from-same e = rw (cons-eq y x k p (sym e))

-- a key above the prefix's first byte is above the upper bound
module _ (x : ℕ) (p : List ℕ) (y : ℕ) (k : List ℕ) (above : x < y) where
  past-later : 0 < cut_at p → to_upper (upper_of (x ∷ p)) (y ∷ k) ≡ false
  unfolding is_less
  past-later h = under_some (x ∷ p) (y ∷ k) (omega (arith, cut_later x p h)) ∙ rw (bound-later x p h, cons-gt y x k (upper_bytes p) above)

  past-here : cut_at p ≡ 0 → x < 255 → to_upper (upper_of (x ∷ p)) (y ∷ k) ≡ false
  past-here z h = under_some (x ∷ p) (y ∷ k) (omega (arith, cut-here x p z h)) ∙ ap (λ u. is_less (compare (y ∷ k) u)) (bound-here x p z h) ∙ go (three y (suc x))
    where
      go : Three y (suc x) → is_less (compare (y ∷ k) (suc x ∷ [])) ≡ false
      go (lt q) = absurd (omega arith)
      go (eq q) = ap is_less (cons-eq y (suc x) k [] q) ∙ none-before-empty k
      go (gt q) = unfold is_less in rw (cons-gt y (suc x) k [] q)

  past : y < 256 → to_upper (upper_of (x ∷ p)) (y ∷ k) ≡ false
  past b = go (three 0 (cut_at p)) (three x 255)
    where
      go : Three 0 (cut_at p) → Three x 255 → to_upper (upper_of (x ∷ p)) (y ∷ k) ≡ false
      go (lt h) t = past-later h
      go (eq h) (lt g) = past-here (sym h) g
      go (eq h) (eq g) = absurd (omega arith)
      go (eq h) (gt g) = absurd (omega arith)
      go (gt h) t = absurd (omega arith)

below_raised : (x y : ℕ) (k : List ℕ) → x ≡ y → is_less (compare (y ∷ k) (suc x ∷ [])) ≡ true
unfolding is_less
below_raised x y k e = rw (cons-lt y (suc x) k [] (omega arith))

-- a key with the prefix's first byte is below the upper bound exactly when its rest is below the rest's
under_same : (x : ℕ) (p : List ℕ) (y : ℕ) (k : List ℕ) → x ≡ y → to_upper (upper_of (x ∷ p)) (y ∷ k) ≡ to_upper (upper_of p) k
under_same x p y k e = go (three 0 (cut_at p)) (three x 255)
  where
    none : 255 ≤ x → cut_at p ≡ 0 → to_upper (upper_of (x ∷ p)) (y ∷ k) ≡ to_upper (upper_of p) k
    none g z = under_none (x ∷ p) (y ∷ k) (cut-none x p z g) ∙ sym (under_none p k z)

    go : Three 0 (cut_at p) → Three x 255 → to_upper (upper_of (x ∷ p)) (y ∷ k) ≡ to_upper (upper_of p) k
    go (lt h) t = under_some (x ∷ p) (y ∷ k) (omega (arith, cut_later x p h))
        ∙ ap (λ u. is_less (compare (y ∷ k) u)) (bound-later x p h) ∙ ap is_less (cons-eq y x k (upper_bytes p) (sym e)) ∙ sym (under_some p k h)
    go (eq h) (lt g) = under_some (x ∷ p) (y ∷ k) (omega (arith, cut-here x p (sym h) g))
        ∙ ap (λ u. is_less (compare (y ∷ k) u)) (bound-here x p (sym h) g) ∙ below_raised x y k e ∙ sym (under_none p k (sym h))
    go (eq h) (eq g) = none (omega arith) (sym h)
    go (eq h) (gt g) = none (omega arith) (sym h)
    go (gt h) t = absurd (omega arith)

inside : (p k : List ℕ) → Bytes k → (from p k && to_upper (upper_of p) k) ≡ starts_with p k
unfolding from starts_with
inside [] k b = rw (none-before-empty k, under_none [] k (unfold cut_at in refl))
inside (x ∷ p) [] b = and_left (from (x ∷ p) []) _ (unfold from is_less in rw (empty-first (x ∷ p) (omega arith))) ∙ (unfold starts_with in refl)
inside (x ∷ p) (y ∷ k) b = go (three x y) (inside p k (unfold Bytes in λ i. b (suc i)))
  where
    first : y < 256
    first = (unfold Bytes in b 0)

    go : Three x y → (from p k && to_upper (upper_of p) k) ≡ starts_with p k → (from (x ∷ p) (y ∷ k) && to_upper (upper_of (x ∷ p)) (y ∷ k)) ≡ starts_with (x ∷ p) (y ∷ k)
    go (lt h) ih = and_right (from (x ∷ p) (y ∷ k)) _ (past x p y k h first) ∙ sym (starts_other x p k y (λ e. omega arith))
    go (eq h) ih = rw (from-same x p k y h, under_same x p y k h) (ih ∙ sym (starts-same x p k y h))
    go (gt h) ih = and_left (from (x ∷ p) (y ∷ k)) _ (from-below x p k y h) ∙ sym (starts_other x p k y (λ e. omega arith))

-- the bounds of a prefix hold a key exactly when the key starts with it
module _ (p k : List ℕ) (b : Bytes k) where
  pub below-upper : 0 < cut_at p → (from_lower (Included p) k && to_upper (Excluded (upper_bytes p)) k) ≡ starts_with p k
  unfolding from_lower from
  below-upper h = rw (sym (upper-some p h)) (inside p k b)

  pub without-upper : cut_at p ≡ 0 → (from_lower (Included p) k && to_upper Unbounded k) ≡ starts_with p k
  unfolding from_lower from
  without-upper h = rw (sym (upper-none p h)) (inside p k b)
