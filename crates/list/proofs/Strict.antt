-- The order of keys and of versions is strict, since the first bytes that differ decide, and then the seqnos: what is below what is below is below.
use Prim.Native.Nat.{ℕ, ◌≤◌, ◌<◌}
use mathlib.Core.Path.{◌≡◌, refl, sym, ap, ap₂, ◌∙◌}
use mathlib.Core.List.{List, [], ◌∷◌}
use mathlib.Core.Bool.{Bool, true, false}
use native.Mathlib.Omega.{arith}
use borrow.Author.Tests.{lt-ltb, le-ltb, ltb-true, ltb-false}
use lib.Dec.{ltb}
use lib.ListN.{length}
use Rattle.list.specs.Pick.{pick}
use Rattle.list.specs.Order.{compare, versions, is_less, is_equal}
use Rattle.list.proofs.Tests.{never}
use Rattle.list.proofs.Order.{key-less, key-greater, newer, older, same, equal_is}
use Rattle.std.specs.declared.cmp.Ordering.{Ordering}
use Rattle.std.specs.declared.cmp.Ordering.TheVariants.{Less, Equal, Greater}

pub data Three (x y : ℕ) : Type 0 where
  lt : x < y → Three x y
  eq : x ≡ y → Three x y
  gt : y < x → Three x y

pub three : (x y : ℕ) → Three x y
three x y = go (ltb x y) (ltb y x) refl refl
  where
    go : (p q : Bool) → ltb x y ≡ p → ltb y x ≡ q → Three x y
    go true q e f = lt (ltb-true x y e)
    go false true e f = gt (ltb-true y x f)
    go false false e f = eq (omega (arith, ltb-false x y e, ltb-false y x f))

-- no two answers are one
pub equal-less : {A : Type 0} → Equal ≡ Less → A
unfolding is_less
equal-less p = never (ap is_less (sym p))

pub greater-less : {A : Type 0} → Greater ≡ Less → A
unfolding is_less
greater-less p = never (ap is_less (sym p))

pub greater-equal : {A : Type 0} → Greater ≡ Equal → A
unfolding is_equal
greater-equal p = never (ap is_equal (sym p))

-- keys by their first bytes
module _ (x y : ℕ) (xs ys : List ℕ) where
  pub cons-lt : x < y → compare (x ∷ xs) (y ∷ ys) ≡ Less
  unfolding compare pick
  cons-lt h = simp (lt-ltb _ _ h)

  pub cons-gt : y < x → compare (x ∷ xs) (y ∷ ys) ≡ Greater
  unfolding compare pick
  cons-gt h =
      let k : y ≤ x = omega arith in
      simp (le-ltb _ _ k, lt-ltb _ _ h)

  pub cons-eq : x ≡ y → compare (x ∷ xs) (y ∷ ys) ≡ compare xs ys
  unfolding compare pick
  cons-eq e =
      let h : x ≤ y = omega arith in
      let k : y ≤ x = omega arith in
      simp (le-ltb _ _ h, le-ltb _ _ k)

-- the empty key stands before every other
pub empty-first : (k : List ℕ) → 0 < length k → compare [] k ≡ Less
unfolding compare
empty-first [] h = absurd (omega arith)
empty-first (x ∷ k) h = refl

pub none-before-empty : (k : List ℕ) → is_less (compare k []) ≡ false
unfolding compare is_less
none-before-empty [] = refl
none-before-empty (x ∷ k) = refl

pub compare-trans : (a b c : List ℕ) → compare a b ≡ Less → compare b c ≡ Less → compare a c ≡ Less
unfolding compare
compare-trans [] [] c p q = equal-less p
compare-trans [] (y ∷ b) [] p q = greater-less q
compare-trans [] (y ∷ b) (z ∷ c) p q = refl
compare-trans (x ∷ a) [] c p q = greater-less p
compare-trans (x ∷ a) (y ∷ b) [] p q = greater-less q
compare-trans (x ∷ a) (y ∷ b) (z ∷ c) p q = go (compare-trans a b c) (three x y) (three y z)
  where
    go : (compare a b ≡ Less → compare b c ≡ Less → compare a c ≡ Less) → Three x y → Three y z → compare (x ∷ a) (z ∷ c) ≡ Less
    go ih (lt h) (lt k) = cons-lt x z a c (omega arith)
    go ih (lt h) (eq k) = cons-lt x z a c (omega arith)
    go ih (lt h) (gt k) = greater-less (sym (cons-gt y z b c k) ∙ q)
    go ih (eq h) (lt k) = cons-lt x z a c (omega arith)
    go ih (eq h) (eq k) = cons-eq x z a c (omega arith) ∙ ih (sym (cons-eq x y a b h) ∙ p) (sym (cons-eq y z b c k) ∙ q)
    go ih (eq h) (gt k) = greater-less (sym (cons-gt y z b c k) ∙ q)
    go ih (gt h) t = greater-less (sym (cons-gt x y a b h) ∙ p)

pub compare-equal : (a b : List ℕ) → compare a b ≡ Equal → a ≡ b
unfolding compare
compare-equal [] [] p = refl
compare-equal [] (y ∷ b) p = equal-less (sym p)
compare-equal (x ∷ a) [] p = greater-equal p
compare-equal (x ∷ a) (y ∷ b) p = go (compare-equal a b) (three x y)
  where
    go : (compare a b ≡ Equal → a ≡ b) → Three x y → x ∷ a ≡ y ∷ b
    go ih (lt h) = equal-less (sym p ∙ cons-lt x y a b h)
    go ih (eq h) = ap₂ ◌∷◌ h (ih (sym (cons-eq x y a b h) ∙ p))
    go ih (gt h) = greater-equal (sym (cons-gt x y a b h) ∙ p)

-- a version below another: its key is below, or the keys are the same and its seqno is above
pub data Below (a : List ℕ) (m : ℕ) (b : List ℕ) (n : ℕ) : Type 0 where
  by_key : compare a b ≡ Less → Below a m b n
  by-seqno : compare a b ≡ Equal → n < m → Below a m b n

pub below : (a : List ℕ) (m : ℕ) (b : List ℕ) (n : ℕ) → versions a m b n ≡ Less → Below a m b n
below a m b n p = go (compare a b) refl (three m n)
  where
    go : (o : Ordering) → compare a b ≡ o → Three m n → Below a m b n
    go Less e t = by_key e
    go Equal e (lt h) = greater-less (sym (older a m b n e h) ∙ p)
    go Equal e (eq h) = equal-less (sym (same a m b n e h) ∙ p)
    go Equal e (gt h) = by-seqno e h
    go Greater e t = greater-less (sym (key-greater a m b n e) ∙ p)

pub versions-trans : (a : List ℕ) (m : ℕ) (b : List ℕ) (n : ℕ) (c : List ℕ) (k : ℕ)
    → versions a m b n ≡ Less → versions b n c k ≡ Less → versions a m c k ≡ Less
versions-trans a m b n c k p q = go (below a m b n p) (below b n c k q)
  where
    go : Below a m b n → Below b n c k → versions a m c k ≡ Less
    go (by_key e) (by_key f) = key-less a m c k (compare-trans a b c e f)
    go (by_key e) (by-seqno f h) = key-less a m c k (rw (compare-equal b c f) at e)
    go (by-seqno e h) (by_key f) = key-less a m c k (rw (compare-equal a b e) f)
    go (by-seqno e h) (by-seqno f g) = newer a m c k (rw (compare-equal a b e) f) (omega arith)

pub compare-flip : (a b : List ℕ) → compare a b ≡ Greater → compare b a ≡ Less
unfolding compare
compare-flip [] [] p = greater-equal (sym p)
compare-flip [] (y ∷ b) p = greater-less (sym p)
compare-flip (x ∷ a) [] p = refl
compare-flip (x ∷ a) (y ∷ b) p = go (compare-flip a b) (three x y)
  where
    go : (compare a b ≡ Greater → compare b a ≡ Less) → Three x y → compare (y ∷ b) (x ∷ a) ≡ Less
    go ih (lt h) = greater-less (sym p ∙ cons-lt x y a b h)
    go ih (eq h) = cons-eq y x b a (sym h) ∙ ih (sym (cons-eq x y a b h) ∙ p)
    go ih (gt h) = cons-lt y x b a h

pub compare_refl : (a : List ℕ) → compare a a ≡ Equal
unfolding compare
compare_refl [] = refl
compare_refl (x ∷ a) = cons-eq x x a a refl ∙ compare_refl a

pub compare_same : (a b : List ℕ) → a ≡ b → compare a b ≡ Equal
compare_same a b e = rw e (compare_refl b)

pub not-below-itself : {A : Type 0} (a b : List ℕ) → a ≡ b → compare a b ≡ Less → A
not-below-itself a b e p = equal-less (sym (compare_same a b e) ∙ p)

pub compare-back : (a b : List ℕ) → compare a b ≡ Less → compare b a ≡ Greater
compare-back a b p = go (compare b a) refl
  where
    go : (o : Ordering) → compare b a ≡ o → compare b a ≡ Greater
    go Less e = not-below-itself a a refl (compare-trans a b a p e)
    go Equal e = not-below-itself a b (sym (compare-equal b a e)) p
    go Greater e = e

-- how two keys stand
pub data Keys (a b : List ℕ) : Type 0 where
  less : compare a b ≡ Less → Keys a b
  one : a ≡ b → Keys a b
  more : compare b a ≡ Less → Keys a b

pub keys : (a b : List ℕ) → Keys a b
keys a b = go (compare a b) refl
  where
    go : (x : Ordering) → compare a b ≡ x → Keys a b
    go Less e = less e
    go Equal e = one (compare-equal a b e)
    go Greater e = more (compare-flip a b e)

-- the test whether two keys are one
pub agree : (a b : List ℕ) → a ≡ b → is_equal (compare a b) ≡ true
unfolding is_equal
agree a b e = rw (compare_same a b e)

pub differ : (a b : List ℕ) → (a ≡ b → ⊥) → is_equal (compare a b) ≡ false
unfolding is_equal
differ a b n = go (compare a b) refl
  where
    go : (o : Ordering) → compare a b ≡ o → is_equal o ≡ false
    go Less e = refl
    go Equal e = absurd (n (compare-equal a b e))
    go Greater e = refl

pub told-one : (a b : List ℕ) → is_equal (compare a b) ≡ true → a ≡ b
told-one a b p = compare-equal a b (equal_is _ p)

pub versions-flip : (a : List ℕ) (m : ℕ) (b : List ℕ) (n : ℕ) → versions a m b n ≡ Greater → versions b n a m ≡ Less
versions-flip a m b n p = go (compare a b) refl (three m n)
  where
    go : (o : Ordering) → compare a b ≡ o → Three m n → versions b n a m ≡ Less
    go Less e t = greater-less (sym p ∙ key-less a m b n e)
    go Equal e (lt h) = newer b n a m (compare_same b a (sym (compare-equal a b e))) h
    go Equal e (eq h) = greater-equal (sym p ∙ same a m b n e h)
    go Equal e (gt h) = greater-less (sym p ∙ newer a m b n e h)
    go Greater e t = key-less b n a m (compare-flip a b e)

pub versions-equal : (a : List ℕ) (m : ℕ) (b : List ℕ) (n : ℕ) → versions a m b n ≡ Equal → (a ≡ b) × (m ≡ n)
versions-equal a m b n p = go (compare a b) refl (three m n)
  where
    go : (o : Ordering) → compare a b ≡ o → Three m n → (a ≡ b) × (m ≡ n)
    go Less e t = equal-less (sym p ∙ key-less a m b n e)
    go Equal e (lt h) = greater-equal (sym (older a m b n e h) ∙ p)
    go Equal e (eq h) = (compare-equal a b e, h)
    go Equal e (gt h) = equal-less (sym p ∙ newer a m b n e h)
    go Greater e t = greater-equal (sym (key-greater a m b n e) ∙ p)
