-- Two keys compare by the first byte that they don't share; where two words differ, the lowest bit that differs tells that byte.
use Prim.Native.Nat.{ℕ, zero, suc, ◌+◌, ◌*◌, ◌/◌, ◌≤◌, ◌<◌}
use mathlib.Core.Path.{◌≡◌, refl, sym, ap, ap₂, ◌∙◌}
use mathlib.Core.List.{List, [], ◌∷◌}
use native.Mathlib.Omega.{arith}
use borrow.Author.Tests.{eq-eqb, ne_eqb}
use lib.Bits.{bit_or, bit_xor, xor_self}
use lib.Count.{count_trailing_zeros, trailing_of_zero}
use lib.ListN.{length, drop, get_or}
use lib.Seq.{drop-cons}
use Rattle.list.specs.Field.{le_at}
use Rattle.list.specs.Order.{compare}
use Rattle.list.specs.Pick.{pick}
use Rattle.list.specs.Shared.{shared}
use Rattle.list.specs.Version.{Bytes}
use Rattle.std.specs.declared.cmp.Ordering.TheVariants.{Less, Equal, Greater}
use Rattle.list.proofs.Order.{less-here, greater-here, second-ends, first_ends, both_end}
use Rattle.list.proofs.Strict.{Three, lt, eq, gt, three, cons-eq}
use Rattle.list.proofs.Zeros.{or-zero, byte-differs, byte-same}

none_left : (b : List ℕ) → shared [] b ≡ 0
unfolding shared
none_left b = refl

none_right : (x : ℕ) (xs : List ℕ) → shared (x ∷ xs) [] ≡ 0
unfolding shared
none_right x xs = refl

-- by their first bytes
module _ (x y : ℕ) (xs ys : List ℕ) where
  first-same : x ≡ y → shared (x ∷ xs) (y ∷ ys) ≡ suc (shared xs ys)
  unfolding shared pick
  first-same e = simp (eq-eqb x y e)

  first-other : (x ≡ y → ⊥) → shared (x ∷ xs) (y ∷ ys) ≡ 0
  unfolding shared pick
  first-other n = simp (ne_eqb x y n)

pub within : (a b : List ℕ) → (shared a b ≤ length a) × (shared a b ≤ length b)
within [] b = let z = none_left b in (omega arith, omega arith)
within (x ∷ xs) [] = let z = none_right x xs in (omega arith, omega arith)
within (x ∷ xs) (y ∷ ys) = go (within xs ys) (three x y)
  where
    none : (x ≡ y → ⊥) → (shared (x ∷ xs) (y ∷ ys) ≤ suc (length xs)) × (shared (x ∷ xs) (y ∷ ys) ≤ suc (length ys))
    none n = let z = first-other x y xs ys n in (omega arith, omega arith)

    go : (shared xs ys ≤ length xs) × (shared xs ys ≤ length ys) → Three x y
        → (shared (x ∷ xs) (y ∷ ys) ≤ suc (length xs)) × (shared (x ∷ xs) (y ∷ ys) ≤ suc (length ys))
    go (l, r) (lt h) = none (λ e. omega arith)
    go (l, r) (eq h) = let z = first-same x y xs ys h in (omega arith, omega arith)
    go (l, r) (gt h) = none (λ e. omega arith)

-- bytes that are shared may be left off
skip : (i : ℕ) (a b : List ℕ) → i ≤ shared a b → (shared a b ≡ i + shared (drop i a) (drop i b)) × (compare (drop i a) (drop i b) ≡ compare a b)
skip zero a b u = (omega arith, refl)
skip (suc i) [] b u = let z = none_left b in absurd (omega arith)
skip (suc i) (x ∷ xs) [] u = let z = none_right x xs in absurd (omega arith)
skip (suc i) (x ∷ xs) (y ∷ ys) u = go (skip i xs ys) (three x y)
  where
    Skipped : Type 0
    Skipped = (shared (x ∷ xs) (y ∷ ys) ≡ suc i + shared (drop i xs) (drop i ys)) × (compare (drop i xs) (drop i ys) ≡ compare (x ∷ xs) (y ∷ ys))

    none : (x ≡ y → ⊥) → Skipped
    none n = let z = first-other x y xs ys n in absurd (omega arith)

    go : (i ≤ shared xs ys → (shared xs ys ≡ i + shared (drop i xs) (drop i ys)) × (compare (drop i xs) (drop i ys) ≡ compare xs ys)) → Three x y → Skipped
    go ih (lt h) = none (λ e. omega arith)
    go ih (eq h) =
        let z = first-same x y xs ys h in
        let (s, c) = ih (omega arith) in
        (omega arith, c ∙ sym (cons-eq x y xs ys h))
    go ih (gt h) = none (λ e. omega arith)

-- the byte after some that are shared
module _ (a b : List ℕ) (i : ℕ) (p : i < length a) (q : i < length b) (u : i ≤ shared a b) where
  from : shared a b ≡ i + shared (get_or a i 0 ∷ drop (suc i) a) (get_or b i 0 ∷ drop (suc i) b)
  from = (skip i a b u).0 ∙ ap (λ (n : ℕ). i + n) (ap₂ shared (drop-cons a i 0 p) (drop-cons b i 0 q))

  pub same_byte : get_or a i 0 ≡ get_or b i 0 → i + 1 ≤ shared a b
  same_byte e =
      let f = from in
      let s = first-same _ _ (drop (suc i) a) (drop (suc i) b) e in
      omega arith

  pub other_byte : (get_or a i 0 ≡ get_or b i 0 → ⊥) → shared a b ≡ i
  other_byte n =
      let f = from in
      let s = first-other _ _ (drop (suc i) a) (drop (suc i) b) n in
      omega arith

-- the place where all that is shared ends
module _ (a b : List ℕ) (i : ℕ) (e : i ≡ shared a b) where
  rest : compare (drop i a) (drop i b) ≡ compare a b
  rest = (skip i a b (omega arith)).1

  pub all-shared : length b ≤ i → length a ≤ i → Equal ≡ compare a b
  all-shared q p = sym (both_end a b i p q) ∙ rest

  pub more_left : length b ≤ i → i < length a → Greater ≡ compare a b
  more_left q p = sym (second-ends a b i p q) ∙ rest

  pub more-right : length a ≤ i → i < length b → Less ≡ compare a b
  more-right p q = sym (first_ends a b i p q) ∙ rest

  module _ (p : i < length a) (q : i < length b) where
    pub less-there : get_or a i 0 < get_or b i 0 → Less ≡ compare a b
    less-there h = sym (less-here a b i p q h) ∙ rest

    pub greater-there : get_or b i 0 ≤ get_or a i 0 → Greater ≡ compare a b
    greater-there h = go (three (get_or b i 0) (get_or a i 0))
      where
        go : Three (get_or b i 0) (get_or a i 0) → Greater ≡ compare a b
        go (lt k) = sym (greater-here a b i p q k) ∙ rest
        go (eq k) = let s = same_byte a b i p q (omega arith) (sym k) in absurd (omega arith)
        go (gt k) = absurd (omega arith)

-- What n bytes at a place tell, t being the zeros below the lowest bit that differs: what is shared ends at byte t / 8 of them, or all n are shared.
data Told (a b : List ℕ) (i n t : ℕ) : Type 0 where
  ends : shared a b ≡ i + t / 8 → Told a b i n t
  goes_on : t / 8 ≡ n → i + n ≤ shared a b → le_at a i n ≡ le_at b i n → Told a b i n t

told : (n : ℕ) (a b : List ℕ) (i : ℕ) → Bytes a → Bytes b → i + n ≤ length a → i + n ≤ length b → i ≤ shared a b
    → Told a b i n (count_trailing_zeros (8 * n) (bit_xor (le_at a i n) (le_at b i n)))
unfolding le_at Bytes count_trailing_zeros
told zero a b i v w p q u = goes_on (omega arith) (omega arith) refl
told (suc n) a b i v w p q u = go (told n a b (i + 1) v w (omega arith) (omega arith)) (three (get_or a i 0) (get_or b i 0))
  where
    t : ℕ
    t = count_trailing_zeros (8 * suc n) (bit_xor (get_or a i 0 + 256 * le_at a (i + 1) n) (get_or b i 0 + 256 * le_at b (i + 1) n))

    eight : 8 * suc n ≡ 8 + 8 * n
    eight = omega arith

    other : (get_or a i 0 ≡ get_or b i 0 → ⊥) → Told a b i (suc n) t
    other d =
        let z = byte-differs (get_or a i 0) (get_or b i 0) (le_at a (i + 1) n) (le_at b (i + 1) n) (v i) (w i) (8 * n) d in
        let e = other_byte a b i (omega arith) (omega arith) u d in
        rw eight (ends (omega arith))

    go : (i + 1 ≤ shared a b → Told a b (i + 1) n (count_trailing_zeros (8 * n) (bit_xor (le_at a (i + 1) n) (le_at b (i + 1) n)))) → Three (get_or a i 0) (get_or b i 0) → Told a b i (suc n) t
    go ih (lt h) = other (λ e. omega arith)
    go ih (eq h) = more (ih (same_byte a b i (omega arith) (omega arith) u h))
      where
        z : count_trailing_zeros (8 + 8 * n) (bit_xor (get_or a i 0 + 256 * le_at a (i + 1) n) (get_or b i 0 + 256 * le_at b (i + 1) n)) ≡ 8 + count_trailing_zeros (8 * n) (bit_xor (le_at a (i + 1) n) (le_at b (i + 1) n))
        z = byte-same (get_or a i 0) (get_or b i 0) (le_at a (i + 1) n) (le_at b (i + 1) n) (v i) (w i) (8 * n) h

        more : Told a b (i + 1) n (count_trailing_zeros (8 * n) (bit_xor (le_at a (i + 1) n) (le_at b (i + 1) n))) → Told a b i (suc n) t
        more (ends e) = rw (eight, z) (ends (omega arith))
        more (goes_on e l f) = rw (eight, z) (goes_on (omega arith) (omega arith) (ap₂ (λ (x y : ℕ). x + 256 * y) h f))
    go ih (gt h) = other (λ e. omega arith)

-- a word, d being how it differs
module _ (a b : List ℕ) (i d : ℕ) (v : Bytes a) (w : Bytes b) (p : i + 8 ≤ length a) (q : i + 8 ≤ length b)
    (x : d ≡ bit_xor (le_at a i 8) (le_at b i 8)) where
  word : i ≤ shared a b → Told a b i 8 (count_trailing_zeros 64 d)
  word u = rw x (told 8 a b i v w p q u)

  pub word_same : d ≡ 0 → i ≤ shared a b → i + 8 ≤ shared a b
  word_same z u = go (word u)
    where
      go : Told a b i 8 (count_trailing_zeros 64 d) → i + 8 ≤ shared a b
      go (ends e) =
          let t : count_trailing_zeros 64 d ≡ 64 = rw z (trailing_of_zero 64) in
          omega arith
      go (goes_on e l f) = l

  pub word-differs : (d ≡ 0 → ⊥) → i ≤ shared a b → shared a b ≡ i + count_trailing_zeros 64 d / 8
  word-differs n u = go (word u)
    where
      go : Told a b i 8 (count_trailing_zeros 64 d) → shared a b ≡ i + count_trailing_zeros 64 d / 8
      go (ends e) = e
      go (goes_on e l f) = absurd (n (x ∙ ap (λ (y : ℕ). bit_xor y (le_at b i 8)) f ∙ xor_self (le_at b i 8)))

-- the last word of the shorter key, s bytes of both being shared
pub last : (s i d : ℕ) → (d ≡ 0 → i ≤ s → i + 8 ≤ s) → ((d ≡ 0 → ⊥) → i ≤ s → s ≡ i + count_trailing_zeros 64 d / 8) → i ≤ s → s ≤ i + 8
    → s ≡ i + count_trailing_zeros 64 d / 8
last s i zero f g u m =
    let t = trailing_of_zero 64 in
    let l = f refl u in
    omega arith
last s i (suc d) f g u m = g (λ e. omega arith) u

-- n bytes in two halves of m
pub halves : (x y i m n s : ℕ) → n ≡ m + m → (x ≡ 0 → i ≤ s → i + m ≤ s) → (y ≡ 0 → i + m ≤ s → i + m + m ≤ s) → bit_or x y ≡ 0 → i ≤ s → i + n ≤ s
halves x y i m n s e f g h u =
    let (p, q) = or-zero x y h in
    let l = g q (f p u) in
    omega arith
