-- Two numbers that differ do so in some bit, and the lowest such bit stands in the lowest byte that differs.
use Prim.Native.Nat.{ℕ, zero, suc, ◌+◌, ◌*◌, ◌/◌, ◌%◌, ◌^◌, ◌<◌}
use mathlib.Core.Path.{◌≡◌, refl, ap, ◌∙◌}
use native.Mathlib.Omega.{arith}
use native.Mathlib.Nat.{zero-add, add-zero, suc-add, mul-one, pow-succ'}
use lib.Bits.{bit_or, bit_xor, or_add_and, xor_add_and, and_le_l, and_le_r, block_half, block_odd, shifted_half, shifted_even, xor_block, xor_self, xor_lt}
use lib.Count.{count_trailing_zeros, under}

pub or-zero : (p q : ℕ) → bit_or p q ≡ 0 → (p ≡ 0) × (q ≡ 0)
or-zero p q h =
    let e = or_add_and p q in
    let l = and_le_l p q in
    let r = and_le_r p q in
    (omega arith, omega arith)

xor-more : (p q : ℕ) → (p ≡ q → ⊥) → 0 < bit_xor p q
xor-more p q n = go (bit_xor p q) refl
  where
    go : (x : ℕ) → bit_xor p q ≡ x → 0 < x
    go zero e =
        let s = xor_add_and p q in
        let l = and_le_l p q in
        let r = and_le_r p q in
        absurd (n (omega arith))
    go (suc x) e = omega arith

-- one of the lowest m bits is set
zeros-below : (m k q p : ℕ) → 0 < p → p < 2 ^ m → count_trailing_zeros (m + k) (q * 2 ^ m + p) < m
unfolding count_trailing_zeros
zeros-below zero k q p h l = absurd (omega arith)
zeros-below (suc m) k q p h l = rw (suc-add, block_odd q m p, block_half q m p) (go (zeros-below m k q (p / 2)) (p % 2) refl)
  where
    go : (0 < p / 2 → p / 2 < 2 ^ m → count_trailing_zeros (m + k) (q * 2 ^ m + p / 2) < m) → (r : ℕ) → p % 2 ≡ r
        → under r (count_trailing_zeros (m + k) (q * 2 ^ m + p / 2)) < suc m
    go ih zero e =
        let w : 2 ^ suc m ≡ 2 * 2 ^ m = pow-succ' 2 m in
        let i = ih (omega arith) (omega arith) in
        omega arith
    go ih (suc r) e = omega arith

-- none of them is
zeros-above : (m k q : ℕ) → count_trailing_zeros (m + k) (q * 2 ^ m) ≡ m + count_trailing_zeros k q
unfolding count_trailing_zeros
zeros-above zero k q = rw (zero-add, mul-one) (omega arith)
zeros-above (suc m) k q = rw (suc-add, shifted_even q m, shifted_half q m) (ap suc (zeros-above m k q) ∙ omega arith)

-- two numbers, g and h their lowest bytes
module _ (g h x y : ℕ) (p : g < 256) (q : h < 256) where
  apart : bit_xor (g + 256 * x) (h + 256 * y) ≡ bit_xor x y * 256 + bit_xor g h
  apart =
      let e : g + 256 * x ≡ x * 256 + g = omega arith in
      let f : h + 256 * y ≡ y * 256 + h = omega arith in
      rw (e, f) (xor_block 8 x y g h p q)

  pub byte-differs : (k : ℕ) → (g ≡ h → ⊥) → count_trailing_zeros (8 + k) (bit_xor (g + 256 * x) (h + 256 * y)) < 8
  byte-differs k n = rw apart (zeros-below 8 k (bit_xor x y) (bit_xor g h) (xor-more g h n) (xor_lt 8 g h p q))

  pub byte-same : (k : ℕ) → g ≡ h → count_trailing_zeros (8 + k) (bit_xor (g + 256 * x) (h + 256 * y)) ≡ 8 + count_trailing_zeros k (bit_xor x y)
  byte-same k e = rw (apart, e, xor_self h, add-zero) (zeros-above 8 k (bit_xor x y))
