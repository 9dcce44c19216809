-- Little-endian numbers read back as they were written, because each byte is a number's remainder by 256.
use Prim.Native.Nat.{ℕ, zero, suc, ◌+◌, ◌*◌, ◌/◌, ◌%◌, ◌^◌, ◌≤◌, ◌<◌}
use mathlib.Core.Path.{◌≡◌, refl, sym, ap, ◌∙◌}
use mathlib.Core.List.{List, [], ◌∷◌, ◌++◌}
use native.Mathlib.Omega.{arith}
use native.Mathlib.Numerals.{add-one}
use native.Mathlib.Nat.{zero-add, add-zero, suc-add, pow-succ', mul_assoc, mul_comm, pow-le-pow_right}
use Rattle.std.proofs.lemmas.Nat.{pow-add, shl_whole}
use lib.ListN.{length, take, drop, get_or, set, take-append-drop}
use lib.Seq.{sets, drop-cons, drop-drop, get_or-drop, drop_at, take_at}
use Rattle.list.specs.Field.{le_at, le_bytes}
use Rattle.list.specs.Version.{Bytes}

-- a byte, and two
pub one_byte : (s : List ℕ) (at : ℕ) → le_at s at 1 ≡ get_or s at 0
unfolding le_at
one_byte s at = omega arith

pub le-two : (s : List ℕ) (at : ℕ) → le_at s at 2 ≡ get_or s at 0 + 256 * get_or s (at + 1) 0
unfolding le_at
le-two s at = omega arith

-- the law over the width: m bytes, then n
pub le_join : (s : List ℕ) (m at n : ℕ) → le_at s at (m + n) ≡ le_at s at m + 256 ^ m * le_at s (at + m) n
unfolding le_at
le_join s zero at n = rw (zero-add, add-zero) (omega arith)
le_join s (suc m) at n =
    let e : at + suc m ≡ at + 1 + m = omega arith in
    rw (suc-add, pow-succ', mul_assoc, e) (omega (arith, le_join s m (at + 1) n))

-- a turn of the loop that writes a number
module _ (t : List ℕ) (i x n : ℕ) where
  pub put-none : n ≡ 0 → sets t i (le_bytes x n) ≡ t
  unfolding le_bytes
  put-none e = rw e

  pub put_one : (j m : ℕ) → j ≡ i + 1 → n ≡ suc m → sets t i (le_bytes x n) ≡ sets (set t i (x % 256)) j (le_bytes (x / 256) m)
  unfolding le_bytes
  put_one j m f e = rw (f, e, add-one)

pub length-le : (x n : ℕ) → length (le_bytes x n) ≡ n
unfolding le_bytes
length-le x zero = refl
length-le x (suc n) = ap suc (length-le (x / 256) n)

-- a run of stores, one part after the other
pub sets-append : (a b t : List ℕ) (at : ℕ) → sets t at (a ++ b) ≡ sets (sets t at a) (at + length a) b
sets-append [] b t at = ap (λ (j : ℕ). sets t j b) (sym (add-zero at))
sets-append (x ∷ a) b t at =
    let e : suc at + length a ≡ at + suc (length a) = omega arith in
    sets-append a b (set t at x) (suc at) ∙ ap (λ (j : ℕ). sets (sets (set t at x) (suc at) a) j b) e

-- one field more
pub then-put : (t u a b : List ℕ) (at to : ℕ) → u ≡ sets t at a → to ≡ at + length a → sets u to b ≡ sets t at (a ++ b)
then-put t u a b at to p e = rw (p, e) (sym (sets-append a b t at))

-- what stands after a part, and the part itself
module _ (s a b : List ℕ) (at n : ℕ) (la : length a ≡ n) (h : drop at s ≡ a ++ b) where
  pub after : (to : ℕ) → to ≡ at + n → drop to s ≡ b
  after to e = rw e (sym (drop-drop n at s) ∙ ap (drop n) h ∙ drop_at a b n la)

  pub part : take n (drop at s) ≡ a
  part = ap (take n) h ∙ take_at a b n la

-- a part, and the rest
pub cut : (s : List ℕ) (at n to : ℕ) → to ≡ at + n → drop at s ≡ take n (drop at s) ++ drop to s
cut s at n to e = rw e (sym (take-append-drop n (drop at s)) ∙ ap (λ (l : List ℕ). take n (drop at s) ++ l) (drop-drop n at s))

-- written, then read
pub le_read : (n : ℕ) (s rest : List ℕ) (at x : ℕ) → drop at s ≡ le_bytes x n ++ rest → x < 256 ^ n → le_at s at n ≡ x
unfolding le_at le_bytes
le_read zero s rest at x h b = omega arith
le_read (suc n) s rest at x h b =
    let g : get_or s at 0 ≡ x % 256 = sym (ap (λ (j : ℕ). get_or s j 0) (add-zero at)) ∙ sym (get_or-drop at s 0 0) ∙ ap (λ (l : List ℕ). get_or l 0 0) h in
    let p : 256 ^ suc n ≡ 256 * 256 ^ n = pow-succ' 256 n in
    let i : le_at s (at + 1) n ≡ x / 256 =
    le_read n s rest (at + 1) (x / 256) (sym (drop-drop 1 at s) ∙ ap (drop 1) h) (omega arith) in
    omega arith

-- read, then written
pub le_write : (n : ℕ) (s : List ℕ) (at to : ℕ) → to ≡ at + n → Bytes s → to ≤ length s → drop at s ≡ le_bytes (le_at s at n) n ++ drop to s
unfolding le_at le_bytes Bytes
le_write zero s at to e b h =
    let f : at ≡ to = omega arith in
    ap (λ (j : ℕ). drop j s) f
le_write (suc n) s at to e b h =
    let y = le_at s (at + 1) n in
    let g : get_or s at 0 < 256 = b at in
    let m : (get_or s at 0 + 256 * y) % 256 ≡ get_or s at 0 = omega arith in
    let d : (get_or s at 0 + 256 * y) / 256 ≡ y = omega arith in
    let o : suc at ≡ at + 1 = omega arith in
    let i = le_write n s (at + 1) to (omega arith) b h in
    rw (m, d) (drop-cons s at 0 (omega arith) ∙ ap (λ (l : List ℕ). get_or s at 0 ∷ l) (ap (λ (j : ℕ). drop j s) o ∙ i))

pub le-bound : (n : ℕ) (s : List ℕ) (at : ℕ) → Bytes s → le_at s at n < 256 ^ n
unfolding le_at Bytes
le-bound zero s at b = omega arith
le-bound (suc n) s at b =
    let g : get_or s at 0 < 256 = b at in
    let p : 256 ^ suc n ≡ 256 * 256 ^ n = pow-succ' 256 n in
    let i = le-bound n s (at + 1) b in
    omega arith

-- a turn of the loop that reads a number: one byte more, worth 256 ^ i
two_256 : (i : ℕ) → 2 ^ (8 * i) ≡ 256 ^ i
two_256 zero = refl
two_256 (suc i) =
    let e : 8 * suc i ≡ 8 + 8 * i = omega arith in
    ap (λ (k : ℕ). 2 ^ k) e ∙ pow-add 2 8 (8 * i) ∙ ap (λ (k : ℕ). 256 * k) (two_256 i) ∙ sym (pow-succ' 256 i)

module _ (s : List ℕ) (at i : ℕ) (p : Bytes s) (q : i < 8) where
  shifted : get_or s (at + i) 0 * 2 ^ (8 * i) % 18446744073709551616 ≡ 256 ^ i * get_or s (at + i) 0
  unfolding Bytes
  shifted = shl_whole (get_or s (at + i) 0) 8 (8 * i) 64 (p (at + i)) (omega arith) ∙ rw (two_256 i) (mul_comm (get_or s (at + i) 0) (256 ^ i))

  pub le_more : (number : ℕ) → number ≡ le_at s at i → number + get_or s (at + i) 0 * 2 ^ (8 * i) % 18446744073709551616 ≡ le_at s at (i + 1)
  le_more number e = rw (shifted, le_join s i at 1, one_byte s (at + i), e)

  pub le-fits : le_at s at (i + 1) < 18446744073709551616
  le-fits =
      let h : i + 1 ≤ 8 = omega arith in
      let z : 0 < 256 = omega arith in
      let powers : 256 ^ (i + 1) ≤ 256 ^ 8 = pow-le-pow_right z h in
      omega (arith, le-bound (i + 1) s at p)
