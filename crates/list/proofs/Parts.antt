-- Parts of a list: how long they are, where they begin, what a part of a part is, and that bytes stay bytes in them, since each byte of a part is one of the list's.
use Prim.Native.Nat.{ℕ, zero, suc, ◌+◌, ◌-◌, ◌/◌, ◌≤◌, ◌<◌}
use mathlib.Core.Path.{◌≡◌, refl, ap, ◌∙◌}
use mathlib.Core.List.{List, [], ◌∷◌, ◌++◌}
use mathlib.Core.Bool.{Bool, true, false}
use native.Mathlib.Omega.{arith}
use borrow.Author.Tests.{ltb-true, ltb-false}
use lib.Dec.{ltb}
use lib.ListN.{length, take, drop, get_or, length-take, length-drop, get_or-append, get_or-eq_default}
use lib.Seq.{drop-drop, take-take, length-take-le, get_or-take, get_or-drop, get_or-append-add}
use Rattle.list.specs.Field.{le_bytes}
use Rattle.list.specs.Record.{onward}
use Rattle.list.specs.Version.{Bytes}

pub data Side (i n : ℕ) : Type 0 where
  left : i < n → Side i n
  right : n ≤ i → Side i n

pub side : (i n : ℕ) → Side i n
side i n = go (ltb i n) refl
  where
    go : (b : Bool) → ltb i n ≡ b → Side i n
    go true e = left (ltb-true i n e)
    go false e = right (ltb-false i n e)

-- std's `length-chunk`, said of `take` and `drop`, of which all laws here speak
pub part_length : (s : List ℕ) (at n : ℕ) → at + n ≤ length s → length (take n (drop at s)) ≡ n
part_length s at n h = length-take-le n (drop at s) (rw (length-drop at s) (omega arith))

pub part-begins : (start : ℕ × ℕ) (m n : ℕ) → m ≡ n → (start.0, m + start.1) ≡ onward start n
unfolding onward
part-begins start m n e = let q : m + start.1 ≡ start.1 + n = omega arith in ap (λ j. (start.0, j)) q

part-of-take : (l : List ℕ) (m at n : ℕ) → at + n ≤ m → take n (drop at (take m l)) ≡ take n (drop at l)
part-of-take l m zero n h = take-take n m l (omega arith)
part-of-take l zero (suc at) n h = absurd (omega arith)
part-of-take [] (suc m) (suc at) n h = refl
part-of-take (x ∷ l) (suc m) (suc at) n h = part-of-take l m at n (omega arith)

pub part-part : (s : List ℕ) (from len at n : ℕ) → at + n ≤ len → take n (drop at (take len (drop from s))) ≡ take n (drop (from + at) s)
part-part s from len at n h = part-of-take (drop from s) len at n h ∙ ap (take n) (drop-drop at from s)

pub bytes_drop : (n : ℕ) (s : List ℕ) → Bytes s → Bytes (drop n s)
unfolding Bytes
bytes_drop n s b i = rw (get_or-drop n s i 0) (b (n + i))

pub bytes_take : (n : ℕ) (s : List ℕ) → Bytes s → Bytes (take n s)
unfolding Bytes
bytes_take n s b i = go (side i n)
  where
    go : Side i n → get_or (take n s) i 0 < 256
    go (left h) = rw (get_or-take n s i 0 h) (b i)
    go (right h) =
        let l = length-take n s in
        let k : length (take n s) ≤ i = omega arith in
        rw (get_or-eq_default (take n s) 0 k) (omega arith)

pub bytes-append : (a b : List ℕ) → Bytes a → Bytes b → Bytes (a ++ b)
unfolding Bytes
bytes-append a b p q i = go (side i (length a))
  where
    go : Side i (length a) → get_or (a ++ b) i 0 < 256
    go (left h) = rw (get_or-append a b 0 i h) (p i)
    go (right h) =
        let e : i ≡ length a + (i - length a) = omega arith in
        let g : get_or (a ++ b) i 0 ≡ get_or b (i - length a) 0 = ap (λ (j : ℕ). get_or (a ++ b) j 0) e ∙ get_or-append-add a b (i - length a) 0 in
        rw g (q (i - length a))

pub bytes_le : (n x : ℕ) → Bytes (le_bytes x n)
unfolding Bytes le_bytes
bytes_le zero x i = omega arith
bytes_le (suc n) x zero = omega arith
bytes_le (suc n) x (suc i) = bytes_le n (x / 256) i
