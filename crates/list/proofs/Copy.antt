-- A copy is done byte by byte: one byte now, and then the copy of the rest.
use Prim.Native.Nat.{ℕ, suc, ◌+◌, ◌<◌}
use mathlib.Core.Path.{◌≡◌}
use mathlib.Core.List.{List}
use native.Mathlib.Numerals.{add-one}
use lib.ListN.{length, get_or, take, drop, set}
use lib.Seq.{sets, drop-cons}

module _ (s t : List ℕ) (j i n : ℕ) where
  pub copy-none : n ≡ 0 → sets t i (take n (drop j s)) ≡ t
  copy-none e = rw e

  pub copy-one : (k l m : ℕ) → k ≡ j + 1 → l ≡ i + 1 → n ≡ suc m → j < length s → sets t i (take n (drop j s)) ≡ sets (set t i (get_or s j 0)) l (take m (drop k s))
  copy-one k l m p q e h = rw (p, q, e, drop-cons s j 0, add-one, add-one)
