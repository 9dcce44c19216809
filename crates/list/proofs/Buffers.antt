-- A run of bytes that is put into a buffer stands there, and around it what was there, since each store changes one byte.
use Prim.Native.Nat.{ℕ, ◌+◌, ◌≤◌}
use mathlib.Core.Path.{◌≡◌, sym, ap, ap₂, ◌∙◌}
use mathlib.Core.List.{List, ◌++◌, append_assoc}
use native.Mathlib.Omega.{arith}
use lib.ListN.{length, take, drop, length-append}
use lib.Seq.{sets, sets-eq, take_at, drop_at, drop-drop}

-- stores over a part of the same length replace it
pub overwrite : (b b' p r : List ℕ) (n : ℕ) → length p ≡ n → length b ≡ length b' → sets (p ++ (b ++ r)) n b' ≡ p ++ (b' ++ r)
overwrite b b' p r n l m =
    let x = length-append p (b ++ r) in
    let y = length-append b r in
    let d : drop (n + length b') (p ++ (b ++ r)) ≡ r = sym (drop-drop (length b') n (p ++ (b ++ r))) ∙ ap (drop (length b')) (drop_at p (b ++ r) n l) ∙ drop_at b r (length b') m in
    sets-eq b' (p ++ (b ++ r)) n (omega arith) ∙ ap₂ (λ (i j : List ℕ). i ++ b' ++ j) (take_at p (b ++ r) n l) d ∙ append_assoc p b' r

-- a run at the start
module _ (t a : List ℕ) (fits : length a ≤ length t) where
  pub put_first : sets t 0 a ≡ a ++ drop (length a) t
  put_first =
      let e : 0 + length a ≡ length a = omega arith in
      sets-eq a t 0 (omega arith) ∙ ap (λ (n : ℕ). a ++ drop n t) e

  pub first-is : (n : ℕ) → n ≡ length a → take n (sets t 0 a) ≡ a
  first-is n e = ap (take n) put_first ∙ take_at a (drop (length a) t) n (sym e)

  pub rest-stays : (n : ℕ) → n ≡ length a → drop n (sets t 0 a) ≡ drop n t
  rest-stays n e = ap (drop n) put_first ∙ drop_at a (drop (length a) t) n (sym e) ∙ ap (λ (m : ℕ). drop m t) (sym e)
