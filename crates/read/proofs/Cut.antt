-- Where a prefix is cut, looked for from its end: bytes of 255 at the end change nothing.
use native.Mathlib.Omega.{arith}
use mathlib.Core.List.{List, ◌∷◌, ◌++◌, []}
use lib.Dec.{ltb}
use lib.ListN.{length, get_or, take, length-take}
use lib.Seq.{take-suc, take_all}
use mathlib.Core.Path.{refl, sym, ap, ◌≡◌, ◌∙◌}
use Prim.Native.Nat.{ℕ, suc, ◌-◌, ◌≤◌, ◌<◌}
use Rattle.list.specs.Pick.{pick}
use Rattle.read.specs.Prefix.{cut_at}
use Rattle.read.proofs.Prefix.{cut_later, cut-here, cut-none}

cut-last : (l : List ℕ) (x : ℕ) → x < 255 → cut_at (l ++ (x ∷ [])) ≡ suc (length l)
cut-last [] x h = cut-here x [] (unfold cut_at in refl) h
cut-last (y ∷ l) x h = let i = cut-last l x h in cut_later y (l ++ (x ∷ [])) (omega arith) ∙ ap suc i

cut-same : (y : ℕ) (l m : List ℕ) → cut_at l ≡ cut_at m → cut_at (y ∷ l) ≡ cut_at (y ∷ m)
unfolding cut_at
cut-same y l m e = ap (λ n. pick (ltb 0 n) (suc n) (pick (ltb y 255) 1 0)) e

cut-not-last : (l : List ℕ) (x : ℕ) → 255 ≤ x → cut_at (l ++ (x ∷ [])) ≡ cut_at l
cut-not-last [] x h = cut-none x [] (unfold cut_at in refl) h ∙ (unfold cut_at in refl)
cut-not-last (y ∷ l) x h = cut-same y _ _ (cut-not-last l x h)

pub cut_all : (p : List ℕ) → cut_at (take (length p) p) ≡ cut_at p
cut_all p = ap cut_at (take_all (length p) p (omega arith))

module _ (p : List ℕ) (n : ℕ) (some : 0 < n) (in-it : n ≤ length p) (same : cut_at (take n p) ≡ cut_at p) where
  last : take n p ≡ take (n - 1) p ++ (get_or p (n - 1) 0 ∷ [])
  last =
      let e : n ≡ suc (n - 1) = omega arith in
      ap (λ m. take m p) e ∙ take-suc p (n - 1) 0 (omega arith)

  pub cut-found : get_or p (n - 1) 0 < 255 → n ≡ cut_at p
  cut-found h = omega (arith, same, ap cut_at last, cut-last (take (n - 1) p) (get_or p (n - 1) 0) h, length-take (n - 1) p)

  pub cut_on : 255 ≤ get_or p (n - 1) 0 → cut_at (take (n - 1) p) ≡ cut_at p
  cut_on h = sym (cut-not-last (take (n - 1) p) (get_or p (n - 1) 0) h) ∙ sym (ap cut_at last) ∙ same

pub cut-nowhere : (p : List ℕ) (n : ℕ) → n ≡ 0 → cut_at (take n p) ≡ cut_at p → 0 ≡ cut_at p
unfolding cut_at
cut-nowhere p n z e = rw z at e
