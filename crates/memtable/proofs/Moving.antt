-- A part copied to another place, and a part filled with zeros, come to lie as the definitions of the splice lay them.
use Prim.Native.Nat.{ℕ, ◌+◌, ◌-◌, ◌≤◌, max}
use mathlib.Core.Path.{◌≡◌, sym, ap, ◌∙◌}
use mathlib.Core.List.{List, ◌++◌, append_assoc}
use native.Mathlib.Omega.{arith}
use lib.ListN.{length, take, drop, replicate, length-drop, length-replicate}
use lib.Seq.{sets, sets-eq, length-take-le}
use Rattle.std.specs.List.{copy_within}
use Rattle.std.proofs.lemmas.List.{drop-take}
use Rattle.std.proofs.lemmas.List.Edits.{paste_all}
use Rattle.std.proofs.lemmas.Slice.{put_mid-paste}
use borrow.Rule.Slice.PartMut.{put_mid}
use Rattle.memtable.specs.Private.{moved}

pub moves : (t : List ℕ) (a e to : ℕ) → a ≤ e → copy_within t a e to ≡ moved t a e to
unfolding moved
moves t a e to h =
    let s : a + (e - a) ≡ e = omega arith in
    let d : drop a (take e t) ≡ take (e - a) (drop a t) = ap (λ (n : ℕ). drop a (take n t)) (sym s) ∙ drop-take a (e - a) t in
    rw d (append_assoc (take to t) (take (e - a) (drop a t)) (drop (to + (e - a)) t))

-- m is the larger of a part's start and what is to be its end
pub clears : (t u : List ℕ) (a e m : ℕ) → m ≡ max a e → u ≡ replicate (length (take (m - a) (drop a t))) 0 → a ≤ length t → e ≤ length t
    → put_mid a (m - a) t u ≡ sets t a (replicate (e - a) 0)
clears t u a e m i f g h =
    let k : m - a ≡ e - a = omega arith in
    let n = length-drop a t in
    let l : length (take (m - a) (drop a t)) ≡ e - a = length-take-le (m - a) (drop a t) (omega arith) ∙ k in
    let z = length-replicate {A = ℕ} (e - a) 0 in
    put_mid-paste a (m - a) t u (replicate (e - a) 0) (e - a) (f ∙ ap (λ (j : ℕ). replicate j 0) l) (sym k) (sym z)
    ∙ paste_all t a (replicate (e - a) 0) (e - a) (sym z)
    ∙ sym (sets-eq (replicate (e - a) 0) t a (omega arith) ∙ ap (λ (j : ℕ). take a t ++ replicate (e - a) 0 ++ drop (a + j) t) z ∙ append_assoc (take a t) (replicate (e - a) 0) (drop (a + (e - a)) t))
