-- The answers of a prefix to its bounds, each under its test; and that the bytes copied, the last raised, are the upper bound.
use native.Mathlib.Omega.{arith}
use native.Mathlib.Numerals.{add-one}
use mathlib.Core.List.{List, ◌∷◌, ◌++◌, []}
use borrow.Author.Tests.{lt-ltb, le-ltb, eq-eqb, ne_eqb}
use lib.ListN.{length, get_or, set, take, drop, length-take}
use lib.Seq.{take-suc, sets}
use mathlib.Core.Path.{refl, sym, ap, ◌≡◌, ◌∙◌}
use Prim.Native.Nat.{ℕ, zero, suc, ◌+◌, ◌-◌, ◌≤◌, ◌<◌}
use Rattle.list.proofs.Numbers.{then-put}
use Rattle.list.specs.declared.refusal.Refusal.TheVariants.{LongKey, NoRoom}
use Rattle.std.specs.Prelude.{Some, None, Ok, Err}
use Rattle.list.specs.Limits.{key_limit}
use Rattle.list.specs.Pick.{pick}
use Rattle.list.proofs.Strict.{Three, eq, gt, lt, three}
use Rattle.read.specs.Prefix.{Prefixed, cut_at, prefixed, raised, upper_bytes, upper_written}
use Rattle.read.proofs.Prefix.{cut_later, cut-here, cut-none, cut_in}

-- the byte that is raised is below 255
pub cut-byte : (p : List ℕ) (n : ℕ) → n ≡ cut_at p → (n ≡ 0 → ⊥) → get_or p (n - 1) 0 < 255
cut-byte p n e d = rw e (go p (λ z. d (e ∙ z)))
  where
    later : (x : ℕ) (p : List ℕ) (m : ℕ) → 0 < m → get_or (x ∷ p) m 0 ≡ get_or p (m - 1) 0
    later x p zero h = absurd (omega arith)
    later x p (suc m) h = let e : m ≡ suc m - 1 = omega arith in ap (λ j. get_or p j 0) e

    go : (p : List ℕ) → (cut_at p ≡ 0 → ⊥) → get_or p (cut_at p - 1) 0 < 255
    go [] d = absurd (d (unfold cut_at in refl))
    go (x ∷ p) d = by (three 0 (cut_at p)) (three x 255) (go p)
      where
        by : Three 0 (cut_at p) → Three x 255 → ((cut_at p ≡ 0 → ⊥) → get_or p (cut_at p - 1) 0 < 255) → get_or (x ∷ p) (cut_at (x ∷ p) - 1) 0 < 255
        by (lt h) t ih =
            let m : cut_at (x ∷ p) - 1 ≡ cut_at p = omega (arith, cut_later x p h) in
            rw (m, later x p (cut_at p) h) (ih (λ e. omega arith))
        by (eq h) (lt g) ih =
            let m : cut_at (x ∷ p) - 1 ≡ 0 = omega (arith, cut-here x p (sym h) g) in
            rw m g
        by (eq h) (eq g) ih = absurd (d (cut-none x p (sym h) (omega arith)))
        by (eq h) (gt g) ih = absurd (d (cut-none x p (sym h) (omega arith)))
        by (gt h) t ih = absurd (omega arith)

raise-last : (l : List ℕ) (x : ℕ) → raised (l ++ (x ∷ [])) ≡ l ++ (suc x ∷ [])
unfolding raised
raise-last [] x = refl
raise-last (y ∷ []) x = refl
raise-last (y ∷ z ∷ l) x = ap (λ m. y ∷ m) (raise-last (z ∷ l) x)

raised_is : (p : List ℕ) (n : ℕ) → n ≡ cut_at p → (n ≡ 0 → ⊥) → take (n - 1) p ++ ((get_or p (n - 1) 0 + 1) ∷ []) ≡ upper_bytes p
unfolding upper_bytes
raised_is p n e d =
    let q : cut_at p ≡ suc (n - 1) = omega arith in
    let l : n - 1 < length p = omega (arith, cut_in p) in
    ap (λ y. take (n - 1) p ++ (y ∷ [])) (add-one _) ∙ sym (raise-last (take (n - 1) p) (get_or p (n - 1) 0)) ∙ ap raised (sym (take-suc p (n - 1) 0 l) ∙ ap (λ m. take m p) (sym q))

module _ (p t : List ℕ) where
  abbrev pub Answered : Prefixed → List ℕ → Type 0
  Answered r u = (r ≡ prefixed p (length t)) × (u ≡ upper_written (prefixed p (length t)) p t)

  answered : (r : Prefixed) (u : List ℕ) → r ≡ prefixed p (length t) → u ≡ upper_written r p t → Answered r u
  answered r u e f = (e, f ∙ ap (λ a. upper_written a p t) e)

  says-long : key_limit < length p → Err LongKey ≡ prefixed p (length t)
  unfolding prefixed pick
  says-long h = rw (lt-ltb _ _ h)

  pub too_long : key_limit < length p → Answered (Err LongKey) t
  too_long h = answered _ t (says-long h) (unfold upper_written in refl)

  module _ (n : ℕ) (short : length p ≤ key_limit) (e : n ≡ cut_at p) where
    says-unbounded : n ≡ 0 → Ok None ≡ prefixed p (length t)
    unfolding prefixed pick
    says-unbounded z = rw (le-ltb key_limit (length p) short, eq-eqb (cut_at p) 0 (sym e ∙ z))

    pub unbounded : n ≡ 0 → Answered (Ok None) t
    unbounded z = answered _ t (says-unbounded z) (unfold upper_written in refl)

    module _ (d : n ≡ 0 → ⊥) where
      cut-some : cut_at p ≡ 0 → ⊥
      cut-some z = d (e ∙ z)

      says-no-room : length t < n → Err NoRoom ≡ prefixed p (length t)
      unfolding prefixed pick
      says-no-room h =
          let g : length t < cut_at p = omega arith in
          rw (le-ltb key_limit (length p) short, ne_eqb (cut_at p) 0 cut-some, lt-ltb _ _ g)

      pub no_room : length t < n → Answered (Err NoRoom) t
      no_room h = answered _ t (says-no-room h) (unfold upper_written in refl)

      says-bounded : n ≤ length t → Ok (Some n) ≡ prefixed p (length t)
      unfolding prefixed pick
      says-bounded h =
          let g : cut_at p ≤ length t = omega arith in
          rw (le-ltb key_limit (length p) short, ne_eqb (cut_at p) 0 cut-some, le-ltb (length t) (cut_at p) g, e)

      wrote : (u : List ℕ) → u ≡ sets t 0 (take (n - 1) (drop 0 p)) → set u (n - 1) (get_or p (n - 1) 0 + 1) ≡ upper_written (Ok (Some n)) p t
      unfolding upper_written
      wrote u w =
          let l : n - 1 ≡ 0 + length (take (n - 1) p) = omega (arith, length-take (n - 1) p, cut_in p) in
          then-put t u (take (n - 1) p) ((get_or p (n - 1) 0 + 1) ∷ []) 0 (n - 1) w l ∙ ap (sets t 0) (raised_is p n e d)

      pub bounded : (u : List ℕ) → u ≡ sets t 0 (take (n - 1) (drop 0 p)) → n ≤ length t → Answered (Ok (Some n)) (set u (n - 1) (get_or p (n - 1) 0 + 1))
      bounded u w h = answered _ _ (says-bounded h) (wrote u w)
