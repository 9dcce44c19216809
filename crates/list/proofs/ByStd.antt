-- The order of keys is std's order of slices, and that of versions is std's of pairs, the seqnos the other way round.
use Prim.Native.Nat.{ℕ, ◌-◌, ◌≤◌, ◌<◌}
use Rattle.std.specs.Prelude.{nat_eq, Option, Some, None, MatchOption}
use Rattle.std.specs.Option.{option_eq}
use Rattle.std.specs.Slice.{IsItemAt}
use Rattle.std.specs.Array.{IsWholeChunk}
use denote.Ref.{Bor}
use lib.ListN.{length, take, drop}
use lib.Dec.{ltb}
use mathlib.Core.Path.{◌≡◌, refl, sym, ap, ap₂, ◌∙◌}
use mathlib.Core.List.{List, [], ◌∷◌, ◌++◌}
use mathlib.Core.Bool.{Bool, true, false, not}
use native.Mathlib.Omega.{arith}
use borrow.Author.Tests.{lt-ltb, le-ltb, eq-eqb, ne_eqb}
use Rattle.std.specs.Cmp.Lexicographic.{pointwise, slice_cmp, texts_ties, other_text}
use Rattle.std.specs.Ordering.{nat_cmp, ordering_index, ordering_then, is_eq}
use Rattle.std.specs.declared.cmp.Ordering.{Ordering}
use Rattle.std.specs.declared.cmp.Ordering.TheVariants.{Less, Equal, Greater}
use Rattle.list.specs.Order.{compare, versions, then_by, downward, is_less, is_equal}
use Rattle.list.specs.Pick.{pick}
use Rattle.std.proofs.lemmas.List.{take-append-drop}
use Rattle.list.proofs.Strict.{Three, lt, eq, gt, three, agree, differ, told-one}
use Rattle.list.specs.Shared.{shared}
use Rattle.list.proofs.Shared.{less-there, greater-there}
use Rattle.list.proofs.Tests.{never}

pub slices : (a b : List ℕ) → slice_cmp nat_cmp a b ≡ compare a b
unfolding compare pick
slices [] [] = refl
slices [] (y ∷ ys) = refl
slices (x ∷ xs) [] = refl
slices (x ∷ xs) (y ∷ ys) = go (slices xs ys) (three x y)
  where
    go : slice_cmp nat_cmp xs ys ≡ compare xs ys → Three x y → slice_cmp nat_cmp (x ∷ xs) (y ∷ ys) ≡ pick (ltb x y) Less (pick (ltb y x) Greater (compare xs ys))
    go ih (lt h) = simp (lt-ltb _ _ h)
    go ih (eq h) =
        let p : y ≤ x = omega arith in
        let q : x ≤ y = omega arith in
        simp (le-ltb _ _ p, le-ltb _ _ q, eq-eqb _ _ h) ih
    go ih (gt h) =
        let p : y ≤ x = omega arith in
        let n : x ≡ y → ⊥ = λ e. omega arith in
        simp (le-ltb _ _ p, lt-ltb _ _ h, ne_eqb _ _ n)

pub seqnos : (m n : ℕ) → nat_cmp n m ≡ downward m n
unfolding downward pick
seqnos m n = go (three n m)
  where
    go : Three n m → nat_cmp n m ≡ pick (ltb n m) Less (pick (ltb m n) Greater Equal)
    go (lt h) = simp (lt-ltb _ _ h)
    go (eq h) =
        let p : m ≤ n = omega arith in
        let q : n ≤ m = omega arith in
        simp (le-ltb _ _ p, le-ltb _ _ q, eq-eqb _ _ h)
    go (gt h) =
        let p : m ≤ n = omega arith in
        let e : n ≡ m → ⊥ = λ e. omega arith in
        simp (le-ltb _ _ p, lt-ltb _ _ h, ne_eqb _ _ e)

pub then : (o p : Ordering) → ordering_then o p ≡ then_by o p
unfolding then_by
then Less p = refl
then Equal p = refl
then Greater p = refl

pub below : (o : Ordering) → nat_eq (ordering_index o) (ordering_index Less) ≡ is_less o
unfolding is_less
below Less = refl
below Equal = refl
below Greater = refl

-- with one seqno the keys decide
pub keys-alone : (a : List ℕ) (m : ℕ) (b : List ℕ) (n : ℕ) → m ≡ n → is_less (versions a m b n) ≡ is_less (compare a b)
unfolding versions then_by downward pick is_less
keys-alone a m b n e = go (compare a b)
  where
    go : (o : Ordering) → is_less (then_by o (downward m n)) ≡ is_less o
    go Less = refl
    go Equal =
        let p : m ≤ n = omega arith in
        let q : n ≤ m = omega arith in
        simp (le-ltb _ _ p, le-ltb _ _ q)
    go Greater = refl

pub equal : (a b : List ℕ) → pointwise nat_eq a b ≡ is_equal (compare a b)
unfolding is_equal
equal a b = texts_ties a b ∙ ap is_eq (slices a b) ∙ tied (compare a b)
  where
    tied : (o : Ordering) → is_eq o ≡ is_equal o
    tied Less = refl
    tied Equal = refl
    tied Greater = refl

-- a key's last eight bytes, if it has as many
abbrev Ends : List ℕ → Option (Bor (List ℕ)) → Type 0
Ends a o = MatchOption o (length a < 8) (λ x. (8 ≤ length a) × IsWholeChunk (drop (length a - 8) a) x.now 8)

pub other_ends : (a b : List ℕ) (o p : Option (Bor (List ℕ))) → Ends a o → Ends b p → false ≡ option_eq (λ x y. pointwise nat_eq x.now y.now) o p → false ≡ is_equal (compare a b)
other_ends a b o p l m f = sym (differ a b (go o p l m f))
  where
    go : (o p : Option (Bor (List ℕ))) → Ends a o → Ends b p → false ≡ option_eq (λ x y. pointwise nat_eq x.now y.now) o p → a ≡ b → ⊥
    go None None l m f e = never (sym f)
    go None (Some y) l m f e = omega (arith, ap length e)
    go (Some x) None l m f e = omega (arith, ap length e)
    go (Some x) (Some y) l m f e = other_text x.now y.now f (l.1.same ∙ ap (λ (s : List ℕ). drop (length s - 8) s) e ∙ sym m.1.same)

-- the last k bytes being the same, what stands before them decides
pub starts-decide : (k : ℕ) (a b : List ℕ) → drop (length a - k) a ≡ drop (length b - k) b
    → is_equal (compare (take (length a - k) a) (take (length b - k) b)) ≡ is_equal (compare a b)
starts-decide k a b e = go (is_equal (compare a b)) refl
  where
    whole : take (length a - k) a ≡ take (length b - k) b → a ≡ b
    whole s = sym (take-append-drop _ a) ∙ ap₂ ◌++◌ s e ∙ take-append-drop _ b

    go : (t : Bool) → is_equal (compare a b) ≡ t → is_equal (compare (take (length a - k) a) (take (length b - k) b)) ≡ is_equal (compare a b)
    go true f = agree _ _ (ap (λ (s : List ℕ). take (length s - k) s) (told-one a b f)) ∙ sym f
    go false f = differ _ _ (λ s. never (sym (agree a b (whole s)) ∙ f)) ∙ sym f

pub off : (t : Bool) → true ≡ not t → t ≡ false
off true n = n
off false n = refl

pub on : (t : Bool) → false ≡ not t → t ≡ true
on true n = refl
on false n = n

-- std's test of the last k bytes, which are not the same, or are
module _ (k : ℕ) (a b x y : List ℕ) (p : x ≡ drop (length a - k) a) (q : y ≡ drop (length b - k) b) where
  pub ends-part : true ≡ not (pointwise nat_eq x y) → false ≡ is_equal (compare a b)
  ends-part n = sym (differ a b (λ e. other_text x y (sym (off _ n)) (p ∙ ap (λ (s : List ℕ). drop (length s - k) s) e ∙ sym q)))

  pub ends-agree : false ≡ not (pointwise nat_eq x y) → drop (length a - k) a ≡ drop (length b - k) b
  ends-agree n = sym p ∙ told-one x y (sym (equal x y) ∙ on _ n) ∙ q

-- the first byte that is not shared decides, as it is looked up in both
module _ (a b : List ℕ) (i : ℕ) (e : i ≡ shared a b) (x y : Bor ℕ) (l : IsItemAt a i (Some x)) (m : IsItemAt b i (Some y)) where
  pub first-less : x.now < y.now → Less ≡ compare a b
  first-less h =
      let p = l.4 (omega arith) 0 in
      let q = m.4 (omega arith) 0 in
      less-there a b i e l.3.0 m.3.0 (omega arith)

  pub first-greater : y.now ≤ x.now → Greater ≡ compare a b
  first-greater h =
      let p = l.4 (omega arith) 0 in
      let q = m.4 (omega arith) 0 in
      greater-there a b i e l.3.0 m.3.0 (omega arith)
