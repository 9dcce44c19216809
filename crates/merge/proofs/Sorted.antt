-- Versions that the order tells apart, sorted, are in strict order, because each is put before the first that it precedes; all versions of ordered lists are told apart.
use Prim.Native.Nat.{ℕ, zero, suc, ◌≤◌, ◌<◌}
use mathlib.Core.Path.{◌≡◌, refl, sym, ◌∙◌}
use mathlib.Core.List.{List, [], ◌∷◌, ◌++◌}
use mathlib.Core.Bool.{Bool, true, false}
use native.Mathlib.Omega.{arith}
use lib.ListN.{length, get_or}
use Rattle.list.specs.Pick.{pick}
use Rattle.list.specs.Version.{Version}
use Rattle.list.proofs.Tests.{never}
use Rattle.merge.specs.Placed.{Placed, before}
use Rattle.merge.specs.Merged.{numbered, gather, everything, among, sort}
use Rattle.merge.proofs.Order.{Before, before-true, before-trans, told, Stand, sooner-one, no-telling, later-one, stand}
use Rattle.merge.proofs.Lists.{All, no_one, also, join, every, all_among, all-sort, Chain, no-link, link}
use Rattle.merge.proofs.Numbered.{Rises, numbered-rises, Ordered}

-- one of two is before the other
pub data Apart (x y : Placed) : Type 0 where
  this-first : Before x y → Apart x y
  that-first : Before y x → Apart x y

abbrev pub Distinct : List Placed → Type 0
Distinct = Chain Apart

among-rises : (x : Placed) (l : List Placed) → All (Apart x) l → Rises l → Rises (among x l)
unfolding among pick
among-rises x [] f r = link no_one no-link
among-rises x (y ∷ l) (also p f) (link a r) = go (before y x) refl (among-rises x l f r)
  where
    this : Apart x y → before y x ≡ false → Before x y
    this (this-first b) q = b
    this (that-first b) q = never (sym (before-true y x b) ∙ q)

    go : (b : Bool) → before y x ≡ b → Rises (among x l) → Rises (pick b (y ∷ among x l) (x ∷ y ∷ l))
    go true q ih = link (all_among _ x l (told y x q) a) ih
    go false q ih = let b = this p q in link (also b (every _ _ _ (λ z c. before-trans x y z b c) a)) (link a r)

pub sort-rises : (l : List Placed) → Distinct l → Rises (sort l)
unfolding sort
sort-rises [] no-link = no-link
sort-rises (x ∷ l) (link f d) = among-rises x (sort l) (all-sort _ l f) (sort-rises l d)

distinct-join : (a b : List Placed) → Distinct a → Distinct b → All (λ x. All (Apart x) b) a → Distinct (a ++ b)
distinct-join [] b d e f = e
distinct-join (x ∷ a) b (link p d) e (also q f) = link (join _ a b p q) (distinct-join a b d e f)

rises-distinct : (l : List Placed) → Rises l → Distinct l
rises-distinct [] no-link = no-link
rises-distinct (x ∷ l) (link a r) = link (every _ _ _ (λ z b. this-first b) a) (rises-distinct l r)

numbered-list : (k i : ℕ) (vs : List Version) → All (λ z. z.list ≡ k) (numbered k i vs)
unfolding numbered
numbered-list k i [] = no_one
numbered-list k i (v ∷ vs) = also refl (numbered-list k (suc i) vs)

other-lists : (x y : Placed) → (x.list ≡ y.list → ⊥) → Apart x y
other-lists x y d = go (stand x y)
  where
    go : Stand x y → Apart x y
    go (sooner-one b) = this-first b
    go (no-telling e f g) = absurd (d g)
    go (later-one b) = that-first b

module _ (lists : List (List Version)) (o : Ordered lists) where
  lower-lists : (n : ℕ) → All (λ z. z.list < n) (gather n (λ k. numbered k 0 (get_or lists k [])))
  unfolding gather
  lower-lists zero = no_one
  lower-lists (suc n) = join _ _ _ (every _ _ _ (λ z h. omega arith) (lower-lists n)) (every _ _ _ (λ z h. omega arith) (numbered-list n 0 (get_or lists n [])))

  distinct-to : (n : ℕ) → n ≤ length lists → Distinct (gather n (λ k. numbered k 0 (get_or lists k [])))
  unfolding gather
  distinct-to zero h = no-link
  distinct-to (suc n) h = distinct-join _ _ (distinct-to n (omega arith)) (rises-distinct _ (numbered-rises n 0 (get_or lists n []) (o n (omega arith))))
      (every _ _ _ (λ x l. every _ _ _ (λ y e. other-lists x y (λ q. omega arith)) (numbered-list n 0 (get_or lists n []))) (lower-lists n))

  pub all-distinct : Distinct (everything lists)
  unfolding everything
  all-distinct = distinct-to (length lists) (omega arith)
