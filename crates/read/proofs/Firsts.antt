-- The first of each key of versions in strict order is its newest, and sorting and filtering neither bring nor lose others, by induction on the list.
use mathlib.Core.Path.{◌≡◌, refl, sym, ap, subst, ◌∙◌}
use mathlib.Core.List.Memᴰ
use mathlib.Core.List.{List, [], ◌∷◌, Memᴰ}
use mathlib.Core.Bool.{Bool, true, false, not}
use mathlib.Core.Logic.{◌⊎◌, inl, inr}
use Rattle.list.specs.Order.{compare, is_less}
use Rattle.list.specs.Pick.{pick}
use Rattle.std.specs.declared.cmp.Ordering.TheVariants.{Less}
use Rattle.list.proofs.Tests.{never}
use Rattle.merge.specs.Placed.{Placed, before, same_key}
use Rattle.merge.specs.Merged.{among, sort}
use Rattle.merge.proofs.Order.{Before, by_key, by-seqno, by-list, before-true, asym, told, same-key-true, key-same}
use Rattle.merge.proofs.Lists.{All, no_one, also, every, all-sort, Chain, no-link, link}
use Rattle.merge.proofs.Numbered.{Rises}
use Rattle.read.specs.Entries.{only, firsts}
use Rattle.read.specs.Demand.{ascending}
use Rattle.read.proofs.Lists.{all-only, all_firsts, only-chain, not_same, is_same}

-- who is among the sorted, the kept
abbrev pub In : Placed → List Placed → Type 0
In x l = Memᴰ x l

pub of-all : (P : Placed → Type 0) (x : Placed) (l : List Placed) → All P l → In x l → P x
of-all P x (y ∷ l) (also p f) (Memᴰ.head e) = subst P (sym e) p
of-all P x (y ∷ l) (also p f) (Memᴰ.tail m) = of-all P x l f m
of-all P x [] _ x4 = elim x4 [ ]

pub all_among : (l : List Placed) → All (λ z. In z l) l
all_among [] = no_one
all_among (x ∷ l) = also (Memᴰ.head refl) (every _ _ l (λ z m. Memᴰ.tail m) (all_among l))

pub from-sort : (x : Placed) (l : List Placed) → In x (sort l) → In x l
from-sort x l m = of-all _ x (sort l) (all-sort _ l (all_among l)) m

pub from-only : (t : Placed → Bool) (x : Placed) (l : List Placed) → In x (only t l) → In x l
from-only t x l m = of-all _ x (only t l) (all-only _ t l (all_among l)) m

all_pass : (t : Placed → Bool) (l : List Placed) → All (λ z. t z ≡ true) (only t l)
unfolding only pick
all_pass t [] = no_one
all_pass t (x ∷ l) = go (t x) refl (all_pass t l)
  where
    go : (b : Bool) → t x ≡ b → All (λ z. t z ≡ true) (only t l) → All (λ z. t z ≡ true) (pick b (x ∷ only t l) (only t l))
    go true e f = also e f
    go false e f = f

pub kept : (t : Placed → Bool) (x : Placed) (l : List Placed) → In x (only t l) → t x ≡ true
kept t x l m = of-all _ x (only t l) (all_pass t l) m

pub to-only : (t : Placed → Bool) (x : Placed) (l : List Placed) → In x l → t x ≡ true → In x (only t l)
unfolding only pick
to-only t x (y ∷ l) (Memᴰ.head e) h = go (t y) (sym (ap t e) ∙ h)
  where
    go : (b : Bool) → b ≡ true → In x (pick b (y ∷ only t l) (only t l))
    go true q = Memᴰ.head e
    go false q = never (sym q)
to-only t x (y ∷ l) (Memᴰ.tail m) h = go (t y) (to-only t x l m h)
  where
    go : (b : Bool) → In x (only t l) → In x (pick b (y ∷ only t l) (only t l))
    go true k = Memᴰ.tail k
    go false k = k
to-only t x [] x3 h = elim x3 [ ]

among-here : (x z : Placed) (l : List Placed) → z ≡ x → In z (among x l)
unfolding among pick
among-here x z [] e = Memᴰ.head e
among-here x z (y ∷ l) e = go (before y x) (among-here x z l e)
  where
    go : (b : Bool) → In z (among x l) → In z (pick b (y ∷ among x l) (x ∷ y ∷ l))
    go true k = Memᴰ.tail k
    go false k = Memᴰ.head e

among_there : (x z : Placed) (l : List Placed) → In z l → In z (among x l)
unfolding among pick
among_there x z (y ∷ l) (Memᴰ.head e) = go (before y x)
  where
    go : (b : Bool) → In z (pick b (y ∷ among x l) (x ∷ y ∷ l))
    go true = Memᴰ.head e
    go false = Memᴰ.tail (Memᴰ.head e)
among_there x z (y ∷ l) (Memᴰ.tail m) = go (before y x) (among_there x z l m)
  where
    go : (b : Bool) → In z (among x l) → In z (pick b (y ∷ among x l) (x ∷ y ∷ l))
    go true k = Memᴰ.tail k
    go false k = Memᴰ.tail (Memᴰ.tail m)
among_there x z [] x'' = elim x'' [ ]

pub to-sort : (z : Placed) (l : List Placed) → In z l → In z (sort l)
unfolding sort
to-sort z (x ∷ l) (Memᴰ.head e) = among-here x z (sort l) e
to-sort z (x ∷ l) (Memᴰ.tail m) = among_there x z (sort l) (to-sort z l m)
to-sort z [] x' = elim x' [ ]

-- the first of its key in a list
pub record First (l : List Placed) (e : Placed) : Type 0 where
  pub there : In e l
  pub first-of-key : (z : Placed) → In z l → z.version.key ≡ e.version.key → (z ≡ e) ⊎ (before e z ≡ true)

pub first-told : (l : List Placed) → Rises l → All (First l) (firsts l)
unfolding firsts
first-told [] r = no_one
first-told (y ∷ l) (link a r) = also self (below (first-told l r))
  where
    self : First (y ∷ l) y
    self = record { there = Memᴰ.head refl; first-of-key = λ z m q. go z m }
      where
        go : (z : Placed) → In z (y ∷ l) → (z ≡ y) ⊎ (before y z ≡ true)
        go z (Memᴰ.head e) = inl e
        go z (Memᴰ.tail m) = inr (before-true y z (of-all _ z l a m))

    further : (e : Placed) → First l e → not (same_key y e) ≡ true → First (y ∷ l) e
    further e f d = record { there = Memᴰ.tail f.there; first-of-key = go }
      where
        go : (z : Placed) → In z (y ∷ l) → z.version.key ≡ e.version.key → (z ≡ e) ⊎ (before e z ≡ true)
        go z (Memᴰ.head q) k = never (sym d ∙ is_same y e (ap (λ w. w.version.key) (sym q) ∙ k))
        go z (Memᴰ.tail m) k = f.first-of-key z m k

    below : All (First l) (firsts l) → All (First (y ∷ l)) (only (λ z. not (same_key y z)) (firsts l))
    below f = both (only (λ z. not (same_key y z)) (firsts l)) (all-only _ _ (firsts l) f) (all_pass _ (firsts l))
      where
        both : (m : List Placed) → All (First l) m → All (λ z. not (same_key y z) ≡ true) m → All (First (y ∷ l)) m
        both [] no_one no_one = no_one
        both (x ∷ m) (also p g) (also q h) = also (further x p q) (both m g h)

pub first-is : (l : List Placed) → Rises l → (e : Placed) → First l e → In e (firsts l)
unfolding firsts
first-is [] r e f = absurd (Memᴰ.not-nil f.there)
first-is (y ∷ l) (link a r) e f = go (first-is l r e) f.there
  where
    go : (First l e → In e (firsts l)) → In e (y ∷ l) → In e (y ∷ only (λ z. not (same_key y z)) (firsts l))
    go ih (Memᴰ.head q) = Memᴰ.head q
    go ih (Memᴰ.tail m) = by (same_key y e) refl
      where
        either : (y ≡ e) ⊎ (before e y ≡ true) → In e (y ∷ only (λ z. not (same_key y z)) (firsts l))
        either (inl q) = Memᴰ.head (sym q)
        either (inr q) = asym y e (of-all _ e l a m) (told e y q)

        by : (b : Bool) → same_key y e ≡ b → In e (y ∷ only (λ z. not (same_key y z)) (firsts l))
        by true q = either (f.first-of-key y (Memᴰ.head refl) (same-key-true y e q))
        by false q = Memᴰ.tail (to-only _ e (firsts l) (ih (record { there = m; first-of-key = λ z k w. f.first-of-key z (Memᴰ.tail k) w })) (ap not q))

-- every key has a first
pub has_first : (l : List Placed) (z : Placed) → In z l → (e : Placed) × In e (firsts l) × (e.version.key ≡ z.version.key)
unfolding firsts
has_first (y ∷ l) z (Memᴰ.head q) = (y, Memᴰ.head refl, ap (λ w. w.version.key) (sym q))
has_first (y ∷ l) z (Memᴰ.tail m) = by (same_key y z) refl (has_first l z m)
  where
    by : (b : Bool) → same_key y z ≡ b → ((e : Placed) × In e (firsts l) × (e.version.key ≡ z.version.key))
        → (e : Placed) × In e (y ∷ only (λ z. not (same_key y z)) (firsts l)) × (e.version.key ≡ z.version.key)
    by true q r = (y, Memᴰ.head refl, same-key-true y z q)
    by false q r = (r.0, Memᴰ.tail (to-only _ r.0 (firsts l) r.1 (not_same y r.0 (λ k. never (sym (key-same y z (k ∙ r.2)) ∙ q)))), r.2)
has_first [] z x' = elim x' [ ]

-- keys below keys
abbrev pub Climbs : List Placed → Type 0
Climbs = Chain (λ x z. compare x.version.key z.version.key ≡ Less)

pub firsts-climb : (l : List Placed) → Rises l → Climbs (firsts l)
unfolding firsts
firsts-climb [] r = no-link
firsts-climb (y ∷ l) (link a r) = link (both _ (all-only _ _ _ (all_firsts _ l a)) (all_pass _ (firsts l))) (only-chain _ _ (firsts l) (firsts-climb l r))
  where
    lower : (z : Placed) → Before y z → not (same_key y z) ≡ true → compare y.version.key z.version.key ≡ Less
    lower z (by_key e) q = e
    lower z (by-seqno e h) q = never (sym q ∙ is_same y z e)
    lower z (by-list e g h) q = never (sym q ∙ is_same y z e)

    both : (m : List Placed) → All (Before y) m → All (λ z. not (same_key y z) ≡ true) m → All (λ z. compare y.version.key z.version.key ≡ Less) m
    both [] no_one no_one = no_one
    both (x ∷ m) (also p g) (also q h) = also (lower x p q) (both m g h)

pub climbs-ascending : (l : List Placed) → Climbs l → ascending l ≡ true
unfolding ascending is_less
climbs-ascending [] c = refl
climbs-ascending (x ∷ []) c = refl
climbs-ascending (x ∷ y ∷ l) (link (also p f) c) = rw p (climbs-ascending (y ∷ l) c)
