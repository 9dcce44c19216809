-- Filters and the first of each key, at both ends of a list: what comes first at an end stays there, by induction on the list.
use mathlib.Core.Path.{◌≡◌, refl, sym, ap, ◌∙◌}
use mathlib.Core.List.{List, [], ◌∷◌, ◌++◌, append-nil}
use mathlib.Core.Bool.{Bool, true, false, not}
use Rattle.list.specs.Pick.{pick}
use Rattle.list.proofs.Tests.{never}
use Rattle.merge.specs.Placed.{Placed, same_key}
use Rattle.merge.specs.declared.ends.End.{End}
use Rattle.merge.specs.declared.ends.End.TheVariants.{Back, Front}
use Rattle.merge.proofs.Order.{same-key-true, key-same}
use Rattle.merge.proofs.Lists.{All, no_one, also, every, put, Chain, no-link, link}
use Rattle.merge.proofs.Lead.{Other}
use Rattle.read.specs.Entries.{only, firsts}

pub only_yes : (t : Placed → Bool) (x : Placed) (l : List Placed) → t x ≡ true → only t (x ∷ l) ≡ x ∷ only t l
unfolding only pick
only_yes t x l h = rw h

pub only_no : (t : Placed → Bool) (x : Placed) (l : List Placed) → t x ≡ false → only t (x ∷ l) ≡ only t l
unfolding only pick
only_no t x l h = rw h

pub only-append : (t : Placed → Bool) (a b : List Placed) → only t (a ++ b) ≡ only t a ++ only t b
unfolding only pick
only-append t [] b = refl
only-append t (x ∷ a) b = go (t x) (only-append t a b)
  where
    go : (c : Bool) → only t (a ++ b) ≡ only t a ++ only t b → pick c (x ∷ only t (a ++ b)) (only t (a ++ b)) ≡ pick c (x ∷ only t a) (only t a) ++ only t b
    go true h = ap (λ l. x ∷ l) h
    go false h = h

pub only-put-yes : (e : End) (t : Placed → Bool) (x : Placed) (l : List Placed) → t x ≡ true → only t (put e x l) ≡ put e x (only t l)
unfolding put only pick
only-put-yes Front t x l h = only_yes t x l h
only-put-yes Back t x l h = only-append t l (x ∷ []) ∙ rw h

pub only-put-no : (e : End) (t : Placed → Bool) (x : Placed) (l : List Placed) → t x ≡ false → only t (put e x l) ≡ only t l
unfolding put only pick
only-put-no Front t x l h = only_no t x l h
only-put-no Back t x l h = only-append t l (x ∷ []) ∙ rw h (append-nil _)

pub only-all : (t : Placed → Bool) (l : List Placed) → All (λ z. t z ≡ true) l → only t l ≡ l
unfolding only pick
only-all t [] f = refl
only-all t (x ∷ l) (also p f) = rw p (ap (λ l'. x ∷ l') (only-all t l f))

pub only_none : (t : Placed → Bool) (l : List Placed) → All (λ z. t z ≡ false) l → only t l ≡ []
unfolding only pick
only_none t [] f = refl
only_none t (x ∷ l) (also p f) = rw p (only_none t l f)

pub all-only : (P : Placed → Type 0) (t : Placed → Bool) (l : List Placed) → All P l → All P (only t l)
unfolding only pick
all-only P t [] f = no_one
all-only P t (x ∷ l) (also p f) = go (t x) (all-only P t l f)
  where
    go : (b : Bool) → All P (only t l) → All P (pick b (x ∷ only t l) (only t l))
    go true g = also p g
    go false g = g

pub only-chain : (R : Placed → Placed → Type 0) (t : Placed → Bool) (l : List Placed) → Chain R l → Chain R (only t l)
unfolding only pick
only-chain R t [] r = no-link
only-chain R t (x ∷ l) (link a r) = go (t x) (only-chain R t l r)
  where
    go : (b : Bool) → Chain R (only t l) → Chain R (pick b (x ∷ only t l) (only t l))
    go true ih = link (all-only _ t l a) ih
    go false ih = ih

pub all_firsts : (P : Placed → Type 0) (l : List Placed) → All P l → All P (firsts l)
unfolding firsts
all_firsts P [] f = no_one
all_firsts P (x ∷ l) (also p f) = also p (all-only P _ _ (all_firsts P l f))

pub only-only : (t u : Placed → Bool) (l : List Placed) → ((z : Placed) → t z ≡ true → u z ≡ true) → only t (only u l) ≡ only t l
unfolding only pick
only-only t u [] h = refl
only-only t u (x ∷ l) h = go (u x) (t x) refl refl (only-only t u l h)
  where
    go : (b c : Bool) → u x ≡ b → t x ≡ c → only t (only u l) ≡ only t l → only t (pick b (x ∷ only u l) (only u l)) ≡ pick c (x ∷ only t l) (only t l)
    go true true p q ih = only_yes t x (only u l) q ∙ ap (λ l'. x ∷ l') ih
    go true false p q ih = only_no t x (only u l) q ∙ ih
    go false true p q ih = never (sym (h x q) ∙ p)
    go false false p q ih = ih

pub not_same : (x y : Placed) → Other x y → not (same_key x y) ≡ true
not_same x y d = go (same_key x y) refl
  where
    go : (b : Bool) → same_key x y ≡ b → not b ≡ true
    go true e = absurd (d (same-key-true x y e))
    go false e = refl

pub is_same : (x y : Placed) → x.version.key ≡ y.version.key → not (same_key x y) ≡ false
is_same x y e = rw (key-same x y e)

-- a version of a key that comes after one of the same key is no first
pub shadowed-front : (p x : Placed) (l : List Placed) → p.version.key ≡ x.version.key → firsts (p ∷ x ∷ l) ≡ firsts (p ∷ l)
unfolding firsts
shadowed-front p x l e = ap (λ l'. p ∷ l') (only_no _ x _ (is_same p x e) ∙ only-only _ _ (firsts l) (λ z h. go z h))
  where
    go : (z : Placed) → not (same_key p z) ≡ true → not (same_key x z) ≡ true
    go z h = not_same x z (λ q. never (sym h ∙ is_same p z (e ∙ q)))

pub shadowed-back : (p x : Placed) (l : List Placed) → p.version.key ≡ x.version.key → firsts ((l ++ (x ∷ [])) ++ (p ∷ [])) ≡ firsts (l ++ (x ∷ []))
unfolding firsts
shadowed-back p x [] e = shadowed-front x p [] (sym e)
shadowed-back p x (y ∷ l) e = ap (λ l'. y ∷ only (λ z. not (same_key y z)) l') (shadowed-back p x l e)

-- a version of a key that the others don't have
pub fresh : (e : End) (p : Placed) (l : List Placed) → All (Other p) l → firsts (put e p l) ≡ put e p (firsts l)
unfolding firsts put only pick
fresh Front p l f = ap (λ l'. p ∷ l') (only-all _ (firsts l) (every _ _ _ (λ z d. not_same p z d) (all_firsts _ l f)))
fresh Back p [] f = refl
fresh Back p (y ∷ l) (also d f) = ap (λ l'. y ∷ only (λ z. not (same_key y z)) l') (fresh Back p l f)
    ∙ ap (λ l'. y ∷ l') (only-put-yes Back (λ z. not (same_key y z)) p (firsts l) (not_same y p (λ q. d (sym q))))
