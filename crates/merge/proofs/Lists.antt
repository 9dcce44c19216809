-- Sorting, at both ends of a list: what comes first at an end stands there once sorted, by induction on the list.
use mathlib.Core.Path.{◌≡◌, refl, ap}
use mathlib.Core.List.{List, [], ◌∷◌, ◌++◌}
use mathlib.Core.Bool.{Bool, true, false}
use Rattle.list.specs.Pick.{pick}
use Rattle.merge.specs.Merged.{among, sort}
use Rattle.merge.specs.Placed.{Placed, before}
use Rattle.merge.specs.declared.ends.End.{End}
use Rattle.merge.specs.declared.ends.End.TheVariants.{Back, Front}
use Rattle.merge.proofs.Order.{Before, before-true, before-false}

pub data All (P : Placed → Type 0) : List Placed → Type 0 where
  no_one : All P []
  also : {x : Placed} {xs : List Placed} → P x → All P xs → All P (x ∷ xs)

module _ (P : Placed → Type 0) where
  pub join : (a b : List Placed) → All P a → All P b → All P (a ++ b)
  join [] b f g = g
  join (x ∷ a) b (also p f) g = also p (join a b f g)

  pub squeeze : (a : List Placed) (x : Placed) (b : List Placed) → P x → All P (a ++ b) → All P (a ++ x ∷ b)
  squeeze [] x b p f = also p f
  squeeze (y ∷ a) x b p (also q f) = also q (squeeze a x b p f)

  pub all_among : (x : Placed) (l : List Placed) → P x → All P l → All P (among x l)
  unfolding among pick
  all_among x [] p no_one = also p no_one
  all_among x (y ∷ l) p (also q f) = go (before y x) refl (all_among x l p f)
    where
      go : (b : Bool) → before y x ≡ b → All P (among x l) → All P (pick b (y ∷ among x l) (x ∷ y ∷ l))
      go true e g = also q g
      go false e g = also p (also q f)

  pub all-sort : (l : List Placed) → All P l → All P (sort l)
  unfolding sort
  all-sort [] f = no_one
  all-sort (x ∷ l) (also p f) = all_among x (sort l) p (all-sort l f)

pub every : (P Q : Placed → Type 0) (l : List Placed) → ((z : Placed) → P z → Q z) → All P l → All Q l
every P Q [] h no_one = no_one
every P Q (x ∷ l) h (also p f) = also (h x p) (every P Q l h f)

-- a version at an end of a list
unfoldable pub put : End → Placed → List Placed → List Placed
put Front x l = x ∷ l
put Back x l = l ++ (x ∷ [])

pub all-put : (P : Placed → Type 0) (e : End) (x : Placed) (l : List Placed) → All P (put e x l) → P x × All P l
unfolding put
all-put P Front x l (also p f) = (p, f)
all-put P Back x [] (also p f) = (p, f)
all-put P Back x (y ∷ l) (also q f) = let r = all-put P Back x l f in (r.0, also q r.1)

pub put_all : (P : Placed → Type 0) (e : End) (x : Placed) (l : List Placed) → P x → All P l → All P (put e x l)
unfolding put
put_all P Front x l p f = also p f
put_all P Back x l p f = join P l (x ∷ []) f (also p no_one)

-- x comes first at an end
abbrev pub Sooner : End → Placed → Placed → Type 0
Sooner Front x y = Before x y
Sooner Back x y = Before y x

among_first : (x : Placed) (l : List Placed) → All (λ z. Before x z) l → among x l ≡ x ∷ l
unfolding among pick
among_first x [] no_one = refl
among_first x (y ∷ l) (also p f) = rw (before-false y x p)

among-last : (x : Placed) (l : List Placed) → All (λ z. Before z x) l → among x l ≡ l ++ (x ∷ [])
unfolding among pick
among-last x [] no_one = refl
among-last x (y ∷ l) (also p f) = rw (before-true y x p) (ap (λ l'. y ∷ l') (among-last x l f))

among-under : (y x : Placed) (l : List Placed) → Before y x → among y (l ++ (x ∷ [])) ≡ among y l ++ (x ∷ [])
unfolding among pick
among-under y x [] p = rw (before-false x y p)
among-under y x (z ∷ l) p = go (before z y) (among-under y x l p)
  where
    go : (b : Bool) → among y (l ++ (x ∷ [])) ≡ among y l ++ (x ∷ [])
        → pick b (z ∷ among y (l ++ (x ∷ []))) (y ∷ z ∷ l ++ (x ∷ [])) ≡ pick b (z ∷ among y l) (y ∷ z ∷ l) ++ (x ∷ [])
    go true ih = ap (λ l'. z ∷ l') ih
    go false ih = refl

-- what comes first at an end is at that end of the sorted
pub sort-put : (e : End) (a : List Placed) (x : Placed) (b : List Placed) → All (Sooner e x) (a ++ b) → sort (a ++ x ∷ b) ≡ put e x (sort (a ++ b))
unfolding sort put among pick
sort-put Front [] x b f = among_first x (sort b) (all-sort _ b f)
sort-put Front (y ∷ a) x b (also p f) = rw (sort-put Front a x b f, before-true x y p)
sort-put Back [] x b f = among-last x (sort b) (all-sort _ b f)
sort-put Back (y ∷ a) x b (also p f) = rw (sort-put Back a x b f) (among-under y x (sort (a ++ b)) p)

-- each stands so to all that follow it
pub data Chain (R : Placed → Placed → Type 0) : List Placed → Type 0 where
  no-link : Chain R []
  link : {x : Placed} {xs : List Placed} → All (R x) xs → Chain R xs → Chain R (x ∷ xs)
