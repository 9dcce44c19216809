-- What the demand asks of a read's entries leaves one list of them, because two lists that ascend and have the same members are one.
use Rattle.std.proofs.lemmas.Bool.{and_parts}
use Prim.Native.Nat.{ℕ}
use mathlib.Core.Path.{◌≡◌, refl, sym, ap, ap₂, ◌∙◌}
use mathlib.Core.List.Memᴰ
use mathlib.Core.List.{List, [], ◌∷◌}
use mathlib.Core.Bool.{true, false}
use mathlib.Core.Logic.{◌⊎◌, inl, inr}
use Rattle.list.specs.Order.{compare}
use Rattle.list.specs.Version.{Version}
use Rattle.std.specs.declared.cmp.Ordering.TheVariants.{Less}
use Rattle.list.proofs.Order.{less-is}
use Rattle.list.proofs.Strict.{compare-trans, not-below-itself}
use Rattle.list.proofs.Tests.{never}
use Rattle.merge.specs.Placed.{Placed}
use Rattle.merge.specs.Merged.{everything}
use Rattle.merge.proofs.Lists.{All, no_one, also, every, no-link, link}
use Rattle.read.specs.Bounds.{Bound, within}
use Rattle.read.specs.Demand.{Yields, ascending}
use Rattle.read.proofs.Firsts.{In, Climbs, of-all}

-- each key is below all later ones
climb : (x y : Placed) (l : List Placed) → compare x.version.key y.version.key ≡ Less → Climbs (y ∷ l) → Climbs (x ∷ y ∷ l)
climb x y l p (link a c) = link (also p (every _ _ _ (λ z q. compare-trans _ _ _ p q) a)) (link a c)

climbs : (l : List Placed) → ascending l ≡ true → Climbs l
unfolding ascending
climbs [] e = no-link
climbs (x ∷ []) e = link no_one no-link
climbs (x ∷ y ∷ l) e = let b = and_parts _ _ e in climb x y l (less-is _ b.0) (climbs (y ∷ l) b.1)

abbrev Below : Placed → List Placed → Type 0
Below x l = All (λ z. compare x.version.key z.version.key ≡ Less) l

same_first : (x y : Placed) (a b : List Placed) → Below x a → Below y b → (x ≡ y) ⊎ In x b → (y ≡ x) ⊎ In y a → x ≡ y
same_first x y a b p q (inl e) n = e
same_first x y a b p q (inr m) (inl e) = sym e
same_first x y a b p q (inr m) (inr n) = not-below-itself _ _ refl (compare-trans x.version.key y.version.key x.version.key (of-all _ y a p n) (of-all _ x b q m))

later : (x y z : Placed) (a b : List Placed) → x ≡ y → Below x a → In z a → (z ≡ y) ⊎ In z b → In z b
later x y z a b e p m (inl f) = not-below-itself _ _ (ap (λ (v : Placed). v.version.key) (e ∙ sym f)) (of-all _ z a p m)
later x y z a b e p m (inr n) = n

one_list : (a b : List Placed) → Climbs a → Climbs b → ((z : Placed) → In z a → In z b) → ((z : Placed) → In z b → In z a) → a ≡ b
one_list [] [] c d f g = refl
one_list [] (y ∷ b) c d f g = absurd (Memᴰ.not-nil (g y (Memᴰ.head refl)))
one_list (x ∷ a) [] c d f g = absurd (Memᴰ.not-nil (f x (Memᴰ.head refl)))
one_list (x ∷ a) (y ∷ b) (link p c) (link q d) f g =
    let e = same_first x y a b p q (Memᴰ.cases_cons (f x (Memᴰ.head refl))) (Memᴰ.cases_cons (g y (Memᴰ.head refl))) in
    ap₂ ◌∷◌ e
    (one_list a b c d
    (λ z m. later x y z a b e p m (Memᴰ.cases_cons (f z (Memᴰ.tail m))))
    (λ z m. later y x z b a (sym e) q m (Memᴰ.cases_cons (g z (Memᴰ.tail m)))))

pub yields-one : (lists : List (List Version)) (lo hi : Bound) (snapshot : ℕ) (es fs : List Placed) → Yields lists lo hi snapshot es → Yields lists lo hi snapshot fs → es ≡ fs
yields-one lists lo hi snapshot es fs y w =
    one_list es fs (climbs es y.once) (climbs fs w.once) (λ z m. w.all z (y.answers z m)) (λ z m. y.all z (w.answers z m))

-- an interval that holds no key of the lists yields nothing
pub nothing-yields : (lists : List (List Version)) (lo hi : Bound) (snapshot : ℕ) (es : List Placed) → Yields lists lo hi snapshot es
    → ((z : Placed) → In z (everything lists) → within lo hi z ≡ false) → es ≡ []
nothing-yields lists lo hi snapshot [] y h = refl
nothing-yields lists lo hi snapshot (e ∷ es) y h = let a = y.answers e (Memᴰ.head refl) in never (sym a.inside ∙ h e a.newest.listed)
