-- Any mix of steps takes from the two ends of what is left, because each step takes from one of them.
use mathlib.Core.Path.{◌≡◌, refl, sym, ap, ap₂, ◌∙◌}
use mathlib.Core.List.{List, [], ◌∷◌}
use mathlib.Core.Bool.{Bool}
use Rattle.merge.specs.Placed.{Placed}
use Rattle.merge.specs.Merge.{Reply, Nothing, Found, Torn, Merge}
use Rattle.merge.specs.declared.ends.End.{End}
use Rattle.merge.specs.declared.ends.End.TheVariants.{Back, Front}
use Rattle.merge.proofs.Lists.{put}
use Rattle.merge.proofs.Gives.{Gives}
use Rattle.read.specs.Entries.{answers}
use Rattle.read.specs.Mvcc.{Entry, step}
use Rattle.read.specs.TwoEnds.{taken, others, taking}
use Rattle.read.proofs.Takes.{Takes, no_more, takes, step-takes}

pub taken-put : (e : End) (x : Placed) (l : List Placed) → taken e (put e x l) ≡ Found x
unfolding taken put
taken-put Front x l = refl
taken-put Back x [] = refl
taken-put Back x (y ∷ []) = refl
taken-put Back x (y ∷ z ∷ l) = taken-put Back x (z ∷ l)

pub others_put : (e : End) (x : Placed) (l : List Placed) → others e (put e x l) ≡ l
unfolding others put
others_put Front x l = refl
others_put Back x [] = refl
others_put Back x (y ∷ []) = refl
others_put Back x (y ∷ z ∷ l) = ap (λ l'. y ∷ l') (others_put Back x (z ∷ l))

-- what a caller hears of a step, and what is left behind it
unfoldable pub heard : {S : Type 0} → Reply (Entry S) → Reply Placed
heard Nothing = Nothing
heard (Found x) = Found x.version
heard Torn = Torn

unfoldable pub after : {S : Type 0} → Reply (Entry S) → S → S
after Nothing s = s
after (Found x) s = x.rest
after Torn s = s

unfoldable pub stepping : {S : Type 0} → List End → Merge S → (Placed → Bool) → S → List (Reply Placed)
stepping [] m t s = []
stepping (e ∷ es) m t s = heard (step m e t s) ∷ stepping es m t (after (step m e t s) s)

module _ {S : Type 0} (m : Merge S) (Good : S → Type 0) (rest : S → List Placed) (gives : Gives m Good rest) (t : Placed → Bool) where
  -- a step hears what stands at its end, and leaves the others
  pub one-step : (e : End) (s : S) → Good s
      → (heard (step m e t s) ≡ taken e (answers t (rest s))) × (answers t (rest (after (step m e t s) s)) ≡ others e (answers t (rest s))) × Good (after (step m e t s) s)
  unfolding heard after taken others
  one-step e s f = go (step m e t s) (step-takes m Good rest gives t e s f)
    where
      go : (r : Reply (Entry S)) → Takes m Good rest gives t e s r
          → (heard r ≡ taken e (answers t (rest s))) × (answers t (rest (after r s)) ≡ others e (answers t (rest s))) × Good (after r s)
      go Nothing (no_more z) = (sym (ap (taken e) z), z ∙ sym (ap (others e) z), f)
      go (Found x) (takes z g) = (sym (ap (taken e) z ∙ taken-put e x.version _), sym (ap (others e) z ∙ others_put e x.version _), g)
      go Torn x' = elim x' [ ]

  -- any mix of steps
  pub any-mix : (es : List End) (s : S) → Good s → stepping es m t s ≡ taking es (answers t (rest s))
  unfolding stepping taking
  any-mix [] s f = refl
  any-mix (e ∷ es) s f =
      let r = one-step e s f in
      ap₂ ◌∷◌ r.0 (any-mix es (after (step m e t s) s) r.2 ∙ ap (taking es) r.1)
