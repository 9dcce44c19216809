-- What leads at an end: the best of the sources' next records stands before all the others, and without a twin none of them has its key; on any bytes.
use native.Mathlib.Omega.{arith}
use mathlib.Core.Bool.{Bool, true, false}
use mathlib.Core.Option.{Option, Option-elim, none, some}
use lib.Dec.{ltb}
use borrow.Author.Tests.{ltb-true}
use mathlib.Core.Path.{refl, sym, ap, ◌≡◌, ◌∙◌}
use Prim.Native.Nat.{ℕ, zero, suc, ◌<◌}
use Rattle.list.specs.Pick.{pick}
use Rattle.list.proofs.Strict.{Three, eq, gt, lt, three}
use Rattle.list.proofs.Tests.{never}
use Rattle.merge.specs.Placed.{Placed, same_key}
use Rattle.merge.specs.Merge.{Reply, Nothing, Found, Torn}
use Rattle.merge.specs.Plain.{Ends, front_at, back_at, Head, place, next, sooner, choose, ahead}
use Rattle.merge.specs.Private.{twin_of, twins}
use Rattle.merge.specs.declared.ends.End.{End}
use Rattle.merge.specs.declared.ends.End.TheVariants.{Back, Front}
use Rattle.merge.proofs.Order.{told, other_way, same-key-true, key-same, same-flip, sandwich}
use Rattle.merge.proofs.Lists.{Sooner}
use Rattle.merge.proofs.Turn.{sooner-trans}
use Rattle.merge.proofs.Replies.{found-found, nothing-found, torn-found}

-- of another key
abbrev pub Other : Placed → Placed → Type 0
Other x y = x.version.key ≡ y.version.key → ⊥

-- no version of another key stands between two of one key
pub another : (e : End) (p x z : Placed) → Other p x → Sooner e p x → Sooner e x z → Other p z
another Front p x z d f g q = d (sandwich p x z f g q)
another Back p x z d f g q = d (q ∙ sandwich z x p g f (sym q))

-- sources have lists of their own
abbrev pub Apart : (ℕ → ℕ → Option Placed) → Type 0
Apart look = (k l i j : ℕ) (x y : Placed) → look k i ≡ some x → look l j ≡ some y → (k ≡ l → ⊥) → x.list ≡ y.list → ⊥

pub sooner-told : (e : End) (x y : Placed) → sooner e x y ≡ true → Sooner e x y
unfolding sooner
sooner-told Front x y h = told x y h
sooner-told Back x y h = told y x h

pub sooner-other : (e : End) (x y : Placed) → (x.list ≡ y.list → ⊥) → sooner e x y ≡ false → Sooner e y x
unfolding sooner
sooner-other Front x y d h = other_way x y d h
sooner-other Back x y d h = other_way y x (λ q. d (sym q)) h

pub differ : (x y : Placed) → same_key x y ≡ false → Other x y
differ x y h e = never (sym (key-same x y e) ∙ h)

pub differs : (x y : Placed) → Other x y → same_key x y ≡ false
differs x y d = go (same_key x y) refl
  where
    go : (b : Bool) → same_key x y ≡ b → same_key x y ≡ false
    go true e = absurd (d (same-key-true x y e))
    go false e = e

-- another source's next, behind x; of another key where x has no twin
pub data Behind (e : End) (x : Head) (u : Bool) : Reply Head → Type 0 where
  none-there : Behind e x u Nothing
  behind : {y : Head} → Sooner e x.placed y.placed → (u ≡ false → same_key x.placed y.placed ≡ false) → Behind e x u (Found y)

pub data Lead (n : ℕ) (e : End) (look : ℕ → ℕ → Option Placed) (c : Ends) (u : Bool) : Reply Head → Type 0 where
  no_lead : ((j : ℕ) → j < n → next e look c j ≡ Nothing) → Lead n e look c u Nothing
  spoilt : Lead n e look c u Torn
  leads : {x : Head} → x.source < n → next e look c x.source ≡ Found x → ((j : ℕ) → j < n → (j ≡ x.source → ⊥) → Behind e x u (next e look c j)) → Lead n e look c u (Found x)

-- what a source's next record says
pub record Of (e : End) (look : ℕ → ℕ → Option Placed) (c : Ends) (k : ℕ) (x : Head) : Type 0 where
  pub of-source : x.source ≡ k
  pub some_left : front_at c k < back_at c k
  pub read_as : look k (place e c k) ≡ some x.placed

module _ (e : End) (look : ℕ → ℕ → Option Placed) (c : Ends) (k : ℕ) (x : Head) where
  of-next : (b : Bool) → ltb (front_at c k) (back_at c k) ≡ b → (l : Option Placed) → look k (place e c k) ≡ l
      → pick b (Option-elim l Torn (λ y. Found (record { source = k; placed = y }))) Nothing ≡ Found x → Of e look c k x
  unfolding pick Option-elim
  of-next true h (some v) r q = record { of-source = ap (λ (z : Head). z.source) (sym (found-found q)); some_left = ltb-true _ _ h; read_as = r ∙ ap (λ (z : Head). some z.placed) (found-found q) }
  of-next true h none r q = torn-found q
  of-next false h l r q = nothing-found q

  pub next_of : next e look c k ≡ Found x → Of e look c k x
  unfolding next
  next_of q = of-next _ refl _ refl q

module _ (e : End) (look : ℕ → ℕ → Option Placed) (apart : Apart look) (c : Ends) (n : ℕ) (u : Bool) where
  -- one source more, which has nothing left
  lead-blank : (s : Reply Head) → Lead n e look c u s → next e look c n ≡ Nothing → Lead (suc n) e look c (twin_of e u s Nothing) (choose e s Nothing)
  unfolding choose twin_of
  lead-blank Nothing (no_lead h) q = no_lead (λ j l. go j (three j n) l)
    where
      go : (j : ℕ) → Three j n → j < suc n → next e look c j ≡ Nothing
      go j (lt m) l = h j m
      go j (eq m) l = rw m q
      go j (gt m) l = absurd (omega arith)
  lead-blank Torn spoilt q = spoilt
  lead-blank (Found x) (leads l m h) q = leads {x = x} (omega arith) m (λ j i d. go j (three j n) i d)
    where
      go : (j : ℕ) → Three j n → j < suc n → (j ≡ x.source → ⊥) → Behind e x u (next e look c j)
      go j (lt w) i d = h j w d
      go j (eq w) i d = rw (w, q) none-there
      go j (gt w) i d = absurd (omega arith)

  lead-blocked : (s : Reply Head) → Lead n e look c u s → Lead (suc n) e look c (twin_of e u s Torn) (choose e s Torn)
  unfolding choose
  lead-blocked Nothing l = spoilt
  lead-blocked Torn l = spoilt
  lead-blocked (Found x) l = spoilt

  module _ (y : Head) (q : next e look c n ≡ Found y) where
    here : y.source ≡ n
    here = (next_of e look c n y q).of-source

    alone : ((j : ℕ) → j < n → next e look c j ≡ Nothing) → Lead (suc n) e look c false (Found y)
    alone h = leads {x = y} (omega (arith, here)) (ap (next e look c) here ∙ q) (λ j i d. rw (h j (go j (three j n) i d)) none-there)
      where
        go : (j : ℕ) → Three j n → j < suc n → (j ≡ y.source → ⊥) → j < n
        go j (lt w) i d = w
        go j (eq w) i d = absurd (d (w ∙ sym here))
        go j (gt w) i d = absurd (omega arith)

    module _ (x : Head) (l : x.source < n) (m : next e look c x.source ≡ Found x) (h : (j : ℕ) → j < n → (j ≡ x.source → ⊥) → Behind e x u (next e look c j)) where
      unlike : y.placed.list ≡ x.placed.list → ⊥
      unlike z =
          let o = next_of e look c n y q in
          let w = next_of e look c x.source x m in
          apart n x.source (place e c n) (place e c x.source) y.placed x.placed o.read_as w.read_as (λ k. omega arith) z

      takes-over : Sooner e y.placed x.placed → Lead (suc n) e look c (same_key x.placed y.placed) (Found y)
      takes-over s = leads {x = y} (omega (arith, here)) (ap (next e look c) here ∙ q) (λ j i d. go j (three j n) (three j x.source) i d)
        where
          after : (v : Reply Head) → Behind e x u v → Behind e y (same_key x.placed y.placed) v
          after Nothing none-there = none-there
          after (Found z) (behind a b) = behind (sooner-trans e y.placed x.placed z.placed s a) (λ f. differs y.placed z.placed (another e y.placed x.placed z.placed (differ y.placed x.placed (same-flip y.placed x.placed ∙ f)) s a))
          after Torn x'' = elim x'' [ ]

          go : (j : ℕ) → Three j n → Three j x.source → j < suc n → (j ≡ y.source → ⊥) → Behind e y (same_key x.placed y.placed) (next e look c j)
          go j (lt w) (lt r) i d = after _ (h j w (λ z. omega arith))
          go j (lt w) (gt r) i d = after _ (h j w (λ z. omega arith))
          go j (lt w) (eq r) i d = rw (r, m) (behind s (λ f. same-flip y.placed x.placed ∙ f))
          go j (eq w) r i d = absurd (d (w ∙ sym here))
          go j (gt w) r i d = absurd (omega arith)

      stays : Sooner e x.placed y.placed → Lead (suc n) e look c (pick (same_key x.placed y.placed) true u) (Found x)
      stays s = leads {x = x} (omega arith) m (λ j i d. go j (three j n) i d)
        where
          twin : (b : Bool) → pick b true u ≡ false → (b ≡ false) × (u ≡ false)
          twin true f = never (unfold pick in f)
          twin false f = (refl, (unfold pick in f))

          keep-on : (v : Reply Head) → Behind e x u v → Behind e x (pick (same_key x.placed y.placed) true u) v
          keep-on Nothing none-there = none-there
          keep-on (Found z) (behind a b) = behind a (λ f. b (twin (same_key x.placed y.placed) f).1)
          keep-on Torn x'' = elim x'' [ ]

          go : (j : ℕ) → Three j n → j < suc n → (j ≡ x.source → ⊥) → Behind e x (pick (same_key x.placed y.placed) true u) (next e look c j)
          go j (lt w) i d = keep-on _ (h j w d)
          go j (eq w) i d = rw (w, q) (behind s (λ f. (twin (same_key x.placed y.placed) f).0))
          go j (gt w) i d = absurd (omega arith)

      of_two : (b : Bool) → sooner e y.placed x.placed ≡ b → Lead (suc n) e look c (pick b (same_key x.placed y.placed) (pick (same_key x.placed y.placed) true u)) (pick b (Found y) (Found x))
      of_two true f = unfold pick in takes-over (sooner-told e y.placed x.placed f)
      of_two false f = unfold pick in stays (sooner-other e y.placed x.placed unlike f)

    lead-next : (s : Reply Head) → Lead n e look c u s → Lead (suc n) e look c (twin_of e u s (Found y)) (choose e s (Found y))
    unfolding choose twin_of
    lead-next Nothing (no_lead h) = alone h
    lead-next Torn spoilt = spoilt
    lead-next (Found x) (leads l m h) = of_two x l m h (sooner e y.placed x.placed) refl

pub lead : (n : ℕ) (e : End) (look : ℕ → ℕ → Option Placed) → Apart look → (c : Ends) → Lead n e look c (twins n e look c) (ahead n e look c)
unfolding ahead twins
lead zero e look apart c = no_lead (λ j l. absurd (omega arith))
lead (suc n) e look apart c = go (next e look c n) refl (lead n e look apart c)
  where
    go : (v : Reply Head) → next e look c n ≡ v → Lead n e look c (twins n e look c) (ahead n e look c)
        → Lead (suc n) e look c (twin_of e (twins n e look c) (ahead n e look c) v) (choose e (ahead n e look c) v)
    go Nothing q i = lead-blank e look apart c n _ _ i q
    go Torn q i = lead-blocked e look apart c n _ _ i
    go (Found y) q i = lead-next e look apart c n _ y q _ i
