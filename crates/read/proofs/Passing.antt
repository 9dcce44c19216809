-- A key drained in the plain search, on any bytes: where no other source has the key next, the source that was passed decides whether the entry counts, since all the others' next records have other keys.
use native.Mathlib.Omega.{arith}
use mathlib.Core.Bool.{Bool, true, false, not}
use mathlib.Core.Option.{Option, some-injective, none-ne-some, none, some}
use borrow.Author.Tests.{not-false}
use mathlib.Core.Path.{refl, ap, ◌≡◌, ◌∙◌, subst, sym}
use Prim.Native.Nat.{ℕ, zero, suc, ◌-◌, ◌<◌}
use Rattle.list.specs.Pick.{pick}
use Rattle.list.proofs.Strict.{Three, eq, gt, lt, three}
use Rattle.merge.specs.Placed.{Placed, same_key}
use Rattle.merge.specs.Merge.{Reply, Nothing, Found, Torn, on_reply}
use Rattle.merge.specs.Plain.{front_at, back_at, left, Head, next, sooner, choose, ahead, pass, past, plain}
use Rattle.merge.specs.declared.ends.Ends.{Ends}
use Rattle.merge.specs.Private.{Fitting, twins}
use Rattle.merge.specs.declared.ends.End.{End}
use Rattle.merge.specs.declared.ends.End.TheVariants.{Back, Front}
use Rattle.merge.proofs.Order.{same-key-true, key-same}
use Rattle.merge.proofs.Lead.{Apart, Behind, none-there, behind, Lead, leads, lead, next_of}
use Rattle.merge.proofs.Choosing.{torn-from}
use Rattle.merge.proofs.Shrinks.{next-other, plain-shrinks}
use Rattle.read.specs.Mvcc.{hold, counts, settle, drain}
use Rattle.read.proofs.Draining.{turn-of, drain-turn, drain-counts, drain-goes}

-- nothing, or a record of another key
pub data Else (p : Placed) : Reply Head → Type 0 where
  no_more : Else p Nothing
  other_key : {z : Head} → same_key p z.placed ≡ false → Else p (Found z)

choose-else : (p : Placed) (e : End) (s v : Reply Head) → Else p s → Else p v → Else p (choose e s v)
unfolding choose
choose-else p e Nothing v no_more l = l
choose-else p e (Found x) Nothing (other_key a) no_more = other_key a
choose-else p e (Found x) (Found y) (other_key a) (other_key b) = go (sooner e y.placed x.placed)
  where
    go : (u : Bool) → Else p (pick u (Found y) (Found x))
    go true = unfold pick in other_key b
    go false = unfold pick in other_key a
choose-else p e (Found x) Torn _ l = elim l [ ]
choose-else p e Torn v x3 l = elim x3 [ ]

ahead-else : (p : Placed) (n : ℕ) (e : End) (look : ℕ → ℕ → Option Placed) (c : Ends) → ((j : ℕ) → j < n → Else p (next e look c j)) → Else p (ahead n e look c)
unfolding ahead
ahead-else p zero e look c h = no_more
ahead-else p (suc n) e look c h = choose-else p e _ _ (ahead-else p n e look c (λ j l. h j (omega arith))) (h n (omega arith))

kept-key : (h : Option Placed) (x p : Placed) → h ≡ some p → counts h x ≡ false → p.version.key ≡ x.version.key
unfolding counts
kept-key none x p g r = absurd (none-ne-some p g)
kept-key (some q) x p g r = ap (λ (z : Placed). z.version.key) (sym (some-injective _ _ g)) ∙ same-key-true q x (not-false _ r)

pub held-key : (e : End) (t : Placed → Bool) (h : Option Placed) (x p : Placed) → hold e t h x ≡ some p → counts h x ≡ false → p.version.key ≡ x.version.key
unfolding hold
held-key Front t none x p g r = go (t x) g
  where
    go : (b : Bool) → pick b (some x) none ≡ some p → p.version.key ≡ x.version.key
    go true q = unfold pick in ap (λ (z : Placed). z.version.key) (sym (some-injective _ _ q))
    go false q = unfold pick in absurd (none-ne-some p q)
held-key Front t (some q) x p g r = kept-key (some q) x p g r
held-key Back t h x p g r = go (t x) g
  where
    go : (b : Bool) → pick b (some x) h ≡ some p → p.version.key ≡ x.version.key
    go true q = unfold pick in ap (λ (z : Placed). z.version.key) (sym (some-injective _ _ q))
    go false q = unfold pick in kept-key h x p q r

other-too : (p x z : Placed) → p.version.key ≡ x.version.key → same_key x z ≡ false → same_key p z ≡ false
unfolding same_key
other-too p x z e h = rw e h

-- what is of another key than x is of another key than an entry of x's key
surely : (x : Placed) (h : Option Placed) (s : Reply Head) → ((p : Placed) → h ≡ some p → p.version.key ≡ x.version.key) → Else x s → (p : Placed) → h ≡ some p → Else p s
surely x h Nothing k no_more p i = no_more
surely x h (Found z) k (other_key d) p i = other_key (other-too p x z.placed (k p i) d)
surely x h Torn k l p i = elim l [ ]

-- an entry of x's key goes on with any version of that key
pub still-counts : (h : Option Placed) (x y : Placed) → ((p : Placed) → h ≡ some p → p.version.key ≡ x.version.key) → x.version.key ≡ y.version.key → counts h y ≡ false
unfolding counts
still-counts none x y k e = refl
still-counts (some p) x y k e = ap not (key-same p y (k p refl ∙ e))

-- peeking and popping where a head leads
module _ (n : ℕ) (e : End) (look : ℕ → ℕ → Option Placed) (c : Ends) (x : Head) (q : ahead n e look c ≡ Found x) where
  pub peeks : (plain n look).peek e c ≡ Found x.placed
  unfolding plain on_reply
  peeks = rw q

  pub pops : (plain n look).pop e c ≡ pass e c x.source
  unfolding plain past
  pops = rw q

module _ (n : ℕ) (e : End) (look : ℕ → ℕ → Option Placed) (apart : Apart look) (size : ℕ → ℕ) (t : Placed → Bool) where
  -- an entry counts where nothing of its key is ahead
  settles : (p : Placed) (c : Ends) → Else p (ahead n e look c) → drain (left n c) (plain n look) e t (some p) c ≡ settle (some p) c
  unfolding plain
  settles p c l = drain-turn (plain n look) (Fitting n size) (plain-shrinks n look apart n size (omega arith)) e t (some p) c ∙ (unfold turn-of in go (ahead n e look c) l)
    where
      go : (s : Reply Head) → Else p s
          → on_reply (on_reply s Nothing (λ x. Found x.placed)) (settle (some p) c)
          (λ x. pick (counts (some p) x) (settle (some p) c) (drain (left n c - 1) (plain n look) e t (hold e t (some p) x) (past e (ahead n e look c) c))) ≡ settle (some p) c
      go Nothing no_more = unfold on_reply in refl
      go (Found z) (other_key d) = unfold on_reply counts pick in rw d
      go Torn x' = elim x' [ ]

  -- where a source's next record isn't whole, nothing is found
  pub key-torn : (h : Option Placed) (c : Ends) (k : ℕ) → next e look c k ≡ Torn → k < n → drain (left n c) (plain n look) e t h c ≡ Torn
  unfolding plain
  key-torn h c k q l = drain-turn (plain n look) (Fitting n size) (plain-shrinks n look apart n size (omega arith)) e t h c ∙ (unfold turn-of on_reply in rw (torn-from e look c k q n l).0)

  module _ (h : Option Placed) (c : Ends) (fits : Fitting n size c) (x : Head) (q : ahead n e look c ≡ Found x) where
    -- the next record has another key
    pub key_counts : counts h x.placed ≡ true → drain (left n c) (plain n look) e t h c ≡ settle h c
    key_counts r = (unfold plain in drain-counts (plain n look) (Fitting n size) (plain-shrinks n look apart n size (omega arith)) e t h c x.placed (peeks n e look c x q) r)

    led : (x.source < n) × (front_at c x.source < back_at c x.source) × ((j : ℕ) → j < n → (j ≡ x.source → ⊥) → Behind e x (twins n e look c) (next e look c j))
    led = go (subst (Lead n e look c (twins n e look c)) q (lead n e look apart c))
      where
        go : Lead n e look c (twins n e look c) (Found x) → (x.source < n) × (front_at c x.source < back_at c x.source) × ((j : ℕ) → j < n → (j ≡ x.source → ⊥) → Behind e x (twins n e look c) (next e look c j))
        go (leads l m b) = (l, (next_of e look c x.source x m).some_left, b)

    pub passed-there : (x.source < n) × (front_at c x.source < back_at c x.source)
    passed-there = (led.0, led.1)

    module _ (r : counts h x.placed ≡ false) where
      -- the next record is passed
      pub key-goes : drain (left n c) (plain n look) e t h c ≡ drain (left n (pass e c x.source)) (plain n look) e t (hold e t h x.placed) (pass e c x.source)
      key-goes =
          let z = drain-goes (plain n look) (Fitting n size) (plain-shrinks n look apart n size (omega arith)) e t h c x.placed (peeks n e look c x q) fits r in
          let y : (plain n look).pop e c ≡ pass e c x.source = pops n e look c x q in
          subst (λ d. drain (left n c) (plain n look) e t h c ≡ drain (left n d) (plain n look) e t (hold e t h x.placed) d) y (unfold plain in z)

      others-else : twins n e look c ≡ false → (p : Placed) → hold e t h x.placed ≡ some p → (j : ℕ) → j < n → (j ≡ x.source → ⊥) → Else p (next e look (pass e c x.source) j)
      others-else w p g j l d = rw (next-other e look c x.source j d) (go (next e look c j) (led.2 j l d))
        where
          go : (s : Reply Head) → Behind e x (twins n e look c) s → Else p s
          go Nothing none-there = no_more
          go (Found z) (behind a b) = other_key (other-too p x.placed z.placed (held-key e t h x.placed p g r) (b w))
          go Torn x'' = elim x'' [ ]

      all-else : twins n e look c ≡ false → (p : Placed) → hold e t h x.placed ≡ some p → Else p (next e look (pass e c x.source) x.source)
          → (j : ℕ) → j < n → Else p (next e look (pass e c x.source) j)
      all-else w p g s j l = go (three j x.source)
        where
          go : Three j x.source → Else p (next e look (pass e c x.source) j)
          go (lt d) = others-else w p g j l (λ z. omega arith)
          go (eq d) = rw d s
          go (gt d) = others-else w p g j l (λ z. omega arith)

      -- and where no other source has its key next, the source itself decides
      pub key-ends : twins n e look c ≡ false → Else x.placed (next e look (pass e c x.source) x.source) → (p : Placed) → hold e t h x.placed ≡ some p
          → drain (left n (pass e c x.source)) (plain n look) e t (hold e t h x.placed) (pass e c x.source) ≡ settle (hold e t h x.placed) (pass e c x.source)
      key-ends w d p i =
          ap (λ k. drain (left n (pass e c x.source)) (plain n look) e t k (pass e c x.source)) i
          ∙ settles p (pass e c x.source) (ahead-else p n e look (pass e c x.source) (all-else w p i (surely x.placed _ _ (λ q j. held-key e t h x.placed q j r) d p i)))
          ∙ ap (λ k. settle k (pass e c x.source)) (sym i)
