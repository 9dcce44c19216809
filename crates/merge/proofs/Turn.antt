-- One record passed: the least of the lists' next is the least of all that is left, and so at the back.
use Prim.Native.Nat.{ℕ, zero, suc, ◌+◌, ◌-◌, ◌≤◌, ◌<◌}
use mathlib.Core.Path.{◌≡◌, refl, sym, ap, ap₂, ◌∙◌}
use mathlib.Core.List.{List, [], ◌∷◌, ◌++◌, append_assoc, append-nil}
use mathlib.Core.Bool.{Bool, true, false}
use native.Mathlib.Omega.{arith}
use native.Mathlib.Numerals.{add-one}
use borrow.Author.Tests.{lt-ltb, le-ltb}
use lib.ListN.{length, get_or, length-set}
use lib.Seq.{get_or-set_same, get_or-set_other}
use Rattle.list.specs.Pick.{pick}
use mathlib.Core.Option.{Option, Option-elim, some}
use Rattle.list.proofs.Strict.{Three, eq, gt, lt, three}
use Rattle.merge.specs.Merged.{gather}
use Rattle.merge.specs.Placed.{Placed, before}
use Rattle.merge.specs.Merge.{Reply, Nothing, Found, Torn}
use Rattle.merge.specs.Plain.{Ends, front_at, back_at, Head, place, next, sooner, choose, ahead, pass}
use Rattle.merge.specs.Private.{Fitting}
use Rattle.merge.specs.declared.ends.End.{End}
use Rattle.merge.specs.declared.ends.End.TheVariants.{Back, Front}
use Rattle.merge.proofs.Order.{Before, before-trans, told, other_way}
use Rattle.merge.proofs.Lists.{All, no_one, also, join, squeeze, every, Sooner}

-- m versions of source k, from i on
unfoldable pub run : (ℕ → ℕ → Placed) → ℕ → ℕ → ℕ → List Placed
run ver k i zero = []
run ver k i (suc m) = ver k i ∷ run ver k (suc i) m

pub run-snoc : (ver : ℕ → ℕ → Placed) (k i m : ℕ) → run ver k i (suc m) ≡ run ver k i m ++ (ver k (i + m) ∷ [])
unfolding run
run-snoc ver k i zero = ap (λ j. ver k j ∷ []) (omega arith)
run-snoc ver k i (suc m) = ap (λ l. ver k i ∷ l) (run-snoc ver k (suc i) m ∙ ap (λ j. run ver k (suc i) m ++ (ver k j ∷ [])) (omega arith))

pub all-run : (P : Placed → Type 0) (ver : ℕ → ℕ → Placed) (k i m : ℕ) → ((j : ℕ) → i ≤ j → j < i + m → P (ver k j)) → All P (run ver k i m)
unfolding run
all-run P ver k i zero h = no_one
all-run P ver k i (suc m) h = also (h i (omega arith) (omega arith)) (all-run P ver k (suc i) m (λ j a b. h j (omega arith) (omega arith)))

-- the versions of source k between the ends
unfoldable pub window : (ℕ → ℕ → Placed) → Ends → ℕ → List Placed
window ver c k = run ver k (front_at c k) (back_at c k - front_at c k)

-- n sources as a reader finds them: every record whole, each source in strict order, no list in two sources
pub record Opened (n : ℕ) (look : ℕ → ℕ → Option Placed) (ver : ℕ → ℕ → Placed) (size : ℕ → ℕ) : Type 0 where
  pub reads : (k i : ℕ) → k < n → i < size k → look k i ≡ some (ver k i)
  pub rises : (k i j : ℕ) → k < n → i < j → j < size k → Before (ver k i) (ver k j)
  pub apart : (k l i j : ℕ) → k < n → l < n → i < size k → j < size l → (k ≡ l → ⊥) → (ver k i).list ≡ (ver l j).list → ⊥

-- passing in one source
module _ (c : Ends) (k : ℕ) where
  pub front_same : k < length c.front → front_at (pass Front c k) k ≡ suc (front_at c k)
  unfolding front_at pass
  front_same h = get_or-set_same c.front k (get_or c.front k 0 + 1) 0 h ∙ add-one _

  pub front-other : (j : ℕ) → (j ≡ k → ⊥) → front_at (pass Front c k) j ≡ front_at c j
  unfolding front_at pass
  front-other j d = get_or-set_other c.front k j (get_or c.front k 0 + 1) 0 d

  pub front_kept : (j : ℕ) → front_at (pass Back c k) j ≡ front_at c j
  unfolding front_at pass
  front_kept j = refl

  pub back-same : k < length c.back → back_at (pass Back c k) k ≡ back_at c k - 1
  unfolding back_at pass
  back-same h = get_or-set_same c.back k (get_or c.back k 0 - 1) 0 h

  pub back-other : (j : ℕ) → (j ≡ k → ⊥) → back_at (pass Back c k) j ≡ back_at c j
  unfolding back_at pass
  back-other j d = get_or-set_other c.back k j (get_or c.back k 0 - 1) 0 d

  pub back-kept : (j : ℕ) → back_at (pass Front c k) j ≡ back_at c j
  unfolding back_at pass
  back-kept j = refl

window-other : (ver : ℕ → ℕ → Placed) (e : End) (c : Ends) (k j : ℕ) → (j ≡ k → ⊥) → window ver (pass e c k) j ≡ window ver c j
unfolding window
window-other ver Front c k j d = rw (front-other c k j d, back-kept c k j)
window-other ver Back c k j d = rw (front_kept c k j, back-other c k j d)

pub gather-same : (n : ℕ) (f g : ℕ → List Placed) → ((k : ℕ) → k < n → f k ≡ g k) → gather n f ≡ gather n g
unfolding gather
gather-same zero f g h = refl
gather-same (suc n) f g h = ap₂ ◌++◌ (gather-same n f g (λ k l. h k (omega arith))) (h n (omega arith))

gather-passed : (ver : ℕ → ℕ → Placed) (e : End) (c : Ends) (n k : ℕ) → n ≤ k → gather n (window ver (pass e c k)) ≡ gather n (window ver c)
gather-passed ver e c n k h = gather-same n _ _ (λ j l. window-other ver e c k j (λ q. omega arith))

pub sooner-trans : (e : End) (x y z : Placed) → Sooner e x y → Sooner e y z → Sooner e x z
sooner-trans Front x y z p q = before-trans x y z p q
sooner-trans Back x y z p q = before-trans z y x q p

-- which of two is chosen
data Chosen (e : End) (x y : Head) : Reply Head → Type 0 where
  second : Sooner e y.placed x.placed → Chosen e x y (Found y)
  first : Sooner e x.placed y.placed → Chosen e x y (Found x)

chosen : (e : End) (x y : Head) → (x.placed.list ≡ y.placed.list → ⊥) → Chosen e x y (choose e (Found x) (Found y))
unfolding choose sooner pick
chosen Front x y d = go (before y.placed x.placed) refl
  where
    go : (b : Bool) → before y.placed x.placed ≡ b → Chosen Front x y (pick b (Found y) (Found x))
    go true h = second (told y.placed x.placed h)
    go false h = first (other_way y.placed x.placed (λ q. d (sym q)) h)
chosen Back x y d = go (before x.placed y.placed) refl
  where
    go : (b : Bool) → before x.placed y.placed ≡ b → Chosen Back x y (pick b (Found y) (Found x))
    go true h = second (told x.placed y.placed h)
    go false h = first (other_way x.placed y.placed d h)

-- the next record of one source, which has some left
record Split (e : End) (ver : ℕ → ℕ → Placed) (c : Ends) (k : ℕ) (y : Placed) : Type 0 where
  a : List Placed
  b : List Placed
  there : window ver c k ≡ a ++ y ∷ b
  gone : window ver (pass e c k) k ≡ a ++ b
  first_of : All (Sooner e y) (a ++ b)

module _ (n : ℕ) (look : ℕ → ℕ → Option Placed) (ver : ℕ → ℕ → Placed) (size : ℕ → ℕ) (opened : Opened n look ver size) (c : Ends) (fits : Fitting n size c) where
  split : (e : End) (k : ℕ) → k < n → front_at c k < back_at c k → Split e ver c k (ver k (place e c k))
  unfolding window run place
  split Front k l h =
      let m : ℕ = back_at c k - suc (front_at c k) in
      let q : back_at c k - front_at c k ≡ suc m = omega arith in
      let i : back_at c k ≤ size k = fits.inside k l in
      let t : n ≤ length c.front = fits.front-room in
      record {
        a = [];
        b = run ver k (suc (front_at c k)) m;
        there = ap (run ver k (front_at c k)) q;
        gone = rw (front_same c k (omega arith), back-kept c k k);
        first_of = all-run _ ver k (suc (front_at c k)) m (λ j u v. opened.rises k (front_at c k) j l (omega arith) (omega arith));
      }
  split Back k l h =
      let m : ℕ = back_at c k - suc (front_at c k) in
      let q : back_at c k - front_at c k ≡ suc m = omega arith in
      let r : front_at c k + m ≡ back_at c k - 1 = omega arith in
      let i : back_at c k ≤ size k = fits.inside k l in
      let t : n ≤ length c.back = fits.back-room in
      let w : back_at c k - 1 - front_at c k ≡ m = omega arith in
      record {
        a = run ver k (front_at c k) m;
        b = [];
        there = ap (run ver k (front_at c k)) q ∙ run-snoc ver k (front_at c k) m ∙ ap (λ j. run ver k (front_at c k) m ++ (ver k j ∷ [])) r;
        gone = rw (front_kept c k k, back-same c k (omega arith)) (ap (run ver k (front_at c k)) w ∙ sym (append-nil _));
        first_of = rw append-nil (all-run _ ver k (front_at c k) m (λ j u v. opened.rises k j (back_at c k - 1) l (omega arith) (omega arith)));
      }

-- what stands ahead in n sources
pub data Turn (e : End) (ver : ℕ → ℕ → Placed) (c : Ends) (n : ℕ) : Reply Head → Type 0 where
  over : gather n (window ver c) ≡ [] → Turn e ver c n Nothing
  met : {x : Head} (a b : List Placed) → gather n (window ver c) ≡ a ++ x.placed ∷ b → gather n (window ver (pass e c x.source)) ≡ a ++ b
      → All (Sooner e x.placed) (a ++ b) → x.source < n → front_at c x.source < back_at c x.source → x.placed ≡ ver x.source (place e c x.source) → Turn e ver c n (Found x)

module _ (e : End) (ver : ℕ → ℕ → Placed) (c : Ends) (n : ℕ) where
  none-there : window ver c n ≡ [] → (s : Reply Head) → Turn e ver c n s → Turn e ver c (suc n) (choose e s Nothing)
  unfolding choose gather
  none-there w Nothing (over h) = over (rw (h, w))
  none-there w (Found x) (met a b p q f l g v) =
      met {x = x} a b (rw (p, w) (append-nil _)) (rw (q, window-other ver e c x.source n (λ d. omega arith), w) (append-nil _)) f (omega arith) g v
  none-there w Torn x' = elim x' [ ]

  -- source n has this next
  abbrev here : Head
  here = record { source = n; placed = ver n (place e c n) }

  module _ (g : front_at c n < back_at c n) (s : Split e ver c n (ver n (place e c n))) where
    only_one : gather n (window ver c) ≡ [] → Turn e ver c (suc n) (Found here)
    unfolding gather
    only_one h = met {x = here} s.a s.b (rw (h, s.there)) (rw (gather-passed ver e c n n (omega arith), h, s.gone)) s.first_of (omega arith) g refl

    one_of_two : (x : Head) (a b : List Placed) → gather n (window ver c) ≡ a ++ x.placed ∷ b → gather n (window ver (pass e c x.source)) ≡ a ++ b
        → All (Sooner e x.placed) (a ++ b) → x.source < n → front_at c x.source < back_at c x.source → x.placed ≡ ver x.source (place e c x.source)
        → (t : Reply Head) → Chosen e x here t → Turn e ver c (suc n) t
    unfolding gather
    one_of_two x a b p q f l h v (Found z) (first r) =
        let w : All (Sooner e x.placed) (window ver c n) = rw s.there (squeeze _ s.a _ s.b r (every _ _ _ (λ u v. sooner-trans e x.placed here.placed u r v) s.first_of)) in
        met {x = x} a (b ++ window ver c n) (rw p (append_assoc a (x.placed ∷ b) _))
        (rw (q, window-other ver e c x.source n (λ d. omega arith)) (append_assoc a b _))
        (rw (← append_assoc a b (window ver c n)) (join _ (a ++ b) _ f w)) (omega arith) h v
    one_of_two x a b p q f l h v (Found z) (second r) =
        let u : All (Sooner e here.placed) (a ++ x.placed ∷ b) = squeeze _ a x.placed b r (every _ _ _ (λ u v. sooner-trans e here.placed x.placed u r v) f) in
        met {x = here} ((a ++ x.placed ∷ b) ++ s.a) s.b (rw (p, s.there) (sym (append_assoc (a ++ x.placed ∷ b) s.a _)))
        (rw (gather-passed ver e c n n (omega arith), p, s.gone) (sym (append_assoc (a ++ x.placed ∷ b) s.a _)))
        (rw (append_assoc (a ++ x.placed ∷ b) s.a s.b) (join _ (a ++ x.placed ∷ b) _ u s.first_of)) (omega arith) g refl
    one_of_two x a b p q f l h v Nothing x'' = elim x'' [ ]
    one_of_two x a b p q f l h v Torn x3 = elim x3 [ ]

    some-there : ((k : ℕ) → k < n → front_at c k < back_at c k → (ver k (place e c k)).list ≡ (ver n (place e c n)).list → ⊥)
        → (t : Reply Head) → Turn e ver c n t → Turn e ver c (suc n) (choose e t (Found here))
    unfolding choose
    some-there apart Nothing (over h) = only_one h
    some-there apart (Found x) (met a b p q f l h v) =
        one_of_two x a b p q f l h v _ (chosen e x here (λ d. apart x.source l h (ap (λ (z : Placed). z.list) (sym v) ∙ d)))
    some-there apart Torn x' = elim x' [ ]

module _ (n : ℕ) (look : ℕ → ℕ → Option Placed) (ver : ℕ → ℕ → Placed) (size : ℕ → ℕ) (opened : Opened n look ver size) (c : Ends) (fits : Fitting n size c) where
  left_over : (e : End) (k : ℕ) → k < n → front_at c k < back_at c k → place e c k < size k
  unfolding place
  left_over Front k l h = omega (arith, fits.inside k l)
  left_over Back k l h = omega (arith, fits.inside k l)

  turn-to : (e : End) (m : ℕ) → m ≤ n → Turn e ver c m (ahead m e look c)
  unfolding ahead gather next pick window run Option-elim
  turn-to e zero h = over refl
  turn-to e (suc m) h = go (three (front_at c m) (back_at c m)) (turn-to e m (omega arith))
    where
      go : Three (front_at c m) (back_at c m) → Turn e ver c m (ahead m e look c) → Turn e ver c (suc m) (choose e (ahead m e look c) (next e look c m))
      go (lt g) t = rw (lt-ltb _ _ g, opened.reads m (place e c m) (omega arith) (left_over e m (omega arith) g))
          (some-there e ver c m g (split n look ver size opened c fits e m (omega arith) g)
          (λ k l i. opened.apart k m (place e c k) (place e c m) (omega arith) (omega arith) (left_over e k (omega arith) i) (left_over e m (omega arith) g) (λ q. omega arith)) _ t)
      go (eq g) t =
          let z : back_at c m ≤ front_at c m = omega arith in
          let w : back_at c m - front_at c m ≡ 0 = omega arith in
          rw (le-ltb _ _ z) (none-there e ver c m (ap (run ver m (front_at c m)) w) _ t)
      go (gt g) t = absurd (omega (arith, fits.uncrossed m (omega arith)))

  pub turn : (e : End) → Turn e ver c n (ahead n e look c)
  turn e = turn-to e n (omega arith)

-- ends that have passed still fit
module _ (n : ℕ) (size : ℕ → ℕ) (c : Ends) (f : Fitting n size c) (k : ℕ) (l : k < n) (h : front_at c k < back_at c k) where
  front_at_lem : (e : End) (j : ℕ) → j < n → front_at (pass e c k) j ≤ back_at (pass e c k) j
  front_at_lem Front j m = go (three j k)
    where
      at-k : front_at (pass Front c k) k ≤ back_at (pass Front c k) k
      at-k = rw (front_same c k (omega (arith, f.front-room)), back-kept c k k) h

      go : Three j k → front_at (pass Front c k) j ≤ back_at (pass Front c k) j
      go (lt q) = rw (front-other c k j (λ r. omega arith), back-kept c k j) (f.uncrossed j m)
      go (gt q) = rw (front-other c k j (λ r. omega arith), back-kept c k j) (f.uncrossed j m)
      go (eq q) = rw q at-k
  front_at_lem Back j m = go (three j k)
    where
      at-k : front_at (pass Back c k) k ≤ back_at (pass Back c k) k
      at-k = rw (front_kept c k k, back-same c k (omega (arith, f.back-room))) (omega arith)

      go : Three j k → front_at (pass Back c k) j ≤ back_at (pass Back c k) j
      go (lt q) = rw (front_kept c k j, back-other c k j (λ r. omega arith)) (f.uncrossed j m)
      go (gt q) = rw (front_kept c k j, back-other c k j (λ r. omega arith)) (f.uncrossed j m)
      go (eq q) = rw q at-k

  back_at_lem : (e : End) (j : ℕ) → j < n → back_at (pass e c k) j ≤ size j
  back_at_lem Front j m = rw (back-kept c k j) (f.inside j m)
  back_at_lem Back j m = go (three j k)
    where
      at-k : back_at (pass Back c k) k ≤ size k
      at-k = rw (back-same c k (omega (arith, f.back-room))) (omega (arith, f.inside k l))

      go : Three j k → back_at (pass Back c k) j ≤ size j
      go (lt q) = rw (back-other c k j (λ r. omega arith)) (f.inside j m)
      go (gt q) = rw (back-other c k j (λ r. omega arith)) (f.inside j m)
      go (eq q) = rw q at-k

  pub still-fits : (e : End) → Fitting n size (pass e c k)
  unfolding pass
  still-fits Front = record { front-room = rw length-set f.front-room; back-room = f.back-room; uncrossed = front_at_lem Front; inside = back_at_lem Front }
  still-fits Back = record { front-room = f.front-room; back-room = rw length-set f.back-room; uncrossed = front_at_lem Back; inside = back_at_lem Back }
