-- A key drained and a step take from one end of what is left, over any merge that stands for versions in order: the version held counts as still standing there, and no other key's version stands between two of its key.
use Prim.Native.Nat.{ℕ, zero, suc, ◌+◌, ◌≤◌}
use mathlib.Core.Path.{◌≡◌, refl, sym, ap, ◌∙◌}
use mathlib.Core.List.{List, [], ◌∷◌, ◌++◌}
use mathlib.Core.Bool.{Bool, true, false, not}
use mathlib.Core.Option.{Option, none, some}
use native.Mathlib.Omega.{arith}
use borrow.Author.Tests.{not-false}
use lib.ListN.{length, length-append}
use Rattle.list.specs.Pick.{pick}
use Rattle.list.proofs.Tests.{never}
use Rattle.merge.specs.Placed.{Placed}
use Rattle.merge.specs.Merge.{Reply, Nothing, Found, on_reply, Merge, Torn}
use Rattle.merge.specs.declared.ends.End.{End}
use Rattle.merge.specs.declared.ends.End.TheVariants.{Back, Front}
use Rattle.merge.proofs.Order.{same-key-true, key-same}
use Rattle.merge.proofs.Lists.{All, no_one, every, put, all-put, put_all, Sooner}
use Rattle.merge.proofs.Lead.{Other, another}
use Rattle.merge.proofs.Gives.{Next, nothing, found, Gives}
use Rattle.read.specs.Entries.{live, only, firsts, answers}
use Rattle.read.specs.Mvcc.{hold, counts, Entry, settle, drain, step_from, step}
use Rattle.read.proofs.Lists.{only_yes, only-put-yes, only-put-no, all-only, shadowed-front, shadowed-back, fresh}

-- what is held counts as standing at the end it was passed at
unfoldable pub beside : End → Option Placed → List Placed → List Placed
beside e none l = l
beside e (some p) l = put e p l

-- one version a key, of versions in order
abbrev pub one : (Placed → Bool) → List Placed → List Placed
one t l = firsts (only t l)

-- passing a version of the key that is held, or of any key with none held
pub data Goes (t : Placed → Bool) (x : Placed) : Option Placed → Type 0 where
  unheld : Goes t x none
  of-key : {p : Placed} → t p ≡ true → p.version.key ≡ x.version.key → Goes t x (some p)

-- an unseen version changes nothing
unseen : (e : End) (t : Placed → Bool) (x : Placed) (h : Option Placed) (l : List Placed) → t x ≡ false → Goes t x h → one t (beside e h (put e x l)) ≡ one t (beside e h l)
unfolding beside
unseen e t x none l q unheld = ap firsts (only-put-no e t x l q)
unseen e t x (some p) l q (of-key v k) =
    ap firsts (only-put-yes e t p (put e x l) v ∙ ap (put e p) (only-put-no e t x l q) ∙ sym (only-put-yes e t p l v))

pub goes_on : (e : End) (t : Placed → Bool) (x : Placed) (h : Option Placed) (l : List Placed) → Goes t x h
    → one t (beside e h (put e x l)) ≡ one t (beside e (hold e t h x) l)
unfolding beside hold pick put
goes_on Front t x none l g = go (t x) refl
  where
    go : (b : Bool) → t x ≡ b → one t (x ∷ l) ≡ one t (beside Front (pick b (some x) none) l)
    go true q = refl
    go false q = unseen Front t x none l q g
goes_on Front t x (some p) l (of-key v k) = go (t x) refl
  where
    go : (b : Bool) → t x ≡ b → one t (p ∷ x ∷ l) ≡ one t (p ∷ l)
    go true q = ap firsts (only_yes t p (x ∷ l) v ∙ ap (λ l'. p ∷ l') (only_yes t x l q)) ∙ shadowed-front p x (only t l) k ∙ ap firsts (sym (only_yes t p l v))
    go false q = unseen Front t x (some p) l q (of-key v k)
goes_on Back t x none l g = go (t x) refl
  where
    go : (b : Bool) → t x ≡ b → one t (l ++ (x ∷ [])) ≡ one t (beside Back (pick b (some x) none) l)
    go true q = refl
    go false q = unseen Back t x none l q g
goes_on Back t x (some p) l (of-key v k) = go (t x) refl
  where
    go : (b : Bool) → t x ≡ b → one t ((l ++ (x ∷ [])) ++ (p ∷ [])) ≡ one t (beside Back (pick b (some x) (some p)) l)
    go true q = ap firsts (only-put-yes Back t p (l ++ (x ∷ [])) v ∙ ap (λ l'. l' ++ (p ∷ [])) (only-put-yes Back t x l q))
        ∙ shadowed-back p x (only t l) k ∙ ap firsts (sym (only-put-yes Back t x l q))
    go false q = unseen Back t x (some p) l q (of-key v k)

-- what is held was seen, and all that is left comes after it
pub data Holds (e : End) (t : Placed → Bool) (l : List Placed) : Option Placed → Type 0 where
  nothing_yet : Holds e t l none
  first-seen : {p : Placed} → t p ≡ true → All (Sooner e p) l → Holds e t l (some p)

-- x was passed: what the step holds then
holds_on : (e : End) (t : Placed → Bool) (x : Placed) (l : List Placed) (h : Option Placed) → All (Sooner e x) l → Holds e t (put e x l) h → Holds e t l (hold e t h x)
unfolding hold pick
holds_on Front t x l none f k = go (t x) refl
  where
    go : (b : Bool) → t x ≡ b → Holds Front t l (pick b (some x) none)
    go true q = first-seen q f
    go false q = nothing_yet
holds_on Front t x l (some p) f (first-seen v s) = first-seen v (all-put _ Front x l s).1
holds_on Back t x l h f k = go (t x) refl
  where
    go : (b : Bool) → t x ≡ b → Holds Back t l (pick b (some x) h)
    go true q = first-seen q f
    go false q = still h k
      where
        still : (h : Option Placed) → Holds Back t (put Back x l) h → Holds Back t l h
        still none nothing_yet = nothing_yet
        still (some p) (first-seen v s) = first-seen v (all-put _ Back x l s).1

-- how many are held
unfoldable pub size_of : Option Placed → ℕ
size_of none = 0
size_of (some p) = 1

pub at_most_one : (h : Option Placed) → size_of h ≤ 1
unfolding size_of
at_most_one none = omega arith
at_most_one (some p) = omega arith

length-put : (e : End) (x : Placed) (l : List Placed) → length (put e x l) ≡ suc (length l)
unfolding put
length-put Front x l = refl
length-put Back x l = length-append l (x ∷ []) ∙ omega arith

empty : (l : List Placed) → length l ≤ 0 → l ≡ []
empty [] h = refl
empty (x ∷ l) h = absurd (omega arith)

module _ {S : Type 0} (m : Merge S) (Good : S → Type 0) (rest : S → List Placed) (gives : Gives m Good rest) (t : Placed → Bool) where
  -- a key drained, from a state with something held
  pub data Drains (e : End) (h : Option Placed) (s : S) : Reply (Entry S) → Type 0 where
    all_done : one t (beside e h (rest s)) ≡ [] → Drains e h s Nothing
    one_found : {x : Entry S} → one t (beside e h (rest s)) ≡ put e x.version (one t (rest x.rest)) → Good x.rest
        → suc (length (rest x.rest)) ≤ length (rest s) + size_of h → Drains e h s (Found x)

  key_counts : (e : End) (p : Placed) (s : S) → Good s → t p ≡ true → All (Other p) (rest s) → Drains e (some p) s (Found (record { version = p; rest = s }))
  unfolding beside size_of
  key_counts e p s f v o = one_found (ap firsts (only-put-yes e t p _ v) ∙ fresh e p _ (all-only _ t _ o)) f (omega arith)

  nothing_left_lem : (e : End) (h : Option Placed) (s : S) → Good s → Holds e t (rest s) h → rest s ≡ [] → Drains e h s (settle h s)
  unfolding settle beside only firsts
  nothing_left_lem e none s f k z = all_done (rw z)
  nothing_left_lem e (some p) s f (first-seen v a) z = key_counts e p s f v (rw z no_one)

  another-key : (e : End) (h : Option Placed) (s : S) (x : Placed) (l : List Placed) → Good s → Holds e t (rest s) h → rest s ≡ put e x l
      → All (Sooner e x) l → counts h x ≡ true → Drains e h s (settle h s)
  unfolding counts settle
  another-key e none s x l f k z q r = never (sym r)
  another-key e (some p) s x l f (first-seen v a) z q r =
      let d : Other p x = λ g. never (sym r ∙ ap not (key-same p x g)) in
      let u : All (Sooner e p) (put e x l) = rw z at a in
      key_counts e p s f v (rw z (put_all _ e x l d (every _ _ _ (λ y g. another e p x y d (all-put _ e x l u).0 g) q)))

  goes : (e : End) (h : Option Placed) (l : List Placed) (x : Placed) → Holds e t l h → counts h x ≡ false → Goes t x h
  unfolding counts
  goes e none l x k r = unheld
  goes e (some p) l x (first-seen v a) r = of-key v (same-key-true p x (not-false _ r))

  -- x was passed, and the rest of the key after it
  after_one : (e : End) (h : Option Placed) (s d : S) (x : Placed) → rest s ≡ put e x (rest d) → Goes t x h → (r : Reply (Entry S)) → Drains e (hold e t h x) d r → Drains e h s r
  after_one e h s d x z g r k = go r k
    where
      same : one t (beside e h (rest s)) ≡ one t (beside e (hold e t h x) (rest d))
      same = ap (λ l. one t (beside e h l)) z ∙ goes_on e t x h (rest d) g

      go : (r : Reply (Entry S)) → Drains e (hold e t h x) d r → Drains e h s r
      go Nothing (all_done w) = all_done (same ∙ w)
      go (Found y) (one_found w f l) = one_found {x = y} (same ∙ w) f (omega (arith, at_most_one (hold e t h x), ap length z, length-put e x (rest d)))
      go Torn x'' = elim x'' [ ]

  drains : (n : ℕ) (e : End) (h : Option Placed) (s : S) → Good s → Holds e t (rest s) h → length (rest s) ≤ n → Drains e h s (drain n m e t h s)
  unfolding drain on_reply pick
  drains zero e h s f k l = nothing_left_lem e h s f k (empty (rest s) l)
  drains (suc n) e h s f k l = turned (λ h' d. drains n e h' d) (m.peek e s) (gives.next e s f)
    where
      turned : ((h' : Option Placed) (d : S) → Good d → Holds e t (rest d) h' → length (rest d) ≤ n → Drains e h' d (drain n m e t h' d))
          → (a : Reply Placed) → Next m Good rest e s a
          → Drains e h s (on_reply a (settle h s) (λ x. pick (counts h x) (settle h s) (drain n m e t (hold e t h x) (m.pop e s))))
      turned ih Nothing (nothing z) = nothing_left_lem e h s f k z
      turned ih (Found x) (found z q w) = go (counts h x) refl
        where
          go : (y : Bool) → counts h x ≡ y → Drains e h s (pick y (settle h s) (drain n m e t (hold e t h x) (m.pop e s)))
          go true r = another-key e h s x _ f k z q r
          go false r =
              after_one e h s (m.pop e s) x z (goes e h _ x k r) _
              (ih (hold e t h x) (m.pop e s) w (holds_on e t x _ h q (rw z at k)) (omega (arith, ap length z, length-put e x (rest (m.pop e s)))))
      turned ih Torn x4 = elim x4 [ ]

  -- what a step takes
  pub data Takes (e : End) (s : S) : Reply (Entry S) → Type 0 where
    no_more : answers t (rest s) ≡ [] → Takes e s Nothing
    takes : {x : Entry S} → answers t (rest s) ≡ put e x.version (answers t (rest x.rest)) → Good x.rest → Takes e s (Found x)

  steps : (n : ℕ) (e : End) (s : S) → Good s → length (rest s) ≤ n → Takes e s (step_from n m e t s)
  unfolding step_from on_reply pick answers beside only firsts size_of
  steps zero e s f l = no_more (rw (empty (rest s) l))
  steps (suc n) e s f l = go (λ d. steps n e d) (drain (m.left s) m e t none s) (drains (m.left s) e none s f nothing_yet (omega (arith, gives.count s f)))
    where
      go : ((d : S) → Good d → length (rest d) ≤ n → Takes e d (step_from n m e t d))
          → (r : Reply (Entry S)) → Drains e none s r → Takes e s (on_reply r Nothing (λ x. pick (live x.version) (Found x) (step_from n m e t x.rest)))
      go ih Nothing (all_done z) = no_more (ap (only live) z)
      go ih (Found x) (one_found z g u) = by-live (live x.version) refl
        where
          dead : live x.version ≡ false → (r : Reply (Entry S)) → Takes e x.rest r → Takes e s r
          dead q Nothing (no_more w) = no_more (ap (only live) z ∙ only-put-no e live x.version _ q ∙ w)
          dead q (Found y) (takes w h) = takes {x = y} (ap (only live) z ∙ only-put-no e live x.version _ q ∙ w) h
          dead q Torn x7 = elim x7 [ ]

          by-live : (b : Bool) → live x.version ≡ b → Takes e s (pick b (Found x) (step_from n m e t x.rest))
          by-live true q = takes {x = x} (ap (only live) z ∙ only-put-yes e live x.version _ q) g
          by-live false q = dead q _ (ih x.rest g (omega arith))
      go ih Torn x3 = elim x3 [ ]

  -- a step takes what stands at its end of what is left
  pub step-takes : (e : End) (s : S) → Good s → Takes e s (step m e t s)
  unfolding step
  step-takes e s f = steps (m.left s) e s f (omega (arith, gives.count s f))
