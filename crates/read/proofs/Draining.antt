-- A step, key by key, over any merge that shrinks: a key that is found leaves fewer records, so there are always keys enough to pass, and what is left of the definition does not depend on how many it was told to pass.
use native.Mathlib.Omega.{arith}
use mathlib.Core.Bool.{Bool, true, false}
use mathlib.Core.Option.{Option, none, some}
use mathlib.Core.Path.{refl, sym, ap, subst, ◌≡◌, ◌∙◌}
use Prim.Native.Nat.{ℕ, zero, suc, ◌+◌, ◌-◌, ◌≤◌, ◌<◌}
use Rattle.list.specs.Pick.{pick}
use Rattle.merge.specs.Placed.{Placed}
use Rattle.merge.specs.Merge.{Reply, Nothing, Found, Torn, on_reply, Merge}
use Rattle.merge.specs.declared.ends.End.{End}
use Rattle.merge.proofs.Replies.{found-found, nothing-found, torn-found}
use Rattle.merge.proofs.Shrinks.{Shrinks}
use Rattle.read.specs.Entries.{live}
use Rattle.read.specs.Mvcc.{hold, counts, Entry, settle, drain, step_from, step}
use Rattle.read.proofs.Takes.{size_of, at_most_one}

module _ {S : Type 0} (m : Merge S) (Good : S → Type 0) (shrinks : Shrinks m Good) (e : End) (t : Placed → Bool) where
  -- one record of a key
  unfoldable pub turn-of : Option Placed → S → Reply (Entry S)
  turn-of h s = on_reply (m.peek e s) (settle h s) (λ x. pick (counts h x) (settle h s) (drain (m.left s - 1) m e t (hold e t h x) (m.pop e s)))

  pub drain-turn : (h : Option Placed) (s : S) → drain (m.left s) m e t h s ≡ turn-of h s
  unfolding turn-of drain on_reply
  drain-turn h s = go (m.left s) refl
    where
      go : (n : ℕ) → m.left s ≡ n → drain n m e t h s ≡ on_reply (m.peek e s) (settle h s) (λ x. pick (counts h x) (settle h s) (drain (n - 1) m e t (hold e t h x) (m.pop e s)))
      go zero q = rw (shrinks.empty e s q)
      go (suc n) q =
          let z : n ≡ suc n - 1 = omega arith in
          ap (λ j. on_reply (m.peek e s) (settle h s) (λ x. pick (counts h x) (settle h s) (drain j m e t (hold e t h x) (m.pop e s)))) z

  module _ (h : Option Placed) (s : S) (x : Placed) (q : m.peek e s ≡ Found x) where
    -- the next record has another key
    pub drain-counts : counts h x ≡ true → drain (m.left s) m e t h s ≡ settle h s
    unfolding on_reply turn-of pick
    drain-counts r = drain-turn h s ∙ rw (q, r)

    -- the next record is passed
    pub drain-goes : Good s → counts h x ≡ false → drain (m.left s) m e t h s ≡ drain (m.left (m.pop e s)) m e t (hold e t h x) (m.pop e s)
    unfolding on_reply turn-of pick
    drain-goes f r =
        let z : m.left s - 1 ≡ m.left (m.pop e s) = omega (arith, shrinks.falls e s x f q) in
        drain-turn h s ∙ rw (q, r) (ap (λ n. drain n m e t (hold e t h x) (m.pop e s)) z)

  -- fewer than n records are left, and the state is good
  data Falls (n : ℕ) : Reply (Entry S) → Type 0 where
    torn : Falls n Torn
    nothing : Falls n Nothing
    falls-to : {x : Entry S} → m.left x.rest < n → Good x.rest → Falls n (Found x)

  weaken : (n k : ℕ) (o : Reply (Entry S)) → n ≤ k → Falls n o → Falls k o
  weaken n k Torn h torn = torn
  weaken n k Nothing h nothing = nothing
  weaken n k (Found x) h (falls-to l f) = falls-to {x = x} (omega arith) f

  settle-falls : (h : Option Placed) (s : S) → Good s → Falls (m.left s + size_of h) (settle h s)
  unfolding settle size_of
  settle-falls none s f = nothing
  settle-falls (some p) s f = falls-to {x = record { version = p; rest = s }} (omega arith) f

  drain-falls : (n : ℕ) (h : Option Placed) (s : S) → Good s → Falls (m.left s + size_of h) (drain n m e t h s)
  unfolding drain
  drain-falls zero h s f = settle-falls h s f
  drain-falls (suc n) h s f = go (λ k d. drain-falls n k d) (m.peek e s) refl
    where
      go : ((k : Option Placed) (d : S) → Good d → Falls (m.left d + size_of k) (drain n m e t k d)) → (a : Reply Placed) → m.peek e s ≡ a
          → Falls (m.left s + size_of h) (on_reply a (settle h s) (λ x. pick (counts h x) (settle h s) (drain n m e t (hold e t h x) (m.pop e s))))
      go ih Nothing q = unfold on_reply in settle-falls h s f
      go ih Torn q = unfold on_reply in torn
      go ih (Found x) q = unfold on_reply in by (counts h x)
        where
          by : (u : Bool) → Falls (m.left s + size_of h) (pick u (settle h s) (drain n m e t (hold e t h x) (m.pop e s)))
          by true = unfold pick in settle-falls h s f
          by false = unfold pick in
              weaken _ _ _ (omega (arith, shrinks.falls e s x f q, at_most_one (hold e t h x))) (ih (hold e t h x) (m.pop e s) (shrinks.stays e s x f q))

  one_key : (s : S) → Good s → Falls (m.left s) (drain (m.left s) m e t none s)
  one_key s f =
      let z : m.left s + size_of none ≡ m.left s = unfold size_of in omega arith in
      subst (λ n. Falls n (drain (m.left s) m e t none s)) z (drain-falls (m.left s) none s f)

  pub key-found : (s : S) → Good s → (x : Entry S) → drain (m.left s) m e t none s ≡ Found x → (m.left x.rest < m.left s) × Good x.rest
  key-found s f x q = go (subst (Falls (m.left s)) q (one_key s f))
    where
      go : Falls (m.left s) (Found x) → (m.left x.rest < m.left s) × Good x.rest
      go (falls-to l g) = (l, g)

  -- nothing left, nothing found
  spent : (n : ℕ) (s : S) → m.left s ≤ 0 → step_from n m e t s ≡ Nothing
  unfolding step_from
  spent zero s h = refl
  spent (suc n) s h =
      let z : m.left s ≡ 0 = omega arith in
      ap (λ k. on_reply (drain k m e t none s) Nothing (λ x. pick (live x.version) (Found x) (step_from n m e t x.rest))) z ∙ (unfold drain settle on_reply in refl)

  enough : (n k : ℕ) (s : S) → Good s → m.left s ≤ n → m.left s ≤ k → step_from n m e t s ≡ step_from k m e t s
  unfolding step_from
  enough zero k s f g h = spent zero s g ∙ sym (spent k s g)
  enough (suc n) zero s f g h = spent (suc n) s h ∙ sym (spent zero s h)
  enough (suc n) (suc k) s f g h = go (λ d. enough n k d) (drain (m.left s) m e t none s) (one_key s f)
    where
      go : ((d : S) → Good d → m.left d ≤ n → m.left d ≤ k → step_from n m e t d ≡ step_from k m e t d) → (o : Reply (Entry S)) → Falls (m.left s) o
          → on_reply o Nothing (λ x. pick (live x.version) (Found x) (step_from n m e t x.rest)) ≡ on_reply o Nothing (λ x. pick (live x.version) (Found x) (step_from k m e t x.rest))
      go ih Torn l = unfold on_reply in refl
      go ih Nothing l = unfold on_reply in refl
      go ih (Found x) (falls-to l w) = unfold on_reply in ap (pick (live x.version) (Found x)) (ih x.rest w (omega arith) (omega arith))

  -- one key of a step
  pub step-turn : (s : S) → Good s → step m e t s ≡ on_reply (drain (m.left s) m e t none s) Nothing (λ x. pick (live x.version) (Found x) (step m e t x.rest))
  step-turn s f = unfold step in enough (m.left s) (suc (m.left s)) s f (omega arith) (omega arith) ∙ (unfold step_from in go (drain (m.left s) m e t none s) (one_key s f))
    where
      go : (o : Reply (Entry S)) → Falls (m.left s) o
          → on_reply o Nothing (λ x. pick (live x.version) (Found x) (step_from (m.left s) m e t x.rest)) ≡ on_reply o Nothing (λ x. pick (live x.version) (Found x) (step_from (m.left x.rest) m e t x.rest))
      go Torn l = unfold on_reply in refl
      go Nothing l = unfold on_reply in refl
      go (Found x) (falls-to l w) = unfold on_reply in ap (pick (live x.version) (Found x)) (enough (m.left s) (m.left x.rest) x.rest w (omega arith) (omega arith))

  -- what a step finds leaves a good state
  step-good : (n : ℕ) (s : S) → Good s → (x : Entry S) → step_from n m e t s ≡ Found x → Good x.rest
  unfolding step_from
  step-good zero s f x q = nothing-found q
  step-good (suc n) s f x q = go (λ d. step-good n d) (drain (m.left s) m e t none s) (one_key s f) q
    where
      go : ((d : S) → Good d → (y : Entry S) → step_from n m e t d ≡ Found y → Good y.rest) → (o : Reply (Entry S)) → Falls (m.left s) o
          → on_reply o Nothing (λ x. pick (live x.version) (Found x) (step_from n m e t x.rest)) ≡ Found x → Good x.rest
      go ih Torn l p = torn-found {x = x} (unfold on_reply in p)
      go ih Nothing l p = nothing-found {x = x} (unfold on_reply in p)
      go ih (Found y) (falls-to l w) p = by (live y.version) (unfold on_reply in p)
        where
          by : (u : Bool) → pick u (Found y) (step_from n m e t y.rest) ≡ Found x → Good x.rest
          by true p = subst (λ z. Good z.rest) (found-found {x = y} {y = x} (unfold pick in p)) w
          by false p = ih y.rest w x (unfold pick in p)
