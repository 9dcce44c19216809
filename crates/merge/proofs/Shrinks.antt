-- A merge shrinks when each record that is passed leaves one less, and nothing is next where none is left. The plain search does, on any bytes.
use native.Mathlib.Omega.{arith}
use borrow.Author.Tests.{le-ltb}
use lib.ListN.{length}
use mathlib.Core.Path.{refl, ap, ap₂, subst, ◌≡◌}
use mathlib.Core.Option.{Option}
use Prim.Native.Nat.{ℕ, zero, suc, ◌+◌, ◌-◌, ◌≤◌, ◌<◌}
use Rattle.list.specs.Pick.{pick}
use Rattle.list.proofs.Strict.{Three, eq, gt, lt, three}
use Rattle.merge.specs.Placed.{Placed}
use Rattle.merge.specs.Merge.{Reply, Nothing, Found, Torn, on_reply, Merge}
use Rattle.merge.specs.Plain.{Ends, front_at, back_at, left, Head, place, next, choose, ahead, pass, past, plain}
use Rattle.merge.specs.Private.{Fitting, twins}
use Rattle.merge.specs.declared.ends.End.{End}
use Rattle.merge.specs.declared.ends.End.TheVariants.{Back, Front}
use Rattle.merge.proofs.Turn.{front_same, front-other, front_kept, back-same, back-other, back-kept, still-fits}
use Rattle.merge.proofs.Lead.{Apart, Lead, leads, lead, next_of}
use Rattle.merge.proofs.Replies.{nothing-found, torn-found}

pub record Shrinks {S : Type 0} (m : Merge S) (Good : S → Type 0) : Type 0 where
  pub empty : (e : End) (s : S) → m.left s ≡ 0 → m.peek e s ≡ Nothing
  pub falls : (e : End) (s : S) (x : Placed) → Good s → m.peek e s ≡ Found x → suc (m.left (m.pop e s)) ≡ m.left s
  pub stays : (e : End) (s : S) (x : Placed) → Good s → m.peek e s ≡ Found x → Good (m.pop e s)

-- a passed record leaves one less
gap_other : (e : End) (c : Ends) (k j : ℕ) → (j ≡ k → ⊥) → back_at (pass e c k) j - front_at (pass e c k) j ≡ back_at c j - front_at c j
gap_other Front c k j d = rw (front-other c k j d, back-kept c k j)
gap_other Back c k j d = rw (front_kept c k j, back-other c k j d)

left_other : (e : End) (c : Ends) (k n : ℕ) → n ≤ k → left n (pass e c k) ≡ left n c
unfolding left
left_other e c k zero h = refl
left_other e c k (suc n) h = ap₂ ◌+◌ (left_other e c k n (omega arith)) (gap_other e c k n (λ q. omega arith))

module _ (e : End) (c : Ends) (k : ℕ) (front-room : k < length c.front) (back-room : k < length c.back) (some : front_at c k < back_at c k) where
  gap_same : (e : End) → suc (back_at (pass e c k) k - front_at (pass e c k) k) ≡ back_at c k - front_at c k
  gap_same Front = omega (arith, front_same c k front-room, back-kept c k k)
  gap_same Back = omega (arith, front_kept c k k, back-same c k back-room)

  pub left_passed : (n : ℕ) → k < n → suc (left n (pass e c k)) ≡ left n c
  unfolding left
  left_passed zero h = absurd (omega arith)
  left_passed (suc n) h = go (three k n) (left_passed n)
    where
      go : Three k n → (k < n → suc (left n (pass e c k)) ≡ left n c) → suc (left n (pass e c k) + (back_at (pass e c k) n - front_at (pass e c k) n)) ≡ left n c + (back_at c n - front_at c n)
      go (lt l) ih = omega (arith, ih l, gap_other e c k n (λ q. omega arith))
      go (eq l) ih = omega (arith, left_other e c k n (omega arith), ap (λ j. back_at (pass e c k) j - front_at (pass e c k) j) l, ap (λ j. back_at c j - front_at c j) l, gap_same e)
      go (gt l) ih = absurd (omega arith)

-- nothing left, nothing ahead
none-next : (e : End) (look : ℕ → ℕ → Option Placed) (c : Ends) (k : ℕ) → back_at c k - front_at c k ≡ 0 → next e look c k ≡ Nothing
unfolding next pick
none-next e look c k h =
    let l : back_at c k ≤ front_at c k = omega arith in
    rw (le-ltb (front_at c k) (back_at c k) l)

pub nothing-ahead : (n : ℕ) (e : End) (look : ℕ → ℕ → Option Placed) (c : Ends) → left n c ≡ 0 → ahead n e look c ≡ Nothing
unfolding ahead left choose
nothing-ahead zero e look c h = refl
nothing-ahead (suc n) e look c h = rw (nothing-ahead n e look c (omega arith), none-next e look c n (omega arith))

-- other sources' next records stay
pub next-other : (e : End) (look : ℕ → ℕ → Option Placed) (c : Ends) (k j : ℕ) → (j ≡ k → ⊥) → next e look (pass e c k) j ≡ next e look c j
unfolding next place
next-other Front look c k j d = rw (front-other c k j d, back-kept c k j)
next-other Back look c k j d = rw (front_kept c k j, back-other c k j d)

-- what leads was next in its source, which has some left
pub led : (n : ℕ) (e : End) (look : ℕ → ℕ → Option Placed) → Apart look → (c : Ends) (x : Head) → ahead n e look c ≡ Found x → (x.source < n) × (front_at c x.source < back_at c x.source)
led n e look apart c x q = go (subst (Lead n e look c (twins n e look c)) q (lead n e look apart c))
  where
    go : Lead n e look c (twins n e look c) (Found x) → (x.source < n) × (front_at c x.source < back_at c x.source)
    go (leads l m b) = (l, (next_of e look c x.source x m).some_left)

module _ (n : ℕ) (look : ℕ → ℕ → Option Placed) (apart : Apart look) (m : ℕ) (size : ℕ → ℕ) (few : n ≤ m) where
  -- what was peeked at is a source's next
  peeked : (e : End) (c : Ends) (x : Placed) → (plain n look).peek e c ≡ Found x → (h : Head) × (ahead n e look c ≡ Found h)
  unfolding plain
  peeked e c x q = go (ahead n e look c) refl q
    where
      go : (a : Reply Head) → ahead n e look c ≡ a → on_reply a Nothing (λ y. Found y.placed) ≡ Found x → (h : Head) × (ahead n e look c ≡ Found h)
      go Nothing r p = nothing-found {x = x} (unfold on_reply in p)
      go (Found h) r p = (h, r)
      go Torn r p = torn-found {x = x} (unfold on_reply in p)

  falls-one : (e : End) (c : Ends) → Fitting m size c → (h : Head) → ahead n e look c ≡ Found h → suc (left n (past e (ahead n e look c) c)) ≡ left n c
  unfolding past
  falls-one e c f h q =
      let l = led n e look apart c h q in
      rw q (left_passed e c h.source (omega (arith, f.front-room)) (omega (arith, f.back-room)) l.1 n l.0)

  stays-one : (e : End) (c : Ends) → Fitting m size c → (h : Head) → ahead n e look c ≡ Found h → Fitting m size (past e (ahead n e look c) c)
  unfolding past
  stays-one e c f h q =
      let l = led n e look apart c h q in
      rw q (still-fits m size c f h.source (omega arith) l.1 e)

  pub plain-shrinks : Shrinks (plain n look) (Fitting m size)
  unfolding plain on_reply
  plain-shrinks = record {
    empty = λ e c h. rw (nothing-ahead n e look c h);
    falls = λ e c x f q. let p = peeked e c x q in falls-one e c f p.0 p.1;
    stays = λ e c x f q. let p = peeked e c x q in stays-one e c f p.0 p.1;
  }
