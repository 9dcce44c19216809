-- A point read finds the newest version strictly below the seqno: it is there, it has the key, and every other such version has a smaller seqno, because a key's versions stand newest first.
use Prim.Native.Nat.{ℕ, zero, suc, ◌+◌, ◌<◌}
use mathlib.Core.Path.{◌≡◌, refl, sym, ap, ◌∙◌, subst}
use mathlib.Core.List.{List, [], ◌∷◌}
use mathlib.Core.Bool.{Bool, true, false}
use mathlib.Core.Option.{Option, none, some}
use mathlib.Core.Logic.{◌⊎◌, inl, inr}
use native.Mathlib.Omega.{arith}
use lib.ListN.{length, get_or}
use Rattle.list.specs.Pick.{pick}
use Rattle.list.specs.Order.{compare}
use Rattle.list.specs.Version.{Version, Above, InOrder}
use Rattle.list.specs.PointRead.{is_below, point_read_from, point_read}
use Rattle.std.specs.declared.cmp.Ordering.TheVariants.{Less}
use Rattle.list.proofs.Tests.{never}
use Rattle.list.proofs.Strict.{compare-trans, Three, lt, eq, gt, three}
use Rattle.list.proofs.Ordered.{in-order-at}
use Rattle.list.proofs.Neighbours.{Next, same, other, near, far, one_key}
use Rattle.list.proofs.OfKey.{above-key, is_below_lem, other-below, below-is}

-- the version found, if any
unfoldable pub version_in : Option (ℕ × Version) → List Version
version_in none = []
version_in (some (i, v)) = v ∷ []

pub no-version : {A : Type 0} {v : Version} → [] ≡ v ∷ [] → A
no-version e = let z : ◌≡◌ {A = ℕ} 0 1 = ap length e in absurd (omega arith)

pub one-version : {v w : Version} → v ∷ [] ≡ w ∷ [] → v ≡ w
one-version {v} e = ap (λ (l : List Version). get_or l 0 v) e

pub is_none : (x : Option (ℕ × Version)) → version_in x ≡ [] → x ≡ none
unfolding version_in
is_none none e = refl
is_none (some x) e = no-version (sym e)

pub is_some : (x : Option (ℕ × Version)) (v : Version) → version_in x ≡ v ∷ [] → (i : ℕ) × (x ≡ some (i, v))
unfolding version_in
is_some none v e = no-version e
is_some (some x) v e = (x.0, ap (λ (w : Version). some (x.0, w)) (one-version e))

module _ (k : List ℕ) (n : ℕ) where
  pub read-hit : (i : ℕ) (v : Version) (vs : List Version) → is_below k n v ≡ true → point_read_from i k n (v ∷ vs) ≡ some (i, v)
  unfolding point_read_from pick
  read-hit i v vs e = rw e

  pub read-on : (i : ℕ) (v : Version) (vs : List Version) → is_below k n v ≡ false → point_read_from i k n (v ∷ vs) ≡ point_read_from (i + 1) k n vs
  unfolding point_read_from pick
  read-on i v vs e = rw e

  -- from a greater key on there is none
  pub none_above : (i : ℕ) (v : Version) (vs : List Version) → Above v vs → compare k v.key ≡ Less → point_read_from i k n (v ∷ vs) ≡ none
  unfolding point_read_from
  none_above i v [] r c = read-on i v [] (other-below k n v (above-key k v c))
  none_above i v (w ∷ ws) r c = read-on i v (w ∷ ws) (other-below k n v (above-key k v c)) ∙ none_above (i + 1) w ws (far v w ws r) (go (near v w ws r))
    where
      go : Next v w → compare k w.key ≡ Less
      go (same e h) = rw e at c
      go (other e) = compare-trans _ _ _ c e

  -- the version found, whatever its number
  unfoldable pub first_below : List Version → List Version
  first_below vs = version_in (point_read k n vs)

  any-number : (vs : List Version) (i j : ℕ) → version_in (point_read_from i k n vs) ≡ version_in (point_read_from j k n vs)
  unfolding point_read_from pick version_in
  any-number [] i j = refl
  any-number (v ∷ vs) i j = go (is_below k n v) (any-number vs (i + 1) (j + 1))
    where
      go : (b : Bool) → version_in (point_read_from (i + 1) k n vs) ≡ version_in (point_read_from (j + 1) k n vs)
          → version_in (pick b (some (i, v)) (point_read_from (i + 1) k n vs)) ≡ version_in (pick b (some (j, v)) (point_read_from (j + 1) k n vs))
      go true ih = refl
      go false ih = ih

  pub first-nil : first_below [] ≡ []
  unfolding first_below point_read point_read_from version_in
  first-nil = refl

  pub first-hit : (v : Version) (vs : List Version) → is_below k n v ≡ true → first_below (v ∷ vs) ≡ v ∷ []
  unfolding first_below point_read version_in
  first-hit v vs e = ap version_in (read-hit 0 v vs e)

  pub first_on : (v : Version) (vs : List Version) → is_below k n v ≡ false → first_below (v ∷ vs) ≡ first_below vs
  unfolding first_below point_read
  first_on v vs e = ap version_in (read-on 0 v vs e) ∙ any-number vs 1 0

  pub first_above : (v : Version) (vs : List Version) → Above v vs → compare k v.key ≡ Less → first_below (v ∷ vs) ≡ []
  unfolding first_below point_read version_in
  first_above v vs r c = ap version_in (none_above 0 v vs r c)

-- what is found is the first that is below, off versions stand before it; or none is below
data Walked (k : List ℕ) (n : ℕ) (d : Version) (vs : List Version) (i : ℕ) : Option (ℕ × Version) → Type 0 where
  none_is : ((x : ℕ) → x < length vs → is_below k n (get_or vs x d) ≡ false) → Walked k n d vs i none
  one-is : (off j : ℕ) → j ≡ i + off → off < length vs → is_below k n (get_or vs off d) ≡ true → ((x : ℕ) → x < off → is_below k n (get_or vs x d) ≡ false)
      → Walked k n d vs i (some (j, get_or vs off d))

walked : (k : List ℕ) (n : ℕ) (d : Version) (vs : List Version) (i : ℕ) → Walked k n d vs i (point_read_from i k n vs)
unfolding point_read_from pick
walked k n d [] i = none_is (λ x h. absurd (omega arith))
walked k n d (w ∷ ws) i = go (is_below k n w) refl (point_read_from (i + 1) k n ws) (walked k n d ws (i + 1))
  where
    past : (m : ℕ) → is_below k n w ≡ false → ((x : ℕ) → x < m → is_below k n (get_or ws x d) ≡ false) → (x : ℕ) → x < suc m → is_below k n (get_or (w ∷ ws) x d) ≡ false
    past m b f zero h = b
    past m b f (suc x) h = f x (omega arith)

    go : (b : Bool) → is_below k n w ≡ b → (r : Option (ℕ × Version)) → Walked k n d ws (i + 1) r → Walked k n d (w ∷ ws) i (pick b (some (i, w)) r)
    go true b r u = one-is 0 i (omega arith) (omega arith) b (λ x h. absurd (omega arith))
    go false b _ (none_is f) = none_is (past (length ws) b f)
    go false b _ (one-is off j e h l f) = one-is (suc off) j (omega arith) (omega arith) l (past off b f)

-- a version of the list that has the key and a seqno strictly below, and every other such version has a smaller one
pub record IsNewest (k : List ℕ) (n : ℕ) (vs : List Version) (d : Version) (i : ℕ) (v : Version) : Type 0 where
  pub inside : i < length vs
  pub is : get_or vs i d ≡ v
  pub keyed : v.key ≡ k
  pub lower : v.seqno < n
  pub newest : (j : ℕ) → j < length vs → (get_or vs j d).key ≡ k → (get_or vs j d).seqno < n → (j ≡ i) ⊎ ((get_or vs j d).seqno < v.seqno)

module _ (k : List ℕ) (n : ℕ) (vs : List Version) (d : Version) where
  -- what a read finds is the newest strictly below
  pub newest-is : (i : ℕ) (v : Version) → InOrder vs → point_read k n vs ≡ some (i, v) → IsNewest k n vs d i v
  unfolding point_read
  newest-is i v o e = go i v (subst (Walked k n d vs 0) e (walked k n d vs 0))
    where
      others : (i : ℕ) → k ≡ (get_or vs i d).key → ((x : ℕ) → x < i → is_below k n (get_or vs x d) ≡ false) → (j : ℕ) → j < length vs → (get_or vs j d).key ≡ k
          → (get_or vs j d).seqno < n → Three j i → (j ≡ i) ⊎ ((get_or vs j d).seqno < (get_or vs i d).seqno)
      others i a f j l p q (lt h) = never (sym (is_below_lem k n (get_or vs j d) (sym p) q) ∙ f j h)
      others i a f j l p q (eq h) = inl h
      others i a f j l p q (gt h) = inr (one_key (get_or vs i d) (get_or vs j d) (sym a ∙ sym p) (in-order-at vs d i j o h l))

      go : (i : ℕ) (v : Version) → Walked k n d vs 0 (some (i, v)) → IsNewest k n vs d i v
      go _ _ (one-is off j e h b f) =
          let c : off ≡ j = omega arith in
          let g = below-is k n (get_or vs off d) b in
          subst (λ (x : ℕ). IsNewest k n vs d x (get_or vs off d)) c
          (record { inside = h; is = refl; keyed = sym g.0; lower = g.1; newest = λ x l p q. others off g.0 f x l p q (three x off) })

  -- where it finds nothing there is none
  pub newest-none : point_read k n vs ≡ none → (j : ℕ) → j < length vs → (get_or vs j d).key ≡ k → (get_or vs j d).seqno < n → ⊥
  unfolding point_read
  newest-none e j l p q = go (subst (Walked k n d vs 0) e (walked k n d vs 0))
    where
      go : Walked k n d vs 0 none → ⊥
      go (none_is f) = never (sym (is_below_lem k n (get_or vs j d) (sym p) q) ∙ f j l)
