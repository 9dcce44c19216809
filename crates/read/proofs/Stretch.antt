-- The bounds admit a stretch of versions in strict order: from the first that the lower admits to the last that the upper admits, since what the one admits it admits from there on, and the other up to there.
use Prim.Native.Nat.{ℕ, suc, ◌-◌, ◌≤◌, ◌<◌, max}
use mathlib.Core.Path.{◌≡◌, refl, sym, ap, ◌∙◌}
use mathlib.Core.List.{List, [], ◌∷◌}
use mathlib.Core.Bool.{Bool, true, false, not}
use native.Mathlib.Omega.{arith}
use borrow.Author.Tests.{lt-ltb, le-ltb, ltb-true, ltb-false}
use lib.Dec.{ltb}
use lib.ListN.{length, take, drop}
use lib.Seq.{take-nil}
use Rattle.list.specs.Order.{compare, is_less}
use Rattle.list.specs.Pick.{pick}
use Rattle.std.specs.declared.cmp.Ordering.TheVariants.{Less}
use Rattle.list.proofs.Order.{less-is, is-less}
use Rattle.list.proofs.Strict.{Three, compare-trans, eq, gt, lt, three}
use Rattle.list.proofs.Tests.{never}
use Rattle.merge.specs.Placed.{Placed}
use Rattle.merge.proofs.Order.{Before, by_key, by-seqno, by-list}
use Rattle.merge.proofs.Lists.{All, also, every, link}
use Rattle.merge.proofs.Numbered.{Rises}
use Rattle.std.specs.declared.ops.Bound.TheVariants.{Unbounded, Excluded, Included}
use Rattle.read.specs.Bounds.{Bound, from_lower, to_upper, within}
use Rattle.read.specs.Entries.{only}
use Rattle.read.specs.Start.{end_to, first_from, last_to}
use Rattle.read.proofs.Lists.{only_yes, only_no, only_none}

-- a key at or below another
pub data Upto (a b : List ℕ) : Type 0 where
  below : compare a b ≡ Less → Upto a b
  same : a ≡ b → Upto a b

upto : (x y : Placed) → Before x y → Upto x.version.key y.version.key
upto x y (by_key e) = below e
upto x y (by-seqno e h) = same e
upto x y (by-list e g h) = same e

upto-less : (a b c : List ℕ) → Upto a b → compare b c ≡ Less → compare a c ≡ Less
upto-less a b c (below e) h = compare-trans a b c e h
upto-less a b c (same e) h = rw e h

less_upto : (a b c : List ℕ) → compare a b ≡ Less → Upto b c → compare a c ≡ Less
less_upto a b c h (below e) = compare-trans a b c h e
less_upto a b c h (same e) = rw e at h

not-less : (a b c d : List ℕ) → (compare c d ≡ Less → compare a b ≡ Less) → not (is_less (compare a b)) ≡ true → not (is_less (compare c d)) ≡ true
not-less a b c d f h = go (is_less (compare c d)) refl
  where
    go : (x : Bool) → is_less (compare c d) ≡ x → not x ≡ true
    go false e = refl
    go true e = never (sym h ∙ ap not (is-less _ (f (less-is _ e))))

-- what the lower bound admits it admits from there on, and the upper bound up to there
pub lower-on : (lo : Bound) (a b : List ℕ) → Upto a b → from_lower lo a ≡ true → from_lower lo b ≡ true
unfolding from_lower
lower-on (Included k) a b u h = not-less a k b k (upto-less a b k u) h
lower-on (Excluded k) a b u h = is-less _ (less_upto k a b (less-is _ h) u)
lower-on Unbounded a b u h = refl

pub upper-back : (hi : Bound) (a b : List ℕ) → Upto a b → to_upper hi b ≡ true → to_upper hi a ≡ true
unfolding to_upper
upper-back (Included k) a b u h = not-less k b k a (λ e. less_upto k a b e u) h
upper-back (Excluded k) a b u h = is-less _ (upto-less a b k u (less-is _ h))
upper-back Unbounded a b u h = refl

-- the last that the upper bound admits
module _ (hi : Bound) (v : Placed) (vs : List Placed) where
  pub last_more : 0 < last_to hi vs → last_to hi (v ∷ vs) ≡ suc (last_to hi vs)
  unfolding last_to pick
  last_more h = rw (lt-ltb 0 (last_to hi vs) h)

  pub last-here : last_to hi vs ≡ 0 → to_upper hi v.version.key ≡ true → last_to hi (v ∷ vs) ≡ 1
  unfolding last_to pick
  last-here h e =
      let l : last_to hi vs ≤ 0 = omega arith in
      rw (le-ltb 0 (last_to hi vs) l, e)

  pub last_none : last_to hi vs ≡ 0 → to_upper hi v.version.key ≡ false → last_to hi (v ∷ vs) ≡ 0
  unfolding last_to pick
  last_none h e =
      let l : last_to hi vs ≤ 0 = omega arith in
      rw (le-ltb 0 (last_to hi vs) l, e)

  last_some : last_to hi vs ≡ 0 → last_to hi (v ∷ vs) ≤ 1
  last_some h = go (to_upper hi v.version.key) refl
    where
      go : (b : Bool) → to_upper hi v.version.key ≡ b → last_to hi (v ∷ vs) ≤ 1
      go true e = omega (arith, last-here h e)
      go false e = omega (arith, last_none h e)

abbrev pub under : Bound → Placed → Bool
under hi x = to_upper hi x.version.key

none-under : (hi : Bound) (vs : List Placed) → All (λ z. under hi z ≡ false) vs → last_to hi vs ≡ 0
none-under hi [] f = unfold last_to in refl
none-under hi (v ∷ vs) (also p f) = last_none hi v vs (none-under hi vs f) p

up_to : (hi : Bound) (vs : List Placed) → Rises vs → take (last_to hi vs) vs ≡ only (under hi) vs
up_to hi [] r = unfold last_to only in refl
up_to hi (x ∷ more) (link f g) = go (to_upper hi x.version.key) refl (three 0 (last_to hi more)) (up_to hi more g)
  where
    go : (b : Bool) → to_upper hi x.version.key ≡ b → Three 0 (last_to hi more) → take (last_to hi more) more ≡ only (under hi) more → take (last_to hi (x ∷ more)) (x ∷ more) ≡ only (under hi) (x ∷ more)
    go true e (lt h) ih = ap (λ m. take m (x ∷ more)) (last_more hi x more h) ∙ ap (λ l. x ∷ l) ih ∙ sym (only_yes (under hi) x more e)
    go true e (eq h) ih = ap (λ m. take m (x ∷ more)) (last-here hi x more (sym h) e) ∙ ap (λ l. x ∷ l) (ap (λ m. take m more) h ∙ ih) ∙ sym (only_yes (under hi) x more e)
    go true e (gt h) ih = absurd (omega arith)
    go false e t ih =
        let o : All (λ z. under hi z ≡ false) more = every _ _ _ (λ z q. not-under z q) f in
        ap (λ m. take m (x ∷ more)) (last_none hi x more (none-under hi more o) e) ∙ sym (only_no (under hi) x more e ∙ only_none (under hi) more o)
      where
        not-under : (z : Placed) → Before x z → under hi z ≡ false
        not-under z q = by (under hi z) refl
          where
            by : (b : Bool) → under hi z ≡ b → under hi z ≡ false
            by false w = w
            by true w = never (sym (upper-back hi _ _ (upto x z q) w) ∙ e)

only_same : (t u : Placed → Bool) (l : List Placed) → All (λ z. t z ≡ u z) l → only t l ≡ only u l
unfolding only
only_same t u [] f = refl
only_same t u (x ∷ l) (also p f) = rw (p, only_same t u l f)

pub end_is : (lo hi : Bound) (vs : List Placed) → end_to lo hi vs ≡ max (first_from lo vs) (last_to hi vs)
unfolding end_to pick
end_is lo hi vs = go (ltb (last_to hi vs) (first_from lo vs)) refl
  where
    go : (b : Bool) → ltb (last_to hi vs) (first_from lo vs) ≡ b → pick b (first_from lo vs) (last_to hi vs) ≡ max (first_from lo vs) (last_to hi vs)
    go true e = omega (arith, ltb-true (last_to hi vs) (first_from lo vs) e)
    go false e = omega (arith, ltb-false (last_to hi vs) (first_from lo vs) e)

pub first_on : (lo : Bound) (v : Placed) (vs : List Placed) → from_lower lo v.version.key ≡ false → first_from lo (v ∷ vs) ≡ suc (first_from lo vs)
unfolding first_from pick
first_on lo v vs e = rw e

pub first-here : (lo : Bound) (v : Placed) (vs : List Placed) → from_lower lo v.version.key ≡ true → first_from lo (v ∷ vs) ≡ 0
unfolding first_from pick
first-here lo v vs e = rw e

in-lower : (lo hi : Bound) (z : Placed) → from_lower lo z.version.key ≡ true → under hi z ≡ within lo hi z
unfolding within
in-lower lo hi z e = rw e

not-in-lower : (lo hi : Bound) (z : Placed) → from_lower lo z.version.key ≡ false → within lo hi z ≡ false
unfolding within
not-in-lower lo hi z e = rw e

pub trimmed : (lo hi : Bound) (vs : List Placed) → Rises vs → take (end_to lo hi vs - first_from lo vs) (drop (first_from lo vs) vs) ≡ only (within lo hi) vs
trimmed lo hi [] r = unfold first_from only in take-nil (end_to lo hi [] - 0)
trimmed lo hi (x ∷ more) (link f g) = go (from_lower lo x.version.key) refl (three 0 (last_to hi more)) (trimmed lo hi more g)
  where
    go : (b : Bool) → from_lower lo x.version.key ≡ b → Three 0 (last_to hi more) → take (end_to lo hi more - first_from lo more) (drop (first_from lo more) more) ≡ only (within lo hi) more
        → take (end_to lo hi (x ∷ more) - first_from lo (x ∷ more)) (drop (first_from lo (x ∷ more)) (x ∷ more)) ≡ only (within lo hi) (x ∷ more)
    go true e t ih =
        let m : end_to lo hi (x ∷ more) - 0 ≡ last_to hi (x ∷ more) = omega (arith, end_is lo hi (x ∷ more), first-here lo x more e) in
        ap (λ j. take (end_to lo hi (x ∷ more) - j) (drop j (x ∷ more))) (first-here lo x more e) ∙ ap (λ j. take j (x ∷ more)) m
        ∙ up_to hi (x ∷ more) (link f g)
        ∙ only_same (under hi) (within lo hi) (x ∷ more) (also (in-lower lo hi x e) (every _ _ _ (λ z q. in-lower lo hi z (lower-on lo _ _ (upto x z q) e)) f))
    go false e (lt h) ih =
        let m : end_to lo hi (x ∷ more) - first_from lo (x ∷ more) ≡ end_to lo hi more - first_from lo more
        = omega (arith, end_is lo hi (x ∷ more), end_is lo hi more, first_on lo x more e, last_more hi x more h) in
        ap (λ j. take j (drop (first_from lo (x ∷ more)) (x ∷ more))) m ∙ ap (λ j. take (end_to lo hi more - first_from lo more) (drop j (x ∷ more))) (first_on lo x more e)
        ∙ ih ∙ sym (only_no (within lo hi) x more (not-in-lower lo hi x e))
    go false e (eq h) ih =
        let m : end_to lo hi (x ∷ more) - first_from lo (x ∷ more) ≡ end_to lo hi more - first_from lo more
        = omega (arith, end_is lo hi (x ∷ more), end_is lo hi more, first_on lo x more e, last_some hi x more (sym h)) in
        ap (λ j. take j (drop (first_from lo (x ∷ more)) (x ∷ more))) m ∙ ap (λ j. take (end_to lo hi more - first_from lo more) (drop j (x ∷ more))) (first_on lo x more e)
        ∙ ih ∙ sym (only_no (within lo hi) x more (not-in-lower lo hi x e))
    go false e (gt h) ih = absurd (omega arith)

pub first-in : (lo : Bound) (vs : List Placed) → first_from lo vs ≤ length vs
first-in lo [] = unfold first_from in omega arith
first-in lo (v ∷ vs) = go (from_lower lo v.version.key) refl (first-in lo vs)
  where
    go : (b : Bool) → from_lower lo v.version.key ≡ b → first_from lo vs ≤ length vs → first_from lo (v ∷ vs) ≤ suc (length vs)
    go true e ih = omega (arith, first-here lo v vs e)
    go false e ih = omega (arith, first_on lo v vs e)

pub last-in : (hi : Bound) (vs : List Placed) → last_to hi vs ≤ length vs
last-in hi [] = unfold last_to in omega arith
last-in hi (v ∷ vs) = go (three 0 (last_to hi vs)) (last-in hi vs)
  where
    go : Three 0 (last_to hi vs) → last_to hi vs ≤ length vs → last_to hi (v ∷ vs) ≤ suc (length vs)
    go (lt h) ih = omega (arith, last_more hi v vs h)
    go (eq h) ih = omega (arith, last_some hi v vs (sym h))
    go (gt h) ih = absurd (omega arith)
