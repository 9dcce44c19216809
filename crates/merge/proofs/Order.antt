-- The order of placed versions is strict, and decides between any two that stand in different lists: it is the order of versions, then of numbers.
use Prim.Native.Nat.{◌<◌}
use mathlib.Core.Path.{◌≡◌, refl, sym, ◌∙◌}
use mathlib.Core.Bool.{true, false, Bool}
use native.Mathlib.Omega.{arith}
use borrow.Author.Tests.{lt-ltb, le-ltb}
use lib.Dec.{ltb}
use Rattle.list.proofs.Order.{key-less, key-greater, newer, older, same}
use Rattle.list.proofs.Neighbours as neighbours
use Rattle.list.specs.Order.{compare, is_equal, is_less}
use Rattle.list.specs.Pick.{pick}
use Rattle.list.specs.Version.{ordered}
use Rattle.std.specs.declared.cmp.Ordering.{Ordering}
use Rattle.std.specs.declared.cmp.Ordering.TheVariants.{Equal, Greater, Less}
use Rattle.list.proofs.Strict.{Three, agree, compare-back, compare-equal, compare-flip, compare_same, compare-trans, eq, gt, lt, not-below-itself, three, told-one}
use Rattle.merge.specs.Placed.{Placed, before, same_key}
use Rattle.list.proofs.Tests.{never}

-- one version before another, by what decides
pub data Before (x y : Placed) : Type 0 where
  by_key : compare x.version.key y.version.key ≡ Less → Before x y
  by-seqno : x.version.key ≡ y.version.key → y.version.seqno < x.version.seqno → Before x y
  by-list : x.version.key ≡ y.version.key → x.version.seqno ≡ y.version.seqno → x.list < y.list → Before x y

-- what each order of the versions means
module _ (x y : Placed) where
  pub by_less : ordered x.version y.version ≡ Less → before x y ≡ true
  unfolding before is_equal is_less pick
  by_less e = rw e

  pub by-greater : ordered x.version y.version ≡ Greater → before x y ≡ false
  unfolding before is_equal is_less pick
  by-greater e = rw e

  pub by_number : ordered x.version y.version ≡ Equal → before x y ≡ ltb x.list y.list
  unfolding before is_equal pick
  by_number e = rw e

  ordered_same : x.version.key ≡ y.version.key → x.version.seqno ≡ y.version.seqno → ordered x.version y.version ≡ Equal
  unfolding ordered
  ordered_same e f = same _ _ _ _ (compare_same _ _ e) f

pub before-true : (x y : Placed) → Before x y → before x y ≡ true
unfolding ordered
before-true x y (by_key e) = by_less x y (key-less _ _ _ _ e)
before-true x y (by-seqno e h) = by_less x y (newer _ _ _ _ (compare_same _ _ e) h)
before-true x y (by-list e f h) = by_number x y (ordered_same x y e f) ∙ lt-ltb _ _ h

-- how two versions stand
pub data Stand (x y : Placed) : Type 0 where
  sooner-one : Before x y → Stand x y
  no-telling : x.version.key ≡ y.version.key → x.version.seqno ≡ y.version.seqno → x.list ≡ y.list → Stand x y
  later-one : Before y x → Stand x y

pub stand : (x y : Placed) → Stand x y
stand x y = go (compare x.version.key y.version.key) refl (three x.version.seqno y.version.seqno) (three x.list y.list)
  where
    go : (o : Ordering) → compare x.version.key y.version.key ≡ o → Three x.version.seqno y.version.seqno → Three x.list y.list → Stand x y
    go Less e s l = sooner-one (by_key e)
    go Greater e s l = later-one (by_key (compare-flip _ _ e))
    go Equal e (lt h) l = later-one (by-seqno (sym (compare-equal _ _ e)) h)
    go Equal e (gt h) l = sooner-one (by-seqno (compare-equal _ _ e) h)
    go Equal e (eq h) (lt k) = sooner-one (by-list (compare-equal _ _ e) h k)
    go Equal e (eq h) (eq k) = no-telling (compare-equal _ _ e) h k
    go Equal e (eq h) (gt k) = later-one (by-list (sym (compare-equal _ _ e)) (sym h) k)

pub before-trans : (x y z : Placed) → Before x y → Before y z → Before x z
before-trans x y z (by_key e) (by_key f) = by_key (compare-trans _ _ _ e f)
before-trans x y z (by_key e) (by-seqno f h) = by_key (rw f at e)
before-trans x y z (by_key e) (by-list f g h) = by_key (rw f at e)
before-trans x y z (by-seqno e h) (by_key f) = by_key (rw e f)
before-trans x y z (by-seqno e h) (by-seqno f k) = by-seqno (e ∙ f) (omega arith)
before-trans x y z (by-seqno e h) (by-list f g k) = by-seqno (e ∙ f) (omega arith)
before-trans x y z (by-list e d h) (by_key f) = by_key (rw e f)
before-trans x y z (by-list e d h) (by-seqno f k) = by-seqno (e ∙ f) (omega arith)
before-trans x y z (by-list e d h) (by-list f g k) = by-list (e ∙ f) (d ∙ g) (omega arith)

before-itself : {A : Type 0} (x : Placed) → Before x x → A
before-itself x (by_key e) = not-below-itself _ _ refl e
before-itself x (by-seqno e h) = absurd (omega arith)
before-itself x (by-list e d h) = absurd (omega arith)

pub asym : {A : Type 0} (x y : Placed) → Before x y → Before y x → A
asym x y p q = before-itself x (before-trans x y x p q)

pub before-false : (x y : Placed) → Before y x → before x y ≡ false
unfolding ordered
before-false x y (by_key e) = by-greater x y (key-greater _ _ _ _ (compare-back _ _ e))
before-false x y (by-seqno e h) = by-greater x y (older _ _ _ _ (compare_same _ _ (sym e)) h)
before-false x y (by-list e d h) = by_number x y (ordered_same x y (sym e) (sym d)) ∙ le-ltb x.list y.list (omega arith)

pub untold : (x y : Placed) → x.version.key ≡ y.version.key → x.version.seqno ≡ y.version.seqno → x.list ≡ y.list → before x y ≡ false
untold x y e d l = by_number x y (ordered_same x y e d) ∙ le-ltb x.list y.list (omega arith)

pub told : (x y : Placed) → before x y ≡ true → Before x y
told x y p = go (stand x y)
  where
    go : Stand x y → Before x y
    go (sooner-one b) = b
    go (no-telling e f g) = never (sym p ∙ untold x y e f g)
    go (later-one b) = never (sym p ∙ before-false x y b)

-- two that stand in different lists: one is before the other
pub other_way : (x y : Placed) → (x.list ≡ y.list → ⊥) → before x y ≡ false → Before y x
other_way x y d p = go (stand x y)
  where
    go : Stand x y → Before y x
    go (sooner-one b) = never (sym (before-true x y b) ∙ p)
    go (no-telling e f g) = absurd (d g)
    go (later-one b) = b

-- what stands between two versions of a key is of that key
pub sandwich : (u v w : Placed) → Before u v → Before v w → u.version.key ≡ w.version.key → u.version.key ≡ v.version.key
sandwich u v w (by_key e) (by_key f) q = not-below-itself _ _ q (compare-trans _ _ _ e f)
sandwich u v w (by_key e) (by-seqno f h) q = not-below-itself _ _ (q ∙ sym f) e
sandwich u v w (by_key e) (by-list f g h) q = not-below-itself _ _ (q ∙ sym f) e
sandwich u v w (by-seqno e h) p q = e
sandwich u v w (by-list e g h) p q = e

pub same-key-true : (x y : Placed) → same_key x y ≡ true → x.version.key ≡ y.version.key
unfolding same_key
same-key-true x y p = told-one _ _ p

pub key-same : (x y : Placed) → x.version.key ≡ y.version.key → same_key x y ≡ true
unfolding same_key
key-same x y e = agree _ _ e

pub same-flip : (x y : Placed) → same_key x y ≡ same_key y x
same-flip x y = go (same_key x y) (same_key y x) refl refl
  where
    go : (p q : Bool) → same_key x y ≡ p → same_key y x ≡ q → same_key x y ≡ same_key y x
    go true q e f = e ∙ sym (key-same y x (sym (same-key-true x y e)))
    go false true e f = never (sym (key-same x y (sym (same-key-true y x f))) ∙ e)
    go false false e f = e ∙ sym f

-- strict order of versions, whatever lists they stand in
pub ordered-told : (x y : Placed) → ordered x.version y.version ≡ Less → Before x y
ordered-told x y p = go (neighbours.next x.version y.version p)
  where
    go : neighbours.Next x.version y.version → Before x y
    go (neighbours.same e h) = by-seqno e h
    go (neighbours.other e) = by_key e
