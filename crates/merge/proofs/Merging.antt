-- How the code ranks two records is how the definitions order them.
use mathlib.Core.Path.{refl, sym, ap, ◌≡◌, ◌∙◌}
use Rattle.std.specs.Cmp.{nat_cmp_is}
use Rattle.std.specs.Ordering.{is_eq, is_lt, is_gt}
use Rattle.std.specs.declared.cmp.Ordering.{Ordering}
use Rattle.std.specs.declared.cmp.Ordering.TheVariants.{Less, Equal, Greater}
use Rattle.list.specs.Order.{compare, is_equal}
use Rattle.list.proofs.Strict.{compare-back, compare_same}
use Rattle.merge.specs.Placed.{Placed, before, same_key}
use Rattle.merge.specs.Plain.{sooner}
use Rattle.merge.specs.Private.{order}
use Rattle.merge.specs.declared.ends.End.{End}
use Rattle.merge.specs.declared.ends.End.TheVariants.{Front, Back}
use Rattle.merge.proofs.Order.{Before, by_key, by-seqno, by-list, Stand, sooner-one, no-telling, later-one, stand, before-true, before-false, untold, same-flip}

is-equal : (o : Ordering) → is_eq o ≡ is_equal o
unfolding is_equal
is-equal Less = refl
is-equal Equal = refl
is-equal Greater = refl

pub equal-told : (x y : Placed) (o : Ordering) → o ≡ compare y.version.key x.version.key → is_eq o ≡ same_key x y
unfolding same_key
equal-told x y o told = is-equal o ∙ ap is_equal told ∙ same-flip y x

order-less : (x y : Placed) → Before x y → order x y ≡ Less
order-less x y (by_key e) = rw e
order-less x y (by-seqno e h) = rw (compare_same _ _ e, ← nat_cmp_is y.version.seqno x.version.seqno Less h)
order-less x y (by-list e d h) = rw (compare_same _ _ e, ← nat_cmp_is y.version.seqno x.version.seqno Equal (sym d), ← nat_cmp_is x.list y.list Less h)

order-greater : (x y : Placed) → Before y x → order x y ≡ Greater
order-greater x y (by_key e) = rw (compare-back _ _ e)
order-greater x y (by-seqno e h) = rw (compare_same _ _ (sym e), ← nat_cmp_is y.version.seqno x.version.seqno Greater h)
order-greater x y (by-list e d h) = rw (compare_same _ _ (sym e), ← nat_cmp_is y.version.seqno x.version.seqno Equal d, ← nat_cmp_is x.list y.list Greater h)

order_is : (x y : Placed) → (is_lt (order x y) ≡ before x y) × (is_gt (order x y) ≡ before y x)
order_is x y = go (stand x y)
  where
    go : Stand x y → (is_lt (order x y) ≡ before x y) × (is_gt (order x y) ≡ before y x)
    go (sooner-one b) = rw (order-less x y b) (sym (before-true x y b), sym (before-false y x b))
    go (no-telling e d l) =
        rw (compare_same _ _ e, ← nat_cmp_is y.version.seqno x.version.seqno Equal (sym d), ← nat_cmp_is x.list y.list Equal l)
        (sym (untold x y e d l), sym (untold y x (sym e) (sym d) (sym l)))
    go (later-one b) = rw (order-greater x y b) (sym (before-false x y b), sym (before-true y x b))

-- the ends differ in which outcome is sooner
module _ (e : End) (x y : Placed) (o : Ordering) (told : o ≡ order y x) where
  pub rank-front : e ≡ Front → is_lt o ≡ sooner e y x
  unfolding sooner
  rank-front q = rw (q, told) (order_is y x).0

  pub rank-back : e ≡ Back → is_gt o ≡ sooner e y x
  unfolding sooner
  rank-back q = rw (q, told) (order_is y x).1
