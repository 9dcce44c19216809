-- What the tests of a read tell: whether a version is of the key, by how the keys compare, and whether it is below the seqno.
use Rattle.std.proofs.lemmas.Bool.{and_parts}
use Prim.Native.Nat.{ℕ, ◌≤◌, ◌<◌}
use mathlib.Core.Path.{◌≡◌}
use mathlib.Core.List.{List}
use mathlib.Core.Bool.{true, false, and-false}
use borrow.Author.Tests.{lt-ltb, le-ltb, ltb-true}
use Rattle.list.specs.Order.{compare, is_equal}
use Rattle.list.specs.Version.{Version}
use Rattle.list.specs.PointRead.{of_key, is_below}
use Rattle.std.specs.declared.cmp.Ordering.TheVariants.{Less}
use Rattle.list.proofs.Strict.{compare-back, agree, told-one}

module _ (k : List ℕ) (v : Version) where
  pub is_key : k ≡ v.key → of_key k v ≡ true
  unfolding of_key
  is_key e = agree k v.key e

  pub above-key : compare k v.key ≡ Less → of_key k v ≡ false
  unfolding of_key is_equal
  above-key e = rw e

  pub under-key : compare v.key k ≡ Less → of_key k v ≡ false
  unfolding of_key is_equal
  under-key e = rw (compare-back _ _ e)

  pub the-key : of_key k v ≡ true → k ≡ v.key
  unfolding of_key
  the-key p = told-one k v.key p

module _ (k : List ℕ) (n : ℕ) (v : Version) where
  pub is_below_lem : k ≡ v.key → v.seqno < n → is_below k n v ≡ true
  unfolding is_below
  is_below_lem e h = simp (is_key k v e, lt-ltb _ _ h)

  pub other-below : of_key k v ≡ false → is_below k n v ≡ false
  unfolding is_below
  other-below e = rw e

  pub high-below : n ≤ v.seqno → is_below k n v ≡ false
  unfolding is_below
  high-below h = simp (le-ltb _ _ h, and-false)

  pub below-is : is_below k n v ≡ true → (k ≡ v.key) × (v.seqno < n)
  unfolding is_below
  below-is p = let b = and_parts _ _ p in (the-key k v b.0, ltb-true _ _ b.1)
