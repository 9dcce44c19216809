-- Keys compare byte by byte: what a place decides that both have passed, and versions by how their keys compare.
use Prim.Native.Nat.{ℕ, ◌≤◌, ◌<◌}
use mathlib.Core.Path.{◌≡◌, refl, sym}
use mathlib.Core.List.{List}
use native.Mathlib.Omega.{arith}
use borrow.Author.Tests.{lt-ltb, le-ltb}
use mathlib.Core.Bool.{true}
use Rattle.std.specs.declared.cmp.Ordering.{Ordering}
use Rattle.list.specs.Pick.{pick}
use lib.ListN.{get_or, length, drop, drop_of_length-le}
use lib.Seq.{drop-cons}
use Rattle.list.proofs.Tests.{never}
use Rattle.list.specs.Order.{compare, versions, then_by, downward, is_less, is_equal}
use Rattle.std.specs.declared.cmp.Ordering.TheVariants.{Less, Equal, Greater}

module _ (a b : List ℕ) (i : ℕ) where
  pub less-here : i < length a → i < length b → get_or a i 0 < get_or b i 0 → compare (drop i a) (drop i b) ≡ Less
  unfolding compare pick
  less-here p q h = rw (drop-cons a i 0, drop-cons b i 0) (simp (lt-ltb _ _ h))

  pub greater-here : i < length a → i < length b → get_or b i 0 < get_or a i 0 → compare (drop i a) (drop i b) ≡ Greater
  unfolding compare pick
  greater-here p q h =
      let k : get_or b i 0 ≤ get_or a i 0 = omega arith in
      rw (drop-cons a i 0, drop-cons b i 0) (simp (lt-ltb _ _ h, le-ltb _ _ k))

  pub second-ends : i < length a → length b ≤ i → compare (drop i a) (drop i b) ≡ Greater
  unfolding compare pick
  second-ends p q = rw (drop-cons a i 0, drop_of_length-le b q)

  pub first_ends : length a ≤ i → i < length b → compare (drop i a) (drop i b) ≡ Less
  unfolding compare pick
  first_ends p q = rw (drop_of_length-le a p, drop-cons b i 0)

  pub both_end : length a ≤ i → length b ≤ i → compare (drop i a) (drop i b) ≡ Equal
  unfolding compare pick
  both_end p q = rw (drop_of_length-le a p, drop_of_length-le b q)

-- versions, by how their keys compare
module _ (a : List ℕ) (m : ℕ) (b : List ℕ) (n : ℕ) where
  pub key-less : compare a b ≡ Less → versions a m b n ≡ Less
  unfolding versions then_by
  key-less e = rw e

  pub key-greater : compare a b ≡ Greater → versions a m b n ≡ Greater
  unfolding versions then_by
  key-greater e = rw e

  pub newer : compare a b ≡ Equal → n < m → versions a m b n ≡ Less
  unfolding versions then_by downward pick
  newer e h = rw e (simp (lt-ltb _ _ h))

  pub older : compare a b ≡ Equal → m < n → versions a m b n ≡ Greater
  unfolding versions then_by downward pick
  older e h =
      let k : m ≤ n = omega arith in
      rw e (simp (le-ltb _ _ k, lt-ltb _ _ h))

  pub same : compare a b ≡ Equal → m ≡ n → versions a m b n ≡ Equal
  unfolding versions then_by downward pick
  same e h =
      let k : m ≤ n = omega arith in
      let l : n ≤ m = omega arith in
      rw e (simp (le-ltb _ _ k, le-ltb _ _ l))

pub equal_is : (x : Ordering) → is_equal x ≡ true → x ≡ Equal
unfolding is_equal
equal_is Less h = never (sym h)
equal_is Equal h = refl
equal_is Greater h = never (sym h)

pub less-is : (x : Ordering) → is_less x ≡ true → x ≡ Less
unfolding is_less
less-is Less h = refl
less-is Equal h = never (sym h)
less-is Greater h = never (sym h)

pub is-less : (x : Ordering) → x ≡ Less → is_less x ≡ true
unfolding is_less
is-less x e = rw e
