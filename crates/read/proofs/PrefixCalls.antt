-- The bounds that a call of `prefix_to_range` leaves hold a key exactly when the key starts with the prefix, because what it writes is the upper bound, and it tells of none where none is needed.
use native.Mathlib.Omega.{arith}
use mathlib.Core.List.{List, ◌∷◌, []}
use mathlib.Core.Bool.{Bool, true, false, ◌&&◌}
use lib.Dec.{ltb, eqb}
use borrow.Author.Tests.{ltb-false, eqb-true, eqb-false}
use lib.ListN.{length, take}
use lib.Seq.{sets, length-take-le}
use mathlib.Core.Path.{refl, sym, ap, subst, ◌≡◌, ◌∙◌}
use Prim.Native.Nat.{ℕ, suc, ◌≤◌, ◌<◌}
use Rattle.list.specs.Limits.{key_limit}
use Rattle.list.specs.Pick.{pick}
use Rattle.list.specs.Version.{Bytes}
use Rattle.list.specs.declared.refusal.Refusal.TheVariants.{LongKey, NoRoom}
use Rattle.list.proofs.Buffers.{first-is}
use Rattle.read.specs.Bounds.{from_lower, to_upper}
use Rattle.read.specs.Prefix.{Prefixed, cut_at, prefixed, raised, starts_with, upper_bytes, upper_written}
use Rattle.std.specs.Prelude.{Some, None, Ok, Err}
use Rattle.std.specs.declared.ops.Bound.TheVariants.{Included, Excluded, Unbounded}
use Rattle.list.proofs.Strict.{none-before-empty}
use Rattle.read.proofs.Prefix.{below-upper, cut_in, without-upper}
use Rattle.read.proofs.range.prefix_to_range.Reads as reads

-- what an answer tells of the prefix
module _ (p : List ℕ) (room : ℕ) where
  Tells : Prefixed → Type 0
  Tells (Ok (Some n)) = (n ≡ cut_at p) × (0 < n) × (n ≤ room)
  Tells (Ok None) = cut_at p ≡ 0
  Tells (Err why) = Unit {0}

  tells : Tells (prefixed p room)
  unfolding prefixed pick Tells
  tells = go (ltb key_limit (length p)) (eqb (cut_at p) 0) (ltb room (cut_at p)) refl refl
    where
      go : (u v w : Bool) → eqb (cut_at p) 0 ≡ v → ltb room (cut_at p) ≡ w → Tells (pick u (Err LongKey) (pick v (Ok None) (pick w (Err NoRoom) (Ok (Some (cut_at p))))))
      go true v w e f = tt
      go false true w e f = eqb-true (cut_at p) 0 e
      go false false true e f = tt
      go false false false e f = (refl, omega (arith, eqb-false (cut_at p) 0 e), ltb-false room (cut_at p) f)

length-raised : (l : List ℕ) → length (raised l) ≡ length l
unfolding raised
length-raised [] = refl
length-raised (x ∷ []) = refl
length-raised (x ∷ y ∷ l) = ap suc (length-raised (y ∷ l))

length-upper : (p : List ℕ) → length (upper_bytes p) ≡ cut_at p
unfolding upper_bytes
length-upper p = length-raised (take (cut_at p) p) ∙ length-take-le (cut_at p) p (cut_in p)

module _ (κs : _) (a : _) (r : _) (x : _) (call : reads.Post κs a r x) where
  told : (q : Prefixed) → r ≡ q → Tells a.0.now (length a.1.0.now) q
  told q e = subst (Tells a.0.now (length a.1.0.now)) (sym call.0 ∙ e) (tells a.0.now (length a.1.0.now))

  -- with an upper bound: from the prefix on, and below the first n bytes of the buffer as the call leaves it
  pub bounded-holds : (n : ℕ) → r ≡ Ok (Some n) → (k : List ℕ) → Bytes k → (from_lower (Included a.0.now) k && to_upper (Excluded (take n x.1.0.now)) k) ≡ starts_with a.0.now k
  unfolding Tells upper_written
  bounded-holds n e k b =
      let z = told (Ok (Some n)) e in
      let l = length-upper a.0.now in
      let w : x.1.0.now ≡ sets a.1.0.now 0 (upper_bytes a.0.now) = call.1 ∙ ap (λ q. upper_written q a.0.now a.1.0.now) (sym call.0 ∙ e) in
      rw (w, first-is a.1.0.now (upper_bytes a.0.now) (omega arith) n (omega arith)) (below-upper a.0.now k b (omega arith))

  -- without one: from the prefix on
  pub unbounded-holds : r ≡ Ok None → (k : List ℕ) → Bytes k → (from_lower (Included a.0.now) k && to_upper Unbounded k) ≡ starts_with a.0.now k
  unfolding Tells
  unbounded-holds e k b = without-upper a.0.now k b (told (Ok None) e)

  -- the empty prefix has no upper bound, and its lower bound is as an absent one
  pub empty-unbounded : a.0.now ≡ [] → (r ≡ Ok None) × ((k : List ℕ) → from_lower (Included a.0.now) k ≡ from_lower Unbounded k)
  unfolding prefixed pick cut_at key_limit from_lower
  empty-unbounded e = (call.0 ∙ rw e, λ k. rw (e, none-before-empty k))
