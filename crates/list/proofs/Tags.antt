-- A type and its tag tell each other: the four tags are different numbers.
use Rattle.list.specs.declared.refusal.Refusal.TheVariants.{BadTag}
use Rattle.std.specs.Prelude.{Ok, Err, Result}
use Prim.Native.Nat.{ℕ, ◌<◌}
use mathlib.Core.Path.{◌≡◌, refl, subst}
use native.Mathlib.Omega.{arith}
use borrow.Author.Tests.{eq-eqb, ne_eqb, eqb-true}
use Rattle.list.specs.Pick.{pick}
use Rattle.list.specs.ValueType.{tag_of, type_of, is_tombstone}
use Rattle.std.proofs.Common.{false}
use Rattle.list.proofs.Picks.{by-pick}
use Rattle.list.specs.declared.value_type.ValueType.{ValueType}
use Rattle.list.specs.declared.value_type.ValueType.TheVariants.{Value, Tombstone, WeakTombstone, Indirection}
use Rattle.list.specs.declared.refusal.Refusal.{Refusal}

-- what each test of a tag says
module _ (n : ℕ) where
  pub tag-0 : n ≡ 0 → Ok Value ≡ type_of n
  unfolding type_of pick
  tag-0 e = simp (eq-eqb _ _ e)

  module _ (a : n ≡ 0 → ⊥) where
    pub tag-1 : n ≡ 1 → Ok Tombstone ≡ type_of n
    unfolding type_of pick
    tag-1 e = simp (ne_eqb _ _ a, eq-eqb _ _ e)

    module _ (b : n ≡ 1 → ⊥) where
      pub tag-2 : n ≡ 2 → Ok WeakTombstone ≡ type_of n
      unfolding type_of pick
      tag-2 e = simp (ne_eqb _ _ a, ne_eqb _ _ b, eq-eqb _ _ e)

      module _ (c : n ≡ 2 → ⊥) where
        pub tag-4 : n ≡ 4 → Ok Indirection ≡ type_of n
        unfolding type_of pick
        tag-4 e = simp (ne_eqb _ _ a, ne_eqb _ _ b, ne_eqb _ _ c, eq-eqb _ _ e)

        pub tag-none : (n ≡ 4 → ⊥) → (Err BadTag) ≡ type_of n
        unfolding type_of pick
        tag-none d = simp (ne_eqb _ _ a, ne_eqb _ _ b, ne_eqb _ _ c, ne_eqb _ _ d)

pub type-of-tag : (t : ValueType) → type_of (tag_of t) ≡ Ok t
unfolding type_of tag_of pick
type-of-tag Value = refl
type-of-tag Tombstone = refl
type-of-tag WeakTombstone = refl
type-of-tag Indirection = refl

pub tag-byte : (t : ValueType) → tag_of t < 256
unfolding tag_of
tag-byte Value = omega arith
tag-byte Tombstone = omega arith
tag-byte WeakTombstone = omega arith
tag-byte Indirection = omega arith

pub no-tombstone : (t : ValueType) → (t ≡ Tombstone → ⊥) → (t ≡ WeakTombstone → ⊥) → false ≡ is_tombstone t
unfolding is_tombstone
no-tombstone Value f g = refl
no-tombstone Tombstone f g = absurd (f refl)
no-tombstone WeakTombstone f g = absurd (g refl)
no-tombstone Indirection f g = refl

-- what a tag that has a type is
data Told (n : ℕ) : Result ValueType Refusal → Type 0 where
  told : {t : ValueType} → n ≡ tag_of t → Told n (Ok t)
  untold : Told n (Err BadTag)

tells : (n : ℕ) → Told n (type_of n)
unfolding type_of tag_of
tells n =
    by-pick (Told n) _ _ _ (λ e. told (eqb-true _ _ e))
    (λ _. by-pick (Told n) _ _ _ (λ e. told (eqb-true _ _ e))
    (λ _. by-pick (Told n) _ _ _ (λ e. told (eqb-true _ _ e))
    (λ _. by-pick (Told n) _ _ _ (λ e. told (eqb-true _ _ e)) (λ _. untold))))

was : (n : ℕ) (t : ValueType) → Told n (Ok t) → n ≡ tag_of t
was n t (told e) = e

pub tag-of-type : (n : ℕ) (t : ValueType) → type_of n ≡ Ok t → n ≡ tag_of t
tag-of-type n t h = was n t (subst (Told n) h (tells n))
