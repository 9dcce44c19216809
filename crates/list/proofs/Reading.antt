-- What reading a record answers under the tests that the code makes: each test settles one stage of the definition.
use Rattle.std.specs.Prelude.{Ok, Err, Result}
use Prim.Native.Nat.{ℕ, ◌+◌, ◌≤◌, ◌<◌}
use mathlib.Core.Path.{◌≡◌, refl, ◌∙◌}
use mathlib.Core.List.{List}
use mathlib.Core.Bool.{Bool, true, false, ◌&&◌}
use native.Mathlib.Omega.{arith}
use lib.Dec.{eqb}
use borrow.Author.Tests.{le-leb, lt-leb, leb-false, eq-eqb, ne_eqb}
use lib.ListN.{get_or, length}
use Rattle.list.specs.Pick.{pick, on_result}
use Rattle.list.specs.Field.{le_at}
use Rattle.list.specs.ValueType.{type_of}
use Rattle.list.specs.Record.{has, field, value_from, rest_at, fields_at, read_at, whole_at}
use Rattle.list.specs.declared.refusal.Refusal.TheVariants.{Truncated, EmptyKey}
use Rattle.list.specs.declared.value_type.ValueType.{ValueType}
use Rattle.list.specs.Record.{Read}
use Rattle.list.proofs.Picks.{by-pick}
use Rattle.list.proofs.Numbers.{one_byte}
use Rattle.list.specs.declared.refusal.Refusal.{Refusal}

-- n bytes from a place
module _ (s : List ℕ) (at n : ℕ) (on : ℕ → Read) where
  pub has_short : length s < at + n → Err Truncated ≡ has s at n on
  unfolding has pick
  has_short h = simp (lt-leb _ _ h)

  pub has_there : at + n ≤ length s → on (at + n) ≡ has s at n on
  unfolding has pick
  has_there h = simp (le-leb _ _ h)

  -- where the list ends behind them at the latest, they need not be there
  has-later : Err Truncated ≡ on (at + n) → Err Truncated ≡ has s at n on
  unfolding has
  has-later e = by-pick (λ (r : Read). Err Truncated ≡ r) _ _ _ (λ _. e) (λ _. refl)

-- the value's length and the value
module _ (s : List ℕ) (key k seqno : ℕ) (kind : ValueType) (at : ℕ) where
  pub value-no-size : length s < at + 4 → Err Truncated ≡ value_from s key k seqno kind at
  unfolding value_from field
  value-no-size h = has_short s at 4 _ h

  module _ (w : ℕ) (g : w ≡ le_at s at 4) where
    pub value-cut : length s < at + 4 + w → Err Truncated ≡ value_from s key k seqno kind at
    unfolding value_from field
    value-cut h = has-later s at 4 _ (has_short s (at + 4) (le_at s at 4) _ (rw (← g) h))

    pub value-whole : at + 4 + w ≤ length s
        → Ok (record { key = key; klen = k; seqno = seqno; kind = kind; value = at + 4; vlen = w; next = at + 4 + w }) ≡ value_from s key k seqno kind at
    unfolding value_from field
    value-whole h =
        let there : at + 4 + le_at s at 4 ≤ length s = rw (← g) h in
        rw g (has_there s (at + 4) (le_at s at 4) _ there ∙ has_there s at 4 _ (omega arith))

-- what stands behind a key
module _ (s : List ℕ) (key k q : ℕ) where
  pub rest-short : length s < q + 8 + 1 → Err Truncated ≡ rest_at s key k q
  unfolding rest_at field
  rest-short h = has-later s q 8 _ (has_short s (q + 8) 1 _ h)

  module _ (t : Result ValueType Refusal) (e : t ≡ type_of (get_or s (q + 8) 0)) (h : q + 8 + 1 ≤ length s) where
    by-tag : on_result t (λ kind. value_from s key k (le_at s q 8) kind (q + 8 + 1)) Err ≡ rest_at s key k q
    unfolding rest_at field
    by-tag = rw (e, ← one_byte s (q + 8)) (has_there s (q + 8) 1 _ h ∙ has_there s q 8 _ (omega arith))

    pub rest-untagged : (why : Refusal) → t ≡ Err why → Err why ≡ rest_at s key k q
    unfolding on_result
    rest-untagged why f = rw f at by-tag

    pub rest-value : (kind : ValueType) → t ≡ Ok kind → (v : ℕ) → v ≡ le_at s q 8 → (r : Read) → r ≡ value_from s key k v kind (q + 8 + 1) → r ≡ rest_at s key k q
    unfolding on_result
    rest-value kind f v g r i = i ∙ rw g (rw f at by-tag)

-- without a key the list ends in what stands behind it, too
key-there : (s : List ℕ) (key k : ℕ) → has s key k (rest_at s key k) ≡ rest_at s key k (key + k)
unfolding has
key-there s key k =
    by-pick (λ r. r ≡ rest_at s key k (key + k)) _ _ _ (λ _. refl)
    (λ f. let h = leb-false (key + k) (length s) f in rest-short s key k (key + k) (omega arith))

-- a record
module _ (judged : Bool) (s : List ℕ) (at : ℕ) where
  pub fields-short : length s < at + 2 → Err Truncated ≡ fields_at judged s at
  unfolding fields_at field
  fields-short h = has_short s at 2 _ h

  pub by_length : (k : ℕ) → k ≡ le_at s at 2 → at + 2 ≤ length s
      → pick (judged && eqb k 0) (Err EmptyKey) (rest_at s (at + 2) k (at + 2 + k)) ≡ fields_at judged s at
  unfolding fields_at field
  by_length k e h = rw (e, ← key-there s (at + 2) (le_at s at 2)) (has_there s at 2 _ h)

module _ (s : List ℕ) (at : ℕ) where
  pub read_short : length s < at + 2 → Err Truncated ≡ read_at s at
  unfolding read_at
  read_short h = fields-short true s at h

  pub whole-short : length s < at + 2 → Err Truncated ≡ whole_at s at
  unfolding whole_at
  whole-short h = fields-short false s at h

  module _ (k : ℕ) (e : k ≡ le_at s at 2) (h : at + 2 ≤ length s) where
    pub read-unkeyed : k ≡ 0 → Err EmptyKey ≡ read_at s at
    unfolding read_at pick
    read-unkeyed z = rw (eq-eqb _ _ z) at (by_length true s at k e h)

    pub read-rest : (k ≡ 0 → ⊥) → (r : Read) → r ≡ rest_at s (at + 2) k (at + 2 + k) → r ≡ read_at s at
    unfolding read_at pick
    read-rest n r f = f ∙ (rw (ne_eqb _ _ n) at (by_length true s at k e h))

    pub whole-rest : (r : Read) → r ≡ rest_at s (at + 2) k (at + 2 + k) → r ≡ whole_at s at
    unfolding whole_at pick
    whole-rest r f = f ∙ by_length false s at k e h
