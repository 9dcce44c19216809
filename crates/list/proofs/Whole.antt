-- A record that reads whole lies inside its list, because each test for room stands before the answer.
use Rattle.std.specs.Prelude.{Ok, Err, Result}
use Prim.Native.Nat.{ℕ, ◌+◌, ◌≤◌, ◌<◌}
use mathlib.Core.Path.{◌≡◌, refl, sym, ap, subst}
use mathlib.Core.List.{List}
use native.Mathlib.Omega.{arith}
use borrow.Author.Tests.{leb-true, eqb-false}
use lib.ListN.{length, get_or}
use Rattle.list.specs.Limits.{record_size}
use Rattle.list.specs.Field.{le_at}
use Rattle.list.specs.Pick.{pick, on_result}
use Rattle.list.specs.ValueType.{type_of}
use Rattle.list.specs.Record.{has, field, value_from, rest_at, fields_at, read_at, whole_at}
use Rattle.list.specs.Private.{record_at}
use Rattle.list.proofs.Picks.{by-pick}
use Rattle.list.proofs.Numbers.{one_byte}
use Rattle.list.proofs.Reading.{has_there}
use Rattle.list.specs.declared.refusal.Refusal.{Refusal}
use Rattle.list.specs.declared.value_type.ValueType.{ValueType}
use Rattle.list.specs.declared.record.Record.{Record}
use Rattle.list.specs.Record.{Read}

-- what is true of a record, if one was read
data Good (P : Record → Type 0) : Read → Type 0 where
  broken : {k : Refusal} → Good P (Err k)
  whole : {e : Record} → P e → Good P (Ok e)

module _ (P : Record → Type 0) where
  by-known : (t : Result ValueType Refusal) (f : ValueType → Read) → ((kind : ValueType) → t ≡ Ok kind → Good P (f kind)) → Good P (on_result t f Err)
  unfolding on_result
  by-known (Ok kind) f g = g kind refl
  by-known (Err why) f g = broken

  good-is : (e : Record) → Good P (Ok e) → P e
  good-is e (whole p) = p

  read_is : (r : Read) (e : Record) → Good P r → r ≡ Ok e → P e
  read_is r e g h = good-is e (subst (Good P) h g)

  by-has : (s : List ℕ) (at n : ℕ) (on : ℕ → Read) → (at + n ≤ length s → Good P (on (at + n))) → Good P (has s at n on)
  unfolding has
  by-has s at n on g = by-pick (Good P) _ _ _ (λ h. g (leb-true _ _ h)) (λ _. broken)

-- what a whole record was read from
pub record Was (s : List ℕ) (key k q : ℕ) (e : Record) : Type 0 where
  pub is : record_at s key k q e.kind ≡ e
  pub tagged : type_of (get_or s (q + 8) 0) ≡ Ok e.kind
  pub room : q + 13 + le_at s (q + 9) 4 ≤ length s

module _ (s : List ℕ) (key k q : ℕ) where
  was-at : (kind : ValueType) → type_of (le_at s (q + 8) 1) ≡ Ok kind → (at value : ℕ) → q + 9 ≡ at → q + 13 ≡ value → value + le_at s at 4 ≤ length s
      → Was s key k q (record { key = key; klen = k; seqno = le_at s q 8; kind = kind; value = value; vlen = le_at s at 4; next = value + le_at s at 4 })
  unfolding record_at
  was-at kind t at value e f h = rw (← e, ← f) (record { is = refl; tagged = rw (one_byte s (q + 8)) at t; room = rw (e, f) h })

  rest-good : Good (Was s key k q) (rest_at s key k q)
  unfolding rest_at value_from field
  rest-good =
      by-has _ s q 8 _
      (λ _. by-has _ s (q + 8) 1 _
      (λ _. by-known _ _ _
      (λ kind t. by-has _ s (q + 8 + 1) 4 _ (λ _. by-has _ s (q + 8 + 1 + 4) _ _ (λ h. whole (was-at kind t _ _ (omega arith) (omega arith) h))))))

module _ (s : List ℕ) (at : ℕ) where
  -- a record of a list that is being judged reads whole, and its key is not empty
  pub record Judged (e : Record) : Type 0 where
    pub reads : whole_at s at ≡ Ok e
    pub keyed : le_at s at 2 ≡ 0 → ⊥

  whole-good : Good (Was s (at + 2) (le_at s at 2) (at + 2 + le_at s at 2)) (whole_at s at)
  unfolding whole_at fields_at field pick
  whole-good = by-has _ s at 2 _ (λ _. by-has _ s (at + 2) (le_at s at 2) _ (λ _. rest-good s (at + 2) (le_at s at 2) (at + 2 + le_at s at 2)))

  pub whole-was : (e : Record) → whole_at s at ≡ Ok e → Was s (at + 2) (le_at s at 2) (at + 2 + le_at s at 2) e
  whole-was e h = read_is _ _ e whole-good h

  whole-judged : (le_at s at 2 ≡ 0 → ⊥) → (r : Read) → whole_at s at ≡ r → Good Judged r
  whole-judged n (Ok e) h = whole (record { reads = h; keyed = n })
  whole-judged n (Err k) h = broken

  read-good : Good Judged (read_at s at)
  unfolding read_at whole_at fields_at field pick
  read-good = by-has _ s at 2 _ (λ h. by-pick (Good Judged) _ _ _ (λ _. broken) (λ n. whole-judged (eqb-false _ _ n) _ (sym (has_there s at 2 _ h))))

  pub read-judged : (e : Record) → read_at s at ≡ Ok e → Judged e
  read-judged e h = read_is _ _ e read-good h

-- where a whole record's parts lie
pub record Inside (n at : ℕ) (e : Record) : Type 0 where
  pub key-at : e.key ≡ at + 2
  pub key_in : e.key + e.klen ≤ n
  pub value-at : e.value ≡ at + record_size + e.klen
  pub next-at : e.next ≡ at + record_size + e.klen + e.vlen
  pub next-in : e.next ≤ n

module _ (s : List ℕ) (at : ℕ) (e : Record) where
  lies : (kind : ValueType) → at + 2 + le_at s at 2 + 13 + le_at s (at + 2 + le_at s at 2 + 9) 4 ≤ length s
      → Inside (length s) at (record_at s (at + 2) (le_at s at 2) (at + 2 + le_at s at 2) kind)
  unfolding record_size record_at
  lies kind h = record { key-at = refl; key_in = omega arith; value-at = omega arith; next-at = omega arith; next-in = h }

  pub whole-inside : whole_at s at ≡ Ok e → Inside (length s) at e
  whole-inside h = let w = whole-was s at e h in subst (Inside (length s) at) w.is (lies e.kind w.room)

  pub inside : read_at s at ≡ Ok e → Inside (length s) at e
  inside h = whole-inside (read-judged s at e h).reads

  klen-is : Was s (at + 2) (le_at s at 2) (at + 2 + le_at s at 2) e → le_at s at 2 ≡ e.klen
  unfolding record_at
  klen-is w = ap (λ (x : Record). x.klen) w.is

  pub keyed : read_at s at ≡ Ok e → 0 < e.klen
  keyed h =
      let j = read-judged s at e h in
      let k = klen-is (whole-was s at e j.reads) in
      omega (arith, j.keyed)
