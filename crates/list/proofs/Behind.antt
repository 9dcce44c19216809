-- A version by the place of its key: what was read in a part of some bytes stands there too, since fields and values keep their places behind the part's start.
use Rattle.std.specs.Prelude.{Ok}
use native.Mathlib.Omega.{arith}
use mathlib.Core.List.{List}
use mathlib.Core.Path.{refl, sym, ap, ap₂, ◌≡◌, ◌∙◌}
use Prim.Native.Nat.{ℕ, zero, suc, ◌+◌, ◌*◌, ◌≤◌, ◌<◌}
use lib.ListN.{length, take, drop, get_or, length-take}
use lib.Seq.{get_or-take, get_or-drop}
use Rattle.list.specs.Limits.{Seqno, width, record_size}
use Rattle.list.specs.Field.{le_at}
use Rattle.list.specs.ValueType.{type_of}
use Rattle.list.specs.Record.{key_of, value_of, whole_at}
use Rattle.list.specs.Version.{version_at}
use Rattle.list.specs.Private.{rest_size, record_at, kind_at, version_by}
use Rattle.list.specs.declared.value_type.ValueType.{ValueType}
use Rattle.list.specs.declared.value_type.ValueType.TheVariants.{Value}
use Rattle.list.specs.declared.record.Record.{Record}
use Rattle.list.proofs.Parts.{part-part}
use Rattle.list.proofs.Whole.{Was, whole-was, whole-inside}
use Rattle.std.specs.Result.{result_unwrap_or}

pub by_key : (s : List ℕ) (key k : ℕ) → (version_by s key k).key ≡ take k (drop key s)
unfolding version_by version_at record_at key_of
by_key s key k = refl

pub by-seqno : (s : List ℕ) (key k : ℕ) → (version_by s key k).seqno ≡ le_at s (key + k) (width Seqno)
unfolding version_by version_at record_at
by-seqno s key k = refl

-- the kind, by what the tag says
pub by-tag : (s : List ℕ) (key k : ℕ) → result_unwrap_or (type_of (get_or s (key + k + width Seqno) 0)) Value ≡ (version_by s key k).kind
unfolding version_by version_at record_at kind_at
by-tag s key k = refl

-- a field of a part
-- std's `get_or-chunk`, said of `take` and `drop`
byte-part : (b : List ℕ) (start len at : ℕ) → at < len → get_or (take len (drop start b)) at 0 ≡ get_or b (start + at) 0
byte-part b start len at h = get_or-take len (drop start b) at 0 h ∙ get_or-drop start b at 0

field-part : (b : List ℕ) (start len n at : ℕ) → at + n ≤ len → le_at (take len (drop start b)) at n ≡ le_at b (start + at) n
unfolding le_at
field-part b start len zero at h = refl
field-part b start len (suc n) at h =
    let e : start + (at + 1) ≡ start + at + 1 = omega arith in
    ap₂ (λ x y. x + 256 * y) (byte-part b start len at (omega arith)) (field-part b start len n (at + 1) (omega arith) ∙ ap (λ j. le_at b j n) e)

key-klen : (s : List ℕ) (key k q : ℕ) (kind : ValueType) (e : Record) → record_at s key k q kind ≡ e → (key ≡ e.key) × (k ≡ e.klen)
unfolding record_at
key-klen s key k q kind e p = (ap (λ (x : Record). x.key) p, ap (λ (x : Record). x.klen) p)

-- a record that was read in a part, read in all the bytes
module _ (b : List ℕ) (start len key k : ℕ) (e : Record) (w : Was (take len (drop start b)) key k (key + k) e) (fits : start + len ≤ length b) where
  room : key + k + 13 + le_at (take len (drop start b)) (key + k + 9) 4 ≤ len
  room = omega (arith, w.room, length-take len (drop start b))

  behind : (n : ℕ) → start + (key + k + n) ≡ start + key + k + n
  behind n = omega arith

  kind-part : kind_at b (start + key + k) ≡ e.kind
  unfolding kind_at
  kind-part =
      let z : get_or (take len (drop start b)) (key + k + 8) 0 ≡ get_or b (start + key + k + 8) 0 = byte-part b start len (key + k + 8) (omega (arith, room)) ∙ ap (λ j. get_or b j 0) (behind 8) in
      rw (← z, w.tagged)

  version-part : version_at (take len (drop start b)) e ≡ version_by b (start + key) k
  unfolding version_by
  version-part = ap (version_at (take len (drop start b))) (sym w.is) ∙ as_read
    where
      seqno : le_at (take len (drop start b)) (key + k) 8 ≡ le_at b (start + key + k) 8
      seqno =
          let z : start + (key + k) ≡ start + key + k = omega arith in
          field-part b start len 8 (key + k) (omega (arith, room)) ∙ ap (λ j. le_at b j 8) z

      size : le_at (take len (drop start b)) (key + k + 9) 4 ≡ le_at b (start + key + k + 9) 4
      size = field-part b start len 4 (key + k + 9) (omega (arith, room)) ∙ ap (λ j. le_at b j 4) (behind 9)

      value : take (le_at (take len (drop start b)) (key + k + 9) 4) (drop (key + k + 13) (take len (drop start b))) ≡ take (le_at b (start + key + k + 9) 4) (drop (start + key + k + 13) b)
      value = part-part b start len (key + k + 13) _ room ∙ ap₂ (λ m j. take m (drop j b)) size (behind 13)

      as_read : version_at (take len (drop start b)) (record_at (take len (drop start b)) key k (key + k) e.kind) ≡ version_at b (record_at b (start + key) k (start + key + k) (kind_at b (start + key + k)))
      as_read = unfold version_at record_at key_of value_of in rw (part-part b start len key k (omega (arith, room)), seqno, kind-part, value)

module _ (b : List ℕ) (start len at : ℕ) (e : Record) (reads : whole_at (take len (drop start b)) at ≡ Ok e) (fits : start + len ≤ length b) where
  pub part_by : version_at (take len (drop start b)) e ≡ version_by b (start + e.key) e.klen
  part_by =
      let w = whole-was (take len (drop start b)) at e reads in
      let p = key-klen _ _ _ _ _ _ w.is in
      version-part b start len _ _ e w fits ∙ ap₂ (λ key k. version_by b (start + key) k) p.0 p.1

  pub part-inside : start + e.key + e.klen + rest_size ≤ length b
  unfolding record_size
  part-inside =
      let w = whole-inside (take len (drop start b)) at e reads in
      omega (arith, length-take len (drop start b), w.key-at, w.next-at, w.next-in)
