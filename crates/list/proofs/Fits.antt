-- A version's record reads back as that version, field by field, since each field stands behind the one before it.
use Rattle.std.specs.Prelude.{Ok}
use Prim.Native.Nat.{ℕ, ◌+◌, ◌-◌, ◌≤◌, ◌<◌}
use mathlib.Core.Path.{◌≡◌, refl, sym, ap, ◌∙◌}
use mathlib.Core.List.{List, ◌++◌, append_assoc}
use native.Mathlib.Omega.{arith}
use lib.ListN.{length, take, drop, get_or, length-append, length-drop}
use Rattle.list.specs.Limits.{record_size, key_limit}
use Rattle.list.specs.Field.{le_bytes}
use Rattle.list.specs.ValueType.{tag_of, type_of}
use Rattle.list.specs.Record.{read_at, key_of, value_of}
use Rattle.list.specs.Version.{Version, record_of, Fits, version_at}
use Rattle.list.proofs.Numbers.{one_byte, after, part, le_read, length-le}
use Rattle.list.proofs.Tags.{type-of-tag, tag-byte}
use Rattle.list.proofs.Reading.{value-whole, rest-value, read-rest}
use Rattle.list.specs.declared.record.Record.{Record}

-- where the record of a version stands that starts at a place
unfoldable pub record_for : ℕ → Version → Record
record_for at v =
    record {
      key = at + 2;
      klen = length v.key;
      seqno = v.seqno;
      kind = v.kind;
      value = at + record_size + length v.key;
      vlen = length v.value;
      next = at + record_size + length v.key + length v.value;
    }

-- a record field by field, from the left
pub fields : (v : Version) (rest : List ℕ) → record_of v ++ rest
    ≡ le_bytes (length v.key) 2 ++ (v.key ++ (le_bytes v.seqno 8 ++ (le_bytes (tag_of v.kind) 1 ++ (le_bytes (length v.value) 4 ++ (v.value ++ rest)))))
unfolding record_of
fields v rest = simp append_assoc

pub length-record : (v : Version) → length (record_of v) ≡ record_size + length v.key + length v.value
unfolding record_size record_of
length-record v = simp (length-append, length-le) (omega arith)

pub next-is : (at : ℕ) (v : Version) → (record_for at v).next ≡ at + length (record_of v)
unfolding record_for
next-is at v = let a = length-record v in omega arith

-- what stands at a place is a version's record: then it reads whole, holds the version, and ends where the rest starts
module _ (s rest : List ℕ) (at : ℕ) (v : Version) (f : Fits v) (h : drop at s ≡ record_of v ++ rest) where
  h0 : drop at s ≡ le_bytes (length v.key) 2 ++ (v.key ++ (le_bytes v.seqno 8 ++ (le_bytes (tag_of v.kind) 1 ++ (le_bytes (length v.value) 4 ++ (v.value ++ rest)))))
  h0 = h ∙ fields v rest

  h1 : drop (at + 2) s ≡ v.key ++ (le_bytes v.seqno 8 ++ (le_bytes (tag_of v.kind) 1 ++ (le_bytes (length v.value) 4 ++ (v.value ++ rest))))
  h1 = after s (le_bytes (length v.key) 2) _ at 2 (length-le _ 2) h0 (at + 2) refl

  h2 : drop (at + 2 + length v.key) s ≡ le_bytes v.seqno 8 ++ (le_bytes (tag_of v.kind) 1 ++ (le_bytes (length v.value) 4 ++ (v.value ++ rest)))
  h2 = after s v.key _ (at + 2) (length v.key) refl h1 (at + 2 + length v.key) refl

  h3 : drop (at + 2 + length v.key + 8) s ≡ le_bytes (tag_of v.kind) 1 ++ (le_bytes (length v.value) 4 ++ (v.value ++ rest))
  h3 = after s (le_bytes v.seqno 8) _ (at + 2 + length v.key) 8 (length-le _ 8) h2 (at + 2 + length v.key + 8) refl

  h4 : drop (at + 2 + length v.key + 8 + 1) s ≡ le_bytes (length v.value) 4 ++ (v.value ++ rest)
  h4 = after s (le_bytes (tag_of v.kind) 1) _ (at + 2 + length v.key + 8) 1 (length-le _ 1) h3 (at + 2 + length v.key + 8 + 1) refl

  value-at : at + record_size + length v.key ≡ at + 2 + length v.key + 8 + 1 + 4
  unfolding record_size
  value-at = omega arith

  h5 : drop (at + record_size + length v.key) s ≡ v.value ++ rest
  h5 = after s (le_bytes (length v.value) 4) _ (at + 2 + length v.key + 8 + 1) 4 (length-le _ 4) h4 (at + record_size + length v.key) value-at

  tag-reads : get_or s (at + 2 + length v.key + 8) 0 ≡ tag_of v.kind
  tag-reads = sym (one_byte s _) ∙ le_read 1 s _ (at + 2 + length v.key + 8) (tag_of v.kind) h3 (tag-byte v.kind)

  room : at + record_size + length v.key + length v.value + length rest ≤ length s
  room =
      let a : length (drop at s) ≡ length s - at = length-drop at s in
      let b : length (drop at s) ≡ length (record_of v) + length rest = ap length h ∙ length-append (record_of v) rest in
      let c = length-record v in
      omega arith

  kind-reads : type_of (get_or s (at + 2 + length v.key + 8) 0) ≡ Ok v.kind
  kind-reads = ap type_of tag-reads ∙ type-of-tag v.kind

  key-small : length v.key < 65536
  unfolding key_limit
  key-small = omega (arith, f.key_fits)

  pub reads : read_at s at ≡ Ok (record_for at v)
  unfolding record_for
  reads =
      let l = room in
      let g = value-at in
      let k = length v.key in
      let q = at + 2 + k in
      let a = sym (le_read 2 s _ at k h0 key-small) in
      let b = sym (le_read 8 s _ q v.seqno h2 f.seqno-fits) in
      let d = sym (le_read 4 s _ (q + 8 + 1) (length v.value) h4 f.value-fits) in
      let n = f.keyed in
      rw value-at
      (sym (read-rest s at k a (omega arith) (λ z. omega arith) _
      (rest-value s (at + 2) k q _ refl (omega arith) v.kind kind-reads v.seqno b _
      (value-whole s (at + 2) k v.seqno v.kind (q + 8 + 1) (length v.value) d (omega arith)))))

  pub holds : version_at s (record_for at v) ≡ v
  unfolding version_at record_for key_of value_of
  holds =
      let a : take (length v.key) (drop (at + 2) s) ≡ v.key = part s v.key _ (at + 2) _ refl h1 in
      let b : take (length v.value) (drop (at + record_size + length v.key) s) ≡ v.value = part s v.value rest (at + record_size + length v.key) _ refl h5 in
      rw (a, b)

  pub ends : drop (record_for at v).next s ≡ rest
  unfolding record_for
  ends = after s v.value rest (at + record_size + length v.key) _ refl h5 _ refl
