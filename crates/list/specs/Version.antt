-- Versions, and the bytes that hold them.
use Rattle.std.specs.Prelude.{ℕ, zero, suc, ◌≤◌, ◌<◌, ◌≡◌, List, [], ◌∷◌, ◌++◌, map, length, get_or}
use Rattle.list.specs.Limits.{ListVersion, Count, KeyLength, Seqno, Tag, ValueLength, width, header_size, list_limit, key_limit}
use Rattle.list.specs.Field.{le_bytes}
use Rattle.list.specs.ValueType.{tag_of}
use Rattle.list.specs.Order.{versions}
use Rattle.list.specs.Record.{read_at, key_of, value_of}
use Rattle.list.specs.Check.{mark, count_in}
use Rattle.list.specs.declared.value_type.ValueType.{ValueType}
use Rattle.std.specs.declared.cmp.Ordering.{Ordering}
use Rattle.std.specs.declared.cmp.Ordering.TheVariants.{Less}
use Rattle.list.specs.declared.record.Record.{Record}
use Rattle.list.specs.Pick.{on_result}

-- A version of a key.
pub record Version : Type 0 where
  pub key : List ℕ
  pub seqno : ℕ
  pub kind : ValueType
  pub value : List ℕ

unfoldable pub version : List ℕ → ℕ → ValueType → List ℕ → Version
version k n t v = record { key = k; seqno = n; kind = t; value = v }

-- A record: key length (16 bits), key, seqno (64), tag (8), value length (32), value.
unfoldable pub record_of : Version → List ℕ
record_of v = le_bytes (length v.key) (width KeyLength) ++ v.key ++ le_bytes v.seqno (width Seqno)
    ++ le_bytes (tag_of v.kind) (width Tag) ++ le_bytes (length v.value) (width ValueLength) ++ v.value

unfoldable pub records : List Version → List ℕ
records [] = []
records (v ∷ vs) = record_of v ++ records vs

-- A list opens with the three bytes VLS, then a 16-bit version 1, then a 32-bit record count.
unfoldable pub header : ℕ → List ℕ
header count = mark ++ le_bytes 1 (width ListVersion) ++ le_bytes count (width Count)

unfoldable pub encode : List Version → List ℕ
encode vs = header (length vs) ++ records vs

-- How two versions are ordered.
unfoldable pub ordered : Version → Version → Ordering
ordered v w = versions v.key v.seqno w.key w.seqno

-- Each is above the one before it, and the first above v.
unfoldable pub Above : Version → List Version → Type 0
Above v [] = Unit {0}
Above v (w ∷ ws) = (ordered v w ≡ Less) × Above w ws

-- Strict order.
unfoldable pub InOrder : List Version → Type 0
InOrder [] = Unit {0}
InOrder (v ∷ vs) = Above v vs

-- Every byte is one.
unfoldable pub Bytes : List ℕ → Type 0
Bytes s = (i : ℕ) → get_or s i 0 < 256

-- Each field in its range: a key of 1 to 65,535 bytes, a seqno of 64 bits, a value length of 32.
pub record Fits (v : Version) : Type 0 where
  pub keyed : 0 < length v.key
  pub key_fits : length v.key ≤ key_limit
  pub key-bytes : Bytes v.key
  pub seqno-fits : v.seqno < 18446744073709551616
  pub value-fits : length v.value < 4294967296
  pub value-bytes : Bytes v.value

unfoldable pub AllFit : List Version → Type 0
AllFit [] = Unit {0}
AllFit (v ∷ vs) = Fits v × AllFit vs

-- What a list can hold: it is accepted exactly when it is the encoding of such versions.
pub record Fine (vs : List Version) : Type 0 where
  pub fit : AllFit vs
  pub in_order : InOrder vs
  pub small : length (encode vs) ≤ list_limit

-- The version that a record holds.
unfoldable pub version_at : List ℕ → Record → Version
version_at s e = record { key = key_of s e; seqno = e.seqno; kind = e.kind; value = value_of s e }

-- n records from a place.
unfoldable pub records_at : ℕ → List ℕ → ℕ → List Record
records_at zero s at = []
records_at (suc n) s at = on_result (read_at s at) (λ e. e ∷ records_at n s e.next) (λ k. [])

-- The versions that a list holds: as many records as its header tells of.
unfoldable pub versions_of : List ℕ → List Version
versions_of s = map (version_at s) (records_at (count_in s) s header_size)

-- A version with another seqno.
unfoldable pub with_seqno : ℕ → Version → Version
with_seqno n v = record { key = v.key; seqno = n; kind = v.kind; value = v.value }
