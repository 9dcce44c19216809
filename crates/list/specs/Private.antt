-- Cited by private contracts of the crates above: the record that stands in bytes which are known to hold one.
use Rattle.std.specs.Prelude.{ℕ, ◌+◌, ◌≡◌, ◌≤◌, List, length, get_or}
use Rattle.list.specs.Limits.{KeyLength, Seqno, Tag, ValueLength, width, key_limit}
use Rattle.list.specs.Field.{le_at}
use Rattle.list.specs.ValueType.{type_of}
use Rattle.std.specs.Result.{result_unwrap_or}
use Rattle.list.specs.Version.{Version, version_at}
use Rattle.list.specs.declared.value_type.ValueType.{ValueType}
use Rattle.list.specs.declared.value_type.ValueType.TheVariants.{Value}
use Rattle.list.specs.declared.record.Record.{Record}

-- The length of a key stands at a place; two bytes hold no more than a key may have.
abbrev pub KeyLengthStands : List ℕ → ℕ → ℕ → Type 0
KeyLengthStands s at k = record {
  is_there : at + width KeyLength ≤ length s;
  is_read : k ≡ le_at s at (width KeyLength);
  within_limit : k ≤ key_limit;
}

-- What stands between a record's key and its value.
abbrev pub rest_size : ℕ
rest_size = width Seqno + width Tag + width ValueLength

-- The record whose key of k bytes stands at key, and its seqno at q.
unfoldable pub record_at : List ℕ → ℕ → ℕ → ℕ → ValueType → Record
record_at s key k q kind = let size = le_at s (q + (width Seqno + width Tag)) (width ValueLength) in
    record {
      key = key;
      klen = k;
      seqno = le_at s q (width Seqno);
      kind = kind;
      value = q + rest_size;
      vlen = size;
      next = q + rest_size + size;
    }

-- The kind of a record whose key ends at a place, by its tag; Value, if that is none.
unfoldable pub kind_at : List ℕ → ℕ → ValueType
kind_at s q = result_unwrap_or (type_of (get_or s (q + width Seqno) 0)) Value

-- The version whose key of k bytes stands at key, all else of its record following.
unfoldable pub version_by : List ℕ → ℕ → ℕ → Version
version_by s key k = version_at s (record_at s key k (key + k) (kind_at s (key + k)))
