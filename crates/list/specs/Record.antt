-- A record, read from a place of a list: key length (16 bits), key, seqno (64), tag (8), value length (32), value.
use Rattle.std.specs.Prelude.{ℕ, ◌+◌, List, Bool, true, false, ◌&&◌, leb, eqb, length, take, drop, Result, Ok, Err}
use Rattle.list.specs.Pick.{pick, on_result}
use Rattle.list.specs.Limits.{KeyLength, Seqno, Tag, ValueLength, width}
use Rattle.list.specs.Field.{le_at}
use Rattle.list.specs.ValueType.{type_of}
use Rattle.list.specs.declared.refusal.Refusal.{Refusal}
use Rattle.list.specs.declared.refusal.Refusal.TheVariants.{Truncated, EmptyKey}
use Rattle.list.specs.declared.value_type.ValueType.{ValueType}
use Rattle.list.specs.declared.value_type.ValueType.TheVariants.{Value}
use Rattle.list.specs.declared.record.Record.{Record}

-- What is read at a place: a whole record, or why there is none.
abbrev pub Read : Type 0
Read = Result Record Refusal

-- n bytes from a place, and on behind them; 1 where the list ends inside them.
unfoldable pub has : List ℕ → ℕ → ℕ → (ℕ → Read) → Read
has s at n on = pick (leb (at + n) (length s)) (on (at + n)) (Err Truncated)

-- A field of n bytes, and on behind it with its number.
unfoldable pub field : List ℕ → ℕ → ℕ → (ℕ → ℕ → Read) → Read
field s at n on = has s at n (on (le_at s at n))

-- Value length and value; then the record is whole.
unfoldable pub value_from : List ℕ → ℕ → ℕ → ℕ → ValueType → ℕ → Read
value_from s key k seqno kind at =
    field s at (width ValueLength) (λ size value. has s value size (λ next.
    Ok (record { key = key; klen = k; seqno = seqno; kind = kind; value = value; vlen = size; next = next })))

-- Behind the key: seqno, tag, and on; 6 after the tag.
unfoldable pub rest_at : List ℕ → ℕ → ℕ → ℕ → Read
rest_at s key k at =
    field s at (width Seqno) (λ seqno at. field s at (width Tag) (λ tag at.
    on_result (type_of tag) (λ kind. value_from s key k seqno kind at) Err))

-- Key length, key, and on; in a list that is being judged, 4 after the key length.
unfoldable pub fields_at : Bool → List ℕ → ℕ → Read
fields_at judged s at = field s at (width KeyLength) (λ k key. pick (judged && eqb k 0) (Err EmptyKey) (has s key k (rest_at s key k)))

-- The record at a place of a list that is being judged.
unfoldable pub read_at : List ℕ → ℕ → Read
read_at s at = fields_at true s at

-- The record at a place is whole: fields, key and value lie inside the list, and its tag is known.
unfoldable pub whole_at : List ℕ → ℕ → Read
whole_at s at = fields_at false s at

-- A record's key and its value.
unfoldable pub key_of : List ℕ → Record → List ℕ
key_of s e = take e.klen (drop e.key s)

unfoldable pub value_of : List ℕ → Record → List ℕ
value_of s e = take e.vlen (drop e.value s)

-- Where a part begins: in the same memory, n bytes on from the first of what it is a part of.
unfoldable pub onward : ℕ × ℕ → ℕ → ℕ × ℕ
onward start n = (start.0, start.1 + n)

-- What stands before every record: its key is empty, and no record's is.
unfoldable pub no_record : Record
no_record = record { key = 0; klen = 0; seqno = 0; kind = Value; value = 0; vlen = 0; next = 0 }
