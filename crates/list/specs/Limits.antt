-- The paper's widths, sizes and limits, in bytes.
use Rattle.std.specs.Prelude.{ℕ, ◌+◌}

-- The fields of a header: mark, version and record count; and of a record: key length, seqno, tag and value length.
pub data Field : Type 0 where
  Mark ListVersion Count KeyLength Seqno Tag ValueLength : Field

abbrev pub width : Field → ℕ
width Mark = 3
width ListVersion = 2
width Count = 4
width KeyLength = 2
width Seqno = 8
width Tag = 1
width ValueLength = 4

-- A header is 9 bytes ..
unfoldable pub header_size : ℕ
header_size = width Mark + width ListVersion + width Count

-- .. and a record 15 plus key plus value.
unfoldable pub record_size : ℕ
record_size = width KeyLength + width Seqno + width Tag + width ValueLength

-- A list has at most 1,048,576 bytes.
unfoldable pub list_limit : ℕ
list_limit = 1048576

-- A key has at most 65,535.
unfoldable pub key_limit : ℕ
key_limit = 65535
