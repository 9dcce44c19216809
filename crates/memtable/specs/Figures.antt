-- What a memtable's state tells of the versions held.
use Rattle.std.specs.Prelude.{ℕ, ◌+◌, max, List, [], ◌∷◌, length}
use Rattle.list.specs.Version.{Version}

-- Size is the sum of key and value lengths held.
unfoldable pub size_of : List Version → ℕ
size_of [] = 0
size_of (v ∷ vs) = length v.key + length v.value + size_of vs

-- The highest seqno held; an empty table's state holds 0.
unfoldable pub highest_of : List Version → ℕ
highest_of [] = 0
highest_of (v ∷ vs) = max v.seqno (highest_of vs)
