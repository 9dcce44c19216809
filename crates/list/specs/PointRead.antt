-- The point read: one key in a list of versions, strictly below a seqno.
use Rattle.std.specs.Prelude.{ℕ, ◌+◌, List, [], ◌∷◌, Bool, ◌&&◌, ltb}
use Rattle.std.proofs.Math.Option.{Option, none, some}
use Rattle.list.specs.Pick.{pick}
use Rattle.list.specs.Order.{compare, is_equal}
use Rattle.list.specs.Version.{Version}

-- A version is of this key ..
unfoldable pub of_key : List ℕ → Version → Bool
of_key k v = is_equal (compare k v.key)

-- .. and strictly below a seqno.
unfoldable pub is_below : List ℕ → ℕ → Version → Bool
is_below k n v = of_key k v && ltb v.seqno n

-- The newest version of the key strictly below the seqno, tombstones included, and its record number: the first, as a key's versions stand newest first.
-- The first version here has the number i.
unfoldable pub point_read_from : ℕ → List ℕ → ℕ → List Version → Option (ℕ × Version)
point_read_from i k n [] = none
point_read_from i k n (v ∷ vs) = pick (is_below k n v) (some (i, v)) (point_read_from (i + 1) k n vs)

-- The point read of a whole list.
unfoldable pub point_read : List ℕ → ℕ → List Version → Option (ℕ × Version)
point_read k n vs = point_read_from 0 k n vs
