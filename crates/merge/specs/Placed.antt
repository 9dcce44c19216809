-- Versions, and where they stand.
use Rattle.std.specs.Prelude.{ℕ, Bool, ltb}
use Rattle.list.specs.Pick.{pick}
use Rattle.list.specs.Order.{compare, is_less, is_equal}
use Rattle.list.specs.Version.{Version, ordered}

-- A version, in which list it stands, and as which of its records.
pub record Placed : Type 0 where
  pub version : Version
  pub list : ℕ
  pub number : ℕ

-- Ordered by key, seqno descending, then list number.
unfoldable pub before : Placed → Placed → Bool
before x y = pick (is_equal (ordered x.version y.version)) (ltb x.list y.list) (is_less (ordered x.version y.version))

unfoldable pub same_key : Placed → Placed → Bool
same_key x y = is_equal (compare x.version.key y.version.key)
