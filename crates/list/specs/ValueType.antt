-- Value types and their tags.
use Rattle.std.specs.Prelude.{ℕ, Bool, true, false, eqb, Result, Ok, Err}
use Rattle.list.specs.Pick.{pick}
use Rattle.list.specs.declared.value_type.ValueType.{ValueType}
use Rattle.list.specs.declared.value_type.ValueType.TheVariants.{Value, Tombstone, WeakTombstone, Indirection}
use Rattle.list.specs.declared.refusal.Refusal.{Refusal}
use Rattle.list.specs.declared.refusal.Refusal.TheVariants.{BadTag}

-- Tags 0 Value, 1 Tombstone, 2 WeakTombstone, 4 Indirection ..
unfoldable pub tag_of : ValueType → ℕ
tag_of Value = 0
tag_of Tombstone = 1
tag_of WeakTombstone = 2
tag_of Indirection = 4

-- .. and no others: 6.
unfoldable pub type_of : ℕ → Result ValueType Refusal
type_of n =
    pick (eqb n 0) (Ok Value)
    (pick (eqb n 1) (Ok Tombstone)
    (pick (eqb n 2) (Ok WeakTombstone)
    (pick (eqb n 4) (Ok Indirection) (Err BadTag))))

-- Any tombstone.
unfoldable pub is_tombstone : ValueType → Bool
is_tombstone Value = false
is_tombstone Tombstone = true
is_tombstone WeakTombstone = true
is_tombstone Indirection = false
