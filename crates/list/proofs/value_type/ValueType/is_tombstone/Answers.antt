-- The two tombstones and no other type.
use Rattle.std.proofs.Common.{inl, inr}
use Rattle.list.specs.ValueType.{is_tombstone}
use Rattle.list.proofs.Tags.{no-tombstone}
use Rattle.list.proofs.value_type.ValueType.is_tombstone.Goals as goal

pub returns-in-Tombstone : goal.returns-in-Tombstone
unfolding is_tombstone
returns-in-Tombstone c = elim c.in-Tombstone.is [ inl e ↦ rw e | inr e ↦ rw e ]

pub returns-in_default : goal.returns-in_default
returns-in_default c = no-tombstone _ c.in_default.not-Tombstone c.in_default.not-WeakTombstone
