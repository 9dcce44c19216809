-- Each arm of the match is a case of the definition.
use Rattle.compaction.proofs.Deciding.{b-tombstone, b-weak, b-indirection, b-stays, b-live}
use Rattle.compaction.proofs.stream.goes_before.Goals as goal

pub returns-in-Tombstone-default : goal.returns-in-Tombstone-default
returns-in-Tombstone-default c = b-tombstone _ _ _ c.in-Tombstone-default.is-0

pub returns-in-WeakTombstone-Value : goal.returns-in-WeakTombstone-Value
returns-in-WeakTombstone-Value c = let i = c.in-WeakTombstone-Value in b-weak _ _ _ i.is-0 i.is-1

pub returns-in-WeakTombstone-Indirection : goal.returns-in-WeakTombstone-Indirection
returns-in-WeakTombstone-Indirection c = let i = c.in-WeakTombstone-Indirection in b-indirection _ _ _ i.is-0 i.is-1

pub returns-in_default : goal.returns-in_default
returns-in_default c = b-stays _ _ _ c.in_default.is-0 c.in_default.not-Value-1

pub returns-in_default-2 : goal.returns-in_default-2
returns-in_default-2 c = b-live _ _ _ c.in_default.not-Tombstone-0 c.in_default.not-WeakTombstone-0
