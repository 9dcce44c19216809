-- Each type has its tag: one arm a type.
use Rattle.list.specs.ValueType.{tag_of}
use Rattle.list.proofs.value_type.U8FromValueType.from.Goals as goal

pub returns-in-Value : goal.returns-in-Value
unfolding tag_of
returns-in-Value c = rw c.in-Value.is

pub returns-in-Tombstone : goal.returns-in-Tombstone
unfolding tag_of
returns-in-Tombstone c = rw c.in-Tombstone.is

pub returns-in-WeakTombstone : goal.returns-in-WeakTombstone
unfolding tag_of
returns-in-WeakTombstone c = rw c.in-WeakTombstone.is

pub returns-in-Indirection : goal.returns-in-Indirection
unfolding tag_of
returns-in-Indirection c = rw c.in-Indirection.is
