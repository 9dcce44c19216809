-- Each test of the tag settles one type.
use native.Mathlib.Omega.{arith}
use Rattle.list.proofs.Tags.{tag-0, tag-1, tag-2, tag-4, tag-none}
use Rattle.list.proofs.value_type.ValueTypeTryFromU8.try_from.Goals as goal

pub returns-in-0 : goal.returns-in-0
returns-in-0 c = tag-0 _ (omega arith)

pub returns-in-1 : goal.returns-in-1
returns-in-1 c = tag-1 _ (omega arith) (omega arith)

pub returns-in-2 : goal.returns-in-2
returns-in-2 c = tag-2 _ (omega arith) (omega arith) (omega arith)

pub returns-in-4 : goal.returns-in-4
returns-in-4 c = tag-4 _ (omega arith) (omega arith) (omega arith) (omega arith)

pub returns-in_default : goal.returns-in_default
returns-in_default c = tag-none _ (omega arith) (omega arith) (omega arith) (omega arith)
