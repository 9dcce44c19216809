-- An entry that the table has lies inside it, four times its number from the start.
-- The one lemma `word_room` answers more than one goal, since each has a bound of its own.
use native.Mathlib.Omega.{arith}
use Rattle.list.specs.Field.{word_at}
use Rattle.list.proofs.Words.{word_room}
use Rattle.list.proofs.field.word_at.Goals as goal

pub overflow_mul-i : goal.overflow_mul-i
overflow_mul-i c = let r = word_room _ _ c.requires in omega arith

pub le-requires-clause-in_bounds : goal.le-requires-clause-in_bounds
le-requires-clause-in_bounds c = let r = word_room _ _ c.requires in omega arith

pub returns : goal.returns
unfolding word_at
returns c = c.le.ensures
