-- An entry that the table has lies inside it, four times its number from the start.
-- The one lemma `word_room` answers more than one goal, since each has a bound of its own.
use native.Mathlib.Omega.{arith}
use Rattle.list.proofs.Words.{word_room}
use Rattle.list.proofs.field.put_word.Goals as goal

pub overflow_mul-i : goal.overflow_mul-i
overflow_mul-i c = let r = word_room _ _ c.requires in omega arith

pub put_le-requires : goal.put_le-requires
put_le-requires c = let r = word_room _ _ c.requires in omega arith
