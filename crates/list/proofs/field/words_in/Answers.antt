-- A table's entries are four bytes each.
use mathlib.Core.Path.{refl}
use Rattle.list.specs.Field.{words_in}
use Rattle.list.proofs.field.words_in.Goals as goal

pub returns : goal.returns
unfolding words_in
returns c = refl
