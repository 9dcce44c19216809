-- It always says keep.
use mathlib.Core.Path.{refl}
use Rattle.compaction.specs.Turn.{meant}
use Rattle.compaction.proofs.filter.NoFilterStreamFilter.filter_item.Goals as goal

pub returns : goal.returns
unfolding meant
returns c = refl
