-- The turn's fields are the definition's.
use mathlib.Core.Path.{refl}
use Rattle.compaction.specs.Turn.{meant, turned, dropped_by}
use Rattle.compaction.proofs.stream.dropped.Goals as goal

pub returns : goal.returns
unfolding turned meant dropped_by
returns c = refl
