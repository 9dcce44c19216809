-- Tombstones are kept unasked.
use mathlib.Core.Path.{◌∙◌}
use Rattle.compaction.specs.Turn.{meant}
use Rattle.compaction.proofs.Deciding.{v-dead, v-live}
use Rattle.compaction.proofs.stream.ask.Goals as goal

pub returns-then-is_tombstone : goal.returns-then-is_tombstone
unfolding meant
returns-then-is_tombstone g c = v-dead _ _ _ c.is_tombstone.ensures c.if-is_tombstone.true

pub returns : goal.returns
returns g c = c.filter_item.ensures ∙ v-live _ _ _ c.is_tombstone.ensures c.if-is_tombstone.false
