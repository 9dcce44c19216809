-- Each arm of the match is a case of the definition.
use Rattle.compaction.specs.Turn.{meant, kind_by}
use Rattle.std.proofs.Common.{inl, inr}
use Rattle.compaction.proofs.filter.StreamFilterVerdict.kind.Goals as goal

pub returns-in-Keep : goal.returns-in-Keep
unfolding meant kind_by
returns-in-Keep c = elim c.in-Keep.is [ inl e ↦ rw e | inr e ↦ rw e ]

pub returns-in-Replace : goal.returns-in-Replace
unfolding meant kind_by
returns-in-Replace c = rw c.in-Replace.is
