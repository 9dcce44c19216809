-- The record that is here gives way only where key and seqno are the same.
use mathlib.Core.Logic.{inl, inr}
use Rattle.memtable.specs.Change.{by_order}
use Rattle.memtable.specs.Private.{no_gap, gap_of}
use Rattle.memtable.proofs.image.Spot.gives_way.Goals as goal

pub returns-in_default : goal.returns-in_default
unfolding gap_of no_gap
returns-in_default c = rw c.in_default.is

pub returns-in-Less : goal.returns-in-Less
unfolding gap_of by_order no_gap
returns-in-Less c =
    rw (c.in-Some.is, ← c.key_of.ensures.result_value, ← c.compare_versions.ensures)
    (elim c.in-Less.is [ inl e ↦ rw e | inr e ↦ rw e ])

pub returns-in-Equal : goal.returns-in-Equal
unfolding gap_of by_order
returns-in-Equal c = rw (c.in-Some.is, ← c.key_of.ensures.result_value, ← c.compare_versions.ensures, c.in-Equal.is)
