-- A place moves on until a record is here.
use mathlib.Core.Logic.{inl, inr}
use mathlib.Core.Path.{sym, ◌∙◌}
use Rattle.memtable.specs.Change.{by_order}
use Rattle.memtable.specs.Private.{stop_at, move_to}
use Rattle.memtable.proofs.Surveying.{p-stays, p-moves}
use Rattle.memtable.proofs.image.Spot.behind.Goals as goal

pub returns-then-is_some : goal.returns-then-is_some
returns-then-is_some c = p-stays _ _ _ _ _ (sym c.is_some.ensures ∙ c.if-is_some.true)

pub returns-in-Less : goal.returns-in-Less
unfolding move_to by_order stop_at
returns-in-Less c =
    let m = p-moves c.args.s.now c.args.key.now c.args.seqno c.args.self c.args.e (sym c.is_some.ensures ∙ c.if-is_some.false) _ (rw c.key_of.ensures.result_value at c.compare_versions.ensures) in
    elim c.in-Less.is [ inl e ↦ rw e at m | inr e ↦ rw e at m ]

pub returns-in-Greater : goal.returns-in-Greater
unfolding move_to by_order
returns-in-Greater c =
    rw c.in-Greater.is at (p-moves c.args.s.now c.args.key.now c.args.seqno c.args.self c.args.e (sym c.is_some.ensures ∙ c.if-is_some.false) _ (rw c.key_of.ensures.result_value at c.compare_versions.ensures))
