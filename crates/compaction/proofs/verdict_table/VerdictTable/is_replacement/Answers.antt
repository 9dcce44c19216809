-- Whether the tag has a kind, and then whether the value's end lies in the values.
use mathlib.Core.Path.{sym, ◌∙◌}
use Rattle.compaction.proofs.Verdicts.{replacement-is}
use Rattle.compaction.proofs.verdict_table.VerdictTable.is_replacement.Goals as goal

pub returns-then-is_ok : goal.returns-then-is_ok
returns-then-is_ok c =
    let p = replacement-is _ _ c.tagged.ensures c.args.self.values.now c.args.start c.args.length in
    rw (sym c.is_ok.ensures.value ∙ c.if-is_ok.true) at p

pub returns-else-is_ok : goal.returns-else-is_ok
returns-else-is_ok c =
    let p = replacement-is _ _ c.tagged.ensures c.args.self.values.now c.args.start c.args.length in
    let e = c.if-is_ok.false in
    rw e (rw (sym c.is_ok.ensures.value ∙ e) at p)
