-- What stands first says which of the three it is; a replacement's value lies in the values, as was judged.
use mathlib.Core.Path.{ap, ◌∙◌}
use native.Mathlib.Omega.{arith}
use Rattle.compaction.specs.Filter.{kind_of}
use Rattle.compaction.specs.Turn.{meant}
use Rattle.compaction.proofs.Verdicts.{i-keep, i-drop, i-lies, i-replace}
use Rattle.compaction.proofs.verdict_table.VerdictTableStreamFilter.filter_item.Goals as goal

pub returns-then-what-eq0 : goal.returns-then-what-eq0
unfolding meant
returns-then-what-eq0 c = i-keep _ _ _ _ c.word-what.ensures.value c.if-what-eq0.true

pub returns-then-what-eq1 : goal.returns-then-what-eq1
unfolding meant
returns-then-what-eq1 c = i-drop _ _ _ _ c.word-what.ensures.value c.if-what-eq0.false c.if-what-eq1.true

pub slice_bounds-result-end : goal.slice_bounds-result-end
slice_bounds-result-end c =
    let p = i-lies c.args.self.now.verdicts.now _ _ _ c.word-what.ensures.value c.if-what-eq0.false c.if-what-eq1.false _ _ c.word-start.ensures.value c.word-length.ensures.value c.requires.1 in
    omega (arith, p)

pub returns : goal.returns
unfolding meant
returns c = i-replace _ _ _ _ c.word-what.ensures.value c.if-what-eq0.false c.if-what-eq1.false _ _ c.word-start.ensures.value c.word-length.ensures.value _ (c.kind_of.ensures ∙ ap kind_of c.word-tag.ensures.value)
