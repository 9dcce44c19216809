-- Each arm of the match is a case of the definition.
use native.Mathlib.Omega.{arith}
use Rattle.list.specs.Limits.{record_size}
use Rattle.compaction.proofs.Writing.{l-keep, l-drop, l-replace, l-short}
use Rattle.compaction.proofs.stream.leaving_len.Goals as goal

pub overflow_add-result : goal.overflow_add-result
overflow_add-result c = omega (arith, c.requires.fits.0)

pub overflow_add-result-in-Replace : goal.overflow_add-result-in-Replace
overflow_add-result-in-Replace c = omega (arith, c.requires.fits.0, l-short _ _ _ c.in-Replace.is c.requires.fits.1)

pub returns-in-Keep : goal.returns-in-Keep
returns-in-Keep c = l-keep _ _ _ c.in-Keep.is

pub returns-in-Drop : goal.returns-in-Drop
returns-in-Drop c = l-drop _ _ _ c.in-Drop.is

pub returns-in-Replace : goal.returns-in-Replace
unfolding record_size
returns-in-Replace c = l-replace _ _ _ _ _ c.in-Replace.is
