-- What is here is found if it is of the key.
use mathlib.Core.Path.{◌∙◌}
use Rattle.list.specs.Pick.{pick}
use Rattle.memtable.specs.Private.{found_at}
use Rattle.memtable.proofs.found_at.Goals as goal

pub returns-in_err-here : goal.returns-in_err-here
unfolding found_at
returns-in_err-here c = c.from_residual.ensures ∙ rw c.in_err-here.was

pub returns-then-same_key : goal.returns-then-same_key
unfolding found_at pick
returns-then-same_key c = rw (c.in_ok-here.was, ← c.key_of.ensures.result_value, ← c.same_key.ensures, c.if-same_key.true)

pub returns : goal.returns
unfolding found_at pick
returns c = rw (c.in_ok-here.was, ← c.key_of.ensures.result_value, ← c.same_key.ensures, c.if-same_key.false)
