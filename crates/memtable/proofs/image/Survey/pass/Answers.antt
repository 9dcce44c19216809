-- Each figure takes in the record.
use Rattle.memtable.specs.Private.{pass}
use Rattle.memtable.proofs.image.Survey.pass.Goals as goal

pub returns : goal.returns
unfolding pass
returns c = rw (← c.max.ensures, ← c.behind.ensures)
