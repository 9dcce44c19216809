-- Keys of two lengths are not the same; what is left of two of one length decides as they do.
use mathlib.Core.Path.{sym, ap}
use Rattle.std.specs.Prelude.{length}
use Rattle.list.proofs.Strict.{differ}
use Rattle.list.proofs.key.same_from_end.Goals as goal

pub returns-then-a-b : goal.returns-then-a-b
returns-then-a-b c = sym (differ _ _ (λ e. c.if-a-b.true (ap length e)))
