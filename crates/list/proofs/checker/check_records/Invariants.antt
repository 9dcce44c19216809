-- What is left to judge comes to the same verdict as the whole.
use Rattle.list.specs.Limits.{header_size}
use Prim.Native.Nat.{◌+◌, ◌-◌, ◌≤◌}
use mathlib.Core.Path.{◌≡◌}
use lib.ListN.{length}
use Rattle.list.specs.Record.{no_record}
use Rattle.list.specs.Check.{check_from}
use Rattle.list.proofs.checker.check_records.Given as goal

abbrev pub invariant-loop-done : goal.invariant-loop-done
invariant-loop-done l =
    (l.before.key + l.before.klen ≤ length l.s) × (check_from (l.count - l.done) l.s l.at l.before l.done ≡ check_from l.count l.s header_size no_record 0)
