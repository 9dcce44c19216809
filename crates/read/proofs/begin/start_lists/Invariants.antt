-- `start_lists` meets its contract: after k lists the ends are those of k.
use mathlib.Core.Path.{◌≡◌}
use mathlib.Core.Option.{some}
use Rattle.merge.specs.Private.{reader_in, size_in}
use Rattle.read.specs.Bounds.{bound_of}
use Rattle.read.specs.Start.{start_to, nothing_left}
use Rattle.read.proofs.begin.start_lists.Given as goal

abbrev pub invariant-loop-k : goal.invariant-loop-k
invariant-loop-k l =
    start_to l.k (size_in l.layout.bundle) (reader_in l.layout.bundle) (bound_of l.bounds.lower) (bound_of l.bounds.upper) nothing_left ≡ some l.ends
