-- `scan_list` meets its contract: the definition on the records left gives what it gave on all.
use Prim.Native.Nat.{◌-◌}
use mathlib.Core.Path.{◌≡◌}
use Rattle.merge.specs.Private.{reader_in, size_in}
use Rattle.read.specs.Bounds.{bound_of}
use Rattle.read.specs.Private.{scan}
use Rattle.read.proofs.begin.scan_list.Given as goal

abbrev pub invariant-loop-i : goal.invariant-loop-i
invariant-loop-i l =
    scan (size_in l.layout.bundle l.k - l.i) (reader_in l.layout.bundle l.k) (bound_of l.bounds.lower) (bound_of l.bounds.upper) l.i l.first l.last
    ≡ scan (size_in l.layout.bundle l.k) (reader_in l.layout.bundle l.k) (bound_of l.bounds.lower) (bound_of l.bounds.upper) 0 0 0
