-- What is still to be written, put at the places reached, makes the whole output and the whole report, turn by turn.
use Prim.Native.Nat.{◌-◌, ◌*◌}
use mathlib.Core.Path.{◌≡◌}
use mathlib.Core.List.{map}
use lib.ListN.{length}
use lib.Seq.{sets}
use Rattle.list.specs.Limits.{header_size}
use Rattle.list.specs.Field.{words}
use Rattle.list.specs.Version.{records}
use Rattle.compaction.specs.Compact.{numbers, report, compacted}
use Rattle.compaction.specs.Turn.{asked_by}
use Rattle.compaction.proofs.Kept.{output, told}
use Rattle.compaction.proofs.Pass.{Held, rest, fates_from}
use Rattle.compaction.proofs.Writing.{Left}
use Rattle.compaction.proofs.stream.write.Given as goal

abbrev pub invariant-loop-number : goal.invariant-loop-number
invariant-loop-number g l =
    let q = g.F.StreamFilter.verdict_on l.filter in
    let left = fates_from l.job l.held.tail (rest q l.number (l.list.count - l.number) l.s l.held.«record») in
    (length l.out ≡ length l.initial.out) × (length l.table ≡ length l.initial.table) × Held l.s l.held.from l.held.«record» (l.list.count - l.number)
    × Left l.out l.at (records (output left)) (sets l.initial.out header_size (records (compacted l.job (asked_by q l.s))))
    × Left l.table (4 * l.entry) (words (numbers l.number (map told left))) (sets l.initial.table 0 (words (report l.job (asked_by q l.s))))
