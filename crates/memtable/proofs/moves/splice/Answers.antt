-- The tail is moved, then the record, the count and the zeros are written.
use mathlib.Core.Path.{◌∙◌}
use native.Mathlib.Omega.{arith}
use Rattle.list.specs.Limits.{record_size}
use Rattle.list.specs.Version.{version}
use Rattle.list.proofs.Fits.{length-record}
use Rattle.memtable.proofs.Moving.{moves, clears}
use Rattle.memtable.proofs.Splicing.{splices}
use Rattle.memtable.proofs.moves.splice.Goals as goal

pub copy_within-requires-clause-dest_in_bounds : goal.copy_within-requires-clause-dest_in_bounds
unfolding record_size
copy_within-requires-clause-dest_in_bounds c = omega arith

pub slice_bounds-fill-end : goal.slice_bounds-fill-end
unfolding record_size
slice_bounds-fill-end c = let m = c.max.ensures in omega arith

pub returns : goal.returns
unfolding record_size version
returns c =
    let a = c.args in
    let r = length-record (version a.version.key.now a.version.seqno a.version.kind a.version.value.now) in
    let m = c.max.ensures in
    splices _ _ _ _ _ _ _ _ _ _ _ (c.copy_within.ensures.after ∙ moves _ _ _ _ (omega arith)) c.write_record.ensures c.put_count.ensures
    (clears _ _ _ a.used _ m (c.fill.ensures.after (λ y e. e)) (omega arith) (omega arith)) (omega arith)
