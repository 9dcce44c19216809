-- Readings of the rules that look right and are not: each is computed on the smallest list that tells.
use mathlib.Core.Path.{◌≡◌, refl}
use mathlib.Core.List.{[], ◌∷◌, flat_map, filter_map}
use mathlib.Core.Bool.{true, false}
use mathlib.Core.Option.{none, some, Option-elim}
use Rattle.list.specs.Pick.{pick}
use Rattle.list.specs.ValueType.{tag_of, is_tombstone}
use Rattle.list.specs.Order.{compare, is_equal}
use Rattle.list.specs.Version.{version, with_seqno}
use Rattle.list.specs.PointRead.{of_key, is_below, point_read_from, point_read}
use Rattle.list.specs.declared.value_type.ValueType.TheVariants.{Value, WeakTombstone, Indirection}
use Rattle.compaction.specs.Fate.{job_of, below, ◌is◌, leave, is_kept, dropped, by_verdict, with_verdicts, unfiltered, filter_item, expired, goes, head_fate, key_fates, prepend, histories, fates}
use Rattle.compaction.specs.Compact.{compacted}
use Rattle.samples.specs.Table.{a}

-- "Every snapshot at or above T is safe": snapshot 7 saw a@3, and after compacting at 5 it sees nothing.
pub not-every-snapshot-is-safe : (point_read (0x61 ∷ []) 7 (a 10 Value ∷ a 3 Value ∷ []) ≡ some (1, a 3 Value))
    × (point_read (0x61 ∷ []) 7 (compacted (job_of 5 false false) (unfiltered (a 10 Value ∷ a 3 Value ∷ []))) ≡ none)
unfolding a job_of version point_read point_read_from is_below pick tag_of is_tombstone compare is_equal with_seqno below of_key ◌is◌ leave is_kept dropped by_verdict with_verdicts unfiltered filter_item expired goes head_fate key_fates prepend histories flat_map filter_map Option-elim fates compacted
not-every-snapshot-is-safe = (refl, refl)

-- "Eviction removes every WeakTombstone": before an expired Value it goes, before an expired Indirection it stays.
pub not-every-weak-tombstone-goes : (compacted (job_of 5 true false) (unfiltered (a 10 WeakTombstone ∷ a 3 Value ∷ [])) ≡ [])
    × (compacted (job_of 5 true false) (unfiltered (a 10 WeakTombstone ∷ a 3 Indirection ∷ [])) ≡ a 10 WeakTombstone ∷ [])
unfolding a job_of version pick tag_of is_tombstone compare is_equal with_seqno below of_key ◌is◌ leave is_kept dropped by_verdict with_verdicts unfiltered filter_item expired goes head_fate key_fates prepend histories flat_map filter_map Option-elim fates compacted
not-every-weak-tombstone-goes = (refl, refl)

-- "Seqno at most the snapshot": it is strictly below.
pub not-at-the-snapshot : (point_read (0x61 ∷ []) 3 (a 3 Value ∷ []) ≡ none) × (point_read (0x61 ∷ []) 4 (a 3 Value ∷ []) ≡ some (0, a 3 Value))
unfolding a version point_read point_read_from is_below pick compare is_equal of_key
not-at-the-snapshot = (refl, refl)

-- "A read that saw nothing sees nothing": zeroing shows a version to a snapshot below T: a@4 V, T=5, snapshot 3.
pub zeroing-shows : (point_read (0x61 ∷ []) 3 (a 4 Value ∷ []) ≡ none)
    × (point_read (0x61 ∷ []) 3 (compacted (job_of 5 false true) (unfiltered (a 4 Value ∷ []))) ≡ some (0, a 0 Value))
unfolding a job_of version point_read point_read_from is_below pick tag_of is_tombstone compare is_equal with_seqno below of_key ◌is◌ leave is_kept dropped by_verdict with_verdicts unfiltered filter_item expired goes head_fate key_fates prepend histories flat_map filter_map Option-elim fates compacted
zeroing-shows = (refl, refl)
