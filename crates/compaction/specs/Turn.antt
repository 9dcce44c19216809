-- Cited by private contracts and proofs only: a turn of the loop, which holds one record back until it sees the next.
use Rattle.std.specs.Prelude.{ℕ, zero, suc, ◌+◌, ◌-◌, ◌<◌, List, [], ◌∷◌, Bool, true, false, ◌&&◌, not, length}
use Rattle.std.proofs.Math.Option.{Option-elim}
use Rattle.list.specs.Limits.{record_size}
use Rattle.list.specs.Pick.{pick, on_result}
use Rattle.list.specs.ValueType.{is_tombstone}
use Rattle.list.specs.Record.{read_at, no_record}
use Rattle.list.specs.Version.{Version, Bytes, versions_of}
use Rattle.list.specs.PointRead.{of_key}
use Rattle.list.specs.declared.record.Record.{Record}
use Rattle.list.specs.declared.value_type.ValueType.{ValueType}
use Rattle.compaction.specs.declared.stream.Job.{Job}
use Rattle.compaction.specs.declared.stream.Turn.{Turn}
use Rattle.compaction.specs.declared.stream.Compacted.{Compacted}
use Rattle.compaction.specs.declared.filter.StreamFilterVerdict.{StreamFilterVerdict}
use Rattle.compaction.specs.declared.filter.StreamFilterVerdict.TheVariants as code
use Rattle.compaction.specs.Fate.{Fate, FilterVerdict, Keep, Drop, Replace, by_verdict, WithVerdict, with_verdicts, is_kept, leave, expired, head_fate}

-- The verdict that the code's stands for.
unfoldable pub meant : StreamFilterVerdict → FilterVerdict
meant code.Keep = Keep
meant code.Drop = Drop
meant (code.Replace kind value) = Replace kind value.now

-- An accepted list's versions with the verdicts on their numbers.
unfoldable pub asked_by : (ℕ → FilterVerdict) → List ℕ → List WithVerdict
asked_by q s = with_verdicts q 0 (versions_of s)

-- The verdict by which a record goes: tombstones aren't asked.
unfoldable pub verdict_for : ValueType → FilterVerdict → FilterVerdict
verdict_for old q = pick (is_tombstone old) Keep q

-- A replacement's value is no longer than a record can hold, and bytes.
unfoldable pub ShortValue : FilterVerdict → Type 0
ShortValue Keep = Unit {0}
ShortValue Drop = Unit {0}
ShortValue (Replace kind value) = (length value < 4294967296) × Bytes value

-- A filter can be asked about each of n records, and its replacements fit.
unfoldable pub Ready : (ℕ → Type 0) → (ℕ → FilterVerdict) → ℕ → Type 0
Ready can q n = (i : ℕ) → i < n → can i × ShortValue (q i)

unfoldable pub drops : FilterVerdict → Bool
drops Keep = false
drops Drop = true
drops (Replace kind value) = false

unfoldable pub replaces : FilterVerdict → Bool
replaces Keep = false
replaces Drop = false
replaces (Replace kind value) = true

-- The kind of a record after the verdict.
unfoldable pub kind_by : FilterVerdict → ValueType → ValueType
kind_by Keep t = t
kind_by Drop t = t
kind_by (Replace kind value) t = kind

-- What follows v of its key, as far as the next version w tells.
unfoldable pub following : Version → Version → List Version
following v w = pick (of_key v.key w) (w ∷ []) []

-- What a turn decides: whether the record is kept, whether it is reported, and whether the next lies in a tail.
pub record Decided : Type 0 where
  pub kept : Bool
  pub reported : Bool
  pub tail : Bool

-- What is decided of v, of which the filter made f, when w comes, tail saying whether v lies in one.
unfoldable pub turn : Job → Bool → Fate → Version → Version → Decided
turn j tail f v w = record {
  kept = pick tail false (is_kept (head_fate j f (following v w)));
  reported = pick tail true f.reported;
  tail = pick tail (of_key v.key w) (is_kept f && expired j (following v w));
}

-- The same as the code tells it: the record leaves by its verdict, or by drop.
pub record Told : Type 0 where
  pub leaves : FilterVerdict
  pub reported : Bool
  pub tail : Bool

unfoldable pub told_by : FilterVerdict → Decided → Told
told_by q d = record { leaves = pick d.kept q Drop; reported = d.reported; tail = d.tail }

-- The turn that the code's stands for.
unfoldable pub turned : Turn → Told
turned t = record { leaves = meant t.leaves; reported = t.reported; tail = t.tail }

unfoldable pub dropped_by : Bool → Told
dropped_by tail = record { leaves = Drop; reported = true; tail = tail }

-- The turn of a version by a verdict.
unfoldable pub turn_by : Job → Bool → FilterVerdict → Version → Version → Told
turn_by j tail q v w = told_by q (turn j tail (by_verdict q v) v w)

-- How many bytes leave for the record e, which stands from a place on.
unfoldable pub length_by : FilterVerdict → ℕ → Record → ℕ
length_by Keep from e = e.next - from
length_by Drop from e = 0
length_by (Replace kind value) from e = record_size + e.klen + length value

-- What leaves of f, as it leaves.
unfoldable pub leaving : Job → Fate → List Version
leaving j f = Option-elim f.leaves [] (λ h. leave j h ∷ [])

-- The next of n records, from a place; after the last, one that no record is like.
unfoldable pub next_of : ℕ → List ℕ → ℕ → Record
next_of zero s at = no_record
next_of (suc n) s at = on_result (read_at s at) (λ e. e) (λ k. no_record)

-- A turn and the length of what leaves, counted.
unfoldable pub counted : Compacted → Told → ℕ → Compacted
counted f r n = record {
  length = f.length + n;
  kept = f.kept + pick (not (drops r.leaves)) 1 0;
  reported = f.reported + pick r.reported 1 0;
}
