-- What demand 3 speaks of: what a point read gives the reader, which versions are their key's newest, the numbers in a report,
-- what the filter makes of a record, and keys whose verdicts are all keep.
use Rattle.std.specs.Prelude.{ℕ, zero, suc, ◌≡◌, List, [], ◌∷◌, Bool, true, ◌&&◌, not, ltb, eqb}
use Rattle.std.proofs.Math.Option.{Option, none, some, Option-elim}
use Rattle.list.specs.Pick.{pick}
use Rattle.list.specs.Field.{word_at}
use Rattle.list.specs.ValueType.{is_tombstone}
use Rattle.list.specs.Version.{Version}
use Rattle.list.specs.PointRead.{of_key}
use Rattle.list.specs.declared.value_type.ValueType.{ValueType}
use Rattle.compaction.specs.declared.stream.Job.{Job}
use Rattle.compaction.specs.Fate.{WithVerdict, Keep, filter_item, below}

-- What a point read gives the reader: kind and value; nothing where the key is absent, as after a tombstone.
unfoldable pub reads_as : Option (ℕ × Version) → Option (ValueType × List ℕ)
reads_as none = none
reads_as (some (i, v)) = pick (is_tombstone v.kind) none (some (v.kind, v.value))

-- v is its key's newest: the list has no version of its key with a higher seqno.
unfoldable pub is_newest : List Version → Version → Bool
is_newest [] v = true
is_newest (w ∷ ws) v = not (of_key v.key w && ltb v.seqno w.seqno) && is_newest ws v

-- What demand 3 lets a compaction drop: a version below T that is not its key's newest.
unfoldable pub droppable : Job → List Version → Version → Bool
droppable j vs v = below j v && not (is_newest vs v)

-- n entries of a table, from entry i on.
unfoldable pub words_from : ℕ → ℕ → List ℕ → List ℕ
words_from i zero t = []
words_from i (suc n) t = word_at t i ∷ words_from (suc i) n t

-- What the filter makes of a record; of one that it drops, the record as it was.
unfoldable pub made : WithVerdict → Version
made a = Option-elim (filter_item a).leaves a.version (λ h. h)

-- How often a number stands in a list.
unfoldable pub times : ℕ → List ℕ → ℕ
times n [] = 0
times n (x ∷ xs) = pick (eqb x n) (suc (times n xs)) (times n xs)

-- Every verdict on a key is keep.
unfoldable pub AllKeep : List ℕ → List WithVerdict → Type 0
AllKeep k [] = Unit {0}
AllKeep k (a ∷ bs) = (of_key k a.version ≡ true → a.verdict ≡ Keep) × AllKeep k bs
