-- The twelve rows marked P, in the paper's order, and rows that tell how a filter's verdicts are read.
use Rattle.std.specs.Prelude.{ℕ, true, false, Ok, Some, None}
use Rattle.std.specs.declared.ops.Bound.TheVariants.{Included}
use mathlib.Core.List.{List, [], ◌∷◌, flat_map}
use Rattle.list.specs.Field.{words}
use Rattle.list.specs.Version.{Version, version, encode}
use Rattle.list.specs.declared.value_type.ValueType.{ValueType}
use Rattle.list.specs.declared.value_type.ValueType.TheVariants.{Value, Tombstone, WeakTombstone, Indirection}
use Rattle.list.specs.declared.refusal.Refusal.TheVariants.{BadVerdict}
use Rattle.list.specs.Refusal.{refuse}
use Rattle.merge.specs.Placed.{Placed}
use Rattle.merge.specs.Merge as merge
use Rattle.merge.specs.declared.ends.End.TheVariants.{Front, Back}
use Rattle.read.specs.Cursor.{Step}
use Rattle.compaction.specs.Fate.{job_of}
use Rattle.compaction.specs.Compaction.{answered}
use Rattle.samples.specs.Ask.{Question, Inserted, Get, Prefix, Mix, Taken, Compact, Filter, Answer, Listed, Sought, Bounds, Steps, Replied, Wrote, lent}

-- a@seqno of this kind, with no value; likewise b and c.
unfoldable pub a : ℕ → ValueType → Version
a seqno kind = version (0x61 ∷ []) seqno kind []

unfoldable pub b : ℕ → ValueType → Version
b seqno kind = version (0x62 ∷ []) seqno kind []

unfoldable pub c : ℕ → ValueType → Version
c seqno kind = version (0x63 ∷ []) seqno kind []

unfoldable pub abc : List ℕ
abc = 0x61 ∷ 0x62 ∷ 0x63 ∷ []

-- a@7, abc@5, abc@4, abc@3, put in another order; each value is one byte.
unfoldable pub four : List Version
four = version abc 4 Value (0x34 ∷ []) ∷ version (0x61 ∷ []) 7 Value (0x37 ∷ []) ∷ version abc 3 Value (0x33 ∷ []) ∷ version abc 5 Value (0x35 ∷ []) ∷ []

-- list 0: a@5 V, c@2 T; list 1: a@3 V, b@4 V, c@1 V
unfoldable pub two : List (List Version)
two = (a 5 Value ∷ c 2 Tombstone ∷ []) ∷ (a 3 Value ∷ b 4 Value ∷ c 1 Value ∷ []) ∷ []

unfoldable pub entry : Version → ℕ → ℕ → merge.Reply Placed
entry v list number = merge.Found (record { version = v; list = list; number = number })

-- A step that comes to this record of this list.
unfoldable pub step_to : ℕ → ℕ → Step
step_to list number = Ok (Some (record { list = list; «record» = number }))

-- A compaction that leaves these versions in so many bytes, so many kept, and reports these records, so many.
unfoldable pub remains : ℕ → ℕ → ℕ → List Version → List ℕ → Answer
remains bytes kept reported vs report = Wrote (answered bytes kept reported) (lent 48 (encode vs)) (lent 12 (words report))

-- A row: what is asked, one question after the other, and what is told.
unfoldable pub table : List (List Question × List Answer)
table =
    (Inserted [] ∷ [], Listed (0x56 ∷ 0x4C ∷ 0x53 ∷ 0x01 ∷ 0x00 ∷ 0x00 ∷ 0x00 ∷ 0x00 ∷ 0x00 ∷ []) (Ok 0) ∷ [])
    ∷ (Inserted (version (0x61 ∷ []) 7 Value (0x78 ∷ []) ∷ []) ∷ [], Listed (0x56 ∷ 0x4C ∷ 0x53 ∷ 0x01 ∷ 0x00 ∷ 0x01 ∷ 0x00 ∷ 0x00 ∷ 0x00 ∷ 0x01 ∷ 0x00 ∷ 0x61 ∷ 0x07 ∷ 0x00 ∷ 0x00 ∷ 0x00 ∷ 0x00 ∷ 0x00 ∷ 0x00 ∷ 0x00 ∷ 0x00 ∷ 0x01 ∷ 0x00 ∷ 0x00 ∷ 0x00 ∷ 0x78 ∷ []) (Ok 1) ∷ [])
    ∷ (Prefix (0x61 ∷ 0xFF ∷ []) ∷ [], Bounds (Included (0x61 ∷ 0xFF ∷ [])) (Ok (Some 1)) (lent 4 (0x62 ∷ [])) ∷ [])
    ∷ (Prefix (0xFF ∷ 0xFF ∷ []) ∷ [], Bounds (Included (0xFF ∷ 0xFF ∷ [])) (Ok None) (lent 4 []) ∷ [])
    ∷ (Get four abc 4 ∷ Get four abc 3 ∷ [], Sought (Ok (Some (record { at = 3; seqno = 3; kind = Value; start = 82; len = 1 }))) ∷ Sought (Ok None) ∷ [])
    ∷ (Mix two 6 (Back ∷ Front ∷ Front ∷ []) ∷ Taken two 6 (Back ∷ Front ∷ Front ∷ []) ∷ [], Steps (step_to 1 1 ∷ step_to 0 0 ∷ Ok None ∷ []) ∷ Replied (entry (b 4 Value) 1 1 ∷ entry (a 5 Value) 0 0 ∷ merge.Nothing ∷ []) ∷ [])
    ∷ (Mix two 2 (Front ∷ []) ∷ Taken two 2 (Front ∷ []) ∷ [], Steps (step_to 1 2 ∷ []) ∷ Replied (entry (c 1 Value) 1 2 ∷ []) ∷ [])
    ∷ (Compact (a 10 WeakTombstone ∷ a 3 Value ∷ []) (job_of 5 false false) ∷ [], remains 9 0 1 [] (1 ∷ []) ∷ [])
    ∷ (Compact (a 10 WeakTombstone ∷ a 3 Indirection ∷ []) (job_of 5 true false) ∷ [], remains 25 1 1 (a 10 WeakTombstone ∷ []) (1 ∷ []) ∷ [])
    ∷ (Compact (a 10 Tombstone ∷ a 5 Value ∷ []) (job_of 5 true false) ∷ [], remains 41 2 0 (a 10 Tombstone ∷ a 5 Value ∷ []) [] ∷ [])
    ∷ (Compact (a 10 Tombstone ∷ a 4 Value ∷ []) (job_of 5 true false) ∷ [], remains 9 0 1 [] (1 ∷ []) ∷ [])
    ∷ (Compact (a 4 Value ∷ []) (job_of 5 false true) ∷ Compact (a 4 Value ∷ []) (job_of 4 false true) ∷ [], remains 25 1 0 (a 0 Value ∷ []) [] ∷ remains 25 1 0 (a 4 Value ∷ []) [] ∷ [])
    ∷ []

-- A verdict's four entries.
unfoldable pub keep : List ℕ
keep = 0 ∷ 0 ∷ 0 ∷ 0 ∷ []

unfoldable pub drop : List ℕ
drop = 1 ∷ 0 ∷ 0 ∷ 0 ∷ []

unfoldable pub replace : ℕ → ℕ → ℕ → List ℕ
replace tag start length = 2 ∷ tag ∷ start ∷ length ∷ []

-- Verdicts on these versions, with the values x and y.
unfoldable pub filter : List Version → List (List ℕ) → ℕ → Question
filter vs verdicts threshold = Filter vs (flat_map words verdicts) (0x78 ∷ 0x79 ∷ []) (job_of threshold true false)

-- The version behind a dropped one does not expire; the drop of a version does not reach the tombstone before it; a replaced version is judged by its
-- new tag, the tail's first by its old one; a value is a part of those lent; verdicts are as many as records, and a verdict in the tail is judged too.
unfoldable pub filters : List (Question × Answer)
filters =
    (filter (a 10 Value ∷ a 8 Value ∷ a 3 Value ∷ []) (keep ∷ drop ∷ keep ∷ []) 5, remains 41 2 1 (a 10 Value ∷ a 3 Value ∷ []) (1 ∷ []))
    ∷ (filter (a 10 Tombstone ∷ a 3 Value ∷ []) (keep ∷ drop ∷ []) 0, remains 25 1 1 (a 10 Tombstone ∷ []) (1 ∷ []))
    ∷ (filter (a 10 Value ∷ a 3 Value ∷ []) (replace 2 0 0 ∷ keep ∷ []) 5, remains 9 0 2 [] (0 ∷ 1 ∷ []))
    ∷ (filter (a 10 WeakTombstone ∷ a 3 Value ∷ []) (keep ∷ replace 4 0 0 ∷ []) 5, remains 9 0 1 [] (1 ∷ []))
    ∷ (filter (a 7 Value ∷ []) (replace 4 1 1 ∷ []) 5, remains 26 1 1 (version (0x61 ∷ []) 7 Indirection (0x79 ∷ []) ∷ []) (0 ∷ []))
    ∷ (filter (a 7 Value ∷ []) [] 5, Wrote (refuse BadVerdict 0 0) (lent 48 []) (lent 12 []))
    ∷ (filter (a 7 Value ∷ a 3 Value ∷ []) (keep ∷ replace 0 2 1 ∷ []) 5, Wrote (refuse BadVerdict 0 0) (lent 48 []) (lent 12 []))
    ∷ []
