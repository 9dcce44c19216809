-- What a sample row asks, and how the definitions answer that the public contracts cite: bytes in, bytes out.
use Rattle.std.specs.Prelude.{ℕ, ◌-◌, length, take, replicate, Result, Option}
use Rattle.std.specs.declared.ops.Bound.TheVariants.{Included, Unbounded}
use mathlib.Core.List.{List, [], ◌∷◌, ◌++◌, map, flat_map, foldl}
use Rattle.list.specs.Field.{words}
use Rattle.list.specs.ValueType.{tag_of}
use Rattle.list.specs.Check.{Verdict, check_list}
use Rattle.list.specs.Version.{Version, encode}
use Rattle.list.specs.declared.refusal.Refused.{Refused}
use Rattle.bundle.specs.Index.{open_bundle, indexed}
use Rattle.memtable.specs.Image.{judge}
use Rattle.memtable.specs.Get.{got}
use Rattle.memtable.specs.Calls.{Table, table_after, table_new}
use Rattle.memtable.specs.declared.Found.{Found}
use Rattle.merge.specs.Placed.{Placed}
use Rattle.merge.specs.Merge.{Reply}
use Rattle.merge.specs.declared.ends.End.{End}
use Rattle.read.specs.Bounds.{Bound}
use Rattle.read.specs.Prefix.{Prefixed, prefixed, upper_written}
use Rattle.read.specs.Entries.{entries}
use Rattle.read.specs.TwoEnds.{taking}
use Rattle.read.specs.Start.{start_in}
use Rattle.read.specs.Cursor.{Step, step_in}
use Rattle.read.specs.declared.cursor.Cursor.{Cursor}
use Rattle.compaction.specs.Compaction.{Compaction, answer_to, filtered, filtered_to, noted, output_at, report_at, written}
use Rattle.compaction.specs.declared.stream.Job.{Job}

-- A lent buffer holds n bytes AA; what is written stands at its front.
unfoldable pub lent : ℕ → List ℕ → List ℕ
lent n bs = bs ++ replicate (n - length bs) 0xAA

-- The list that a memtable holds after these inserts, and a point read of it; a prefix; steps on a cursor over these lists at a snapshot, without bounds,
-- and the same taken from the entries; a compaction; one with a table of verdicts and values.
pub data Question : Type 0 where
  Inserted : List Version → Question
  Get : List Version → List ℕ → ℕ → Question
  Prefix : List ℕ → Question
  Mix Taken : List (List Version) → ℕ → List End → Question
  Compact : List Version → Job → Question
  Filter : List Version → List ℕ → List ℕ → Job → Question

-- Of a prefix the lower bound, which is the prefix itself, what is told of the upper, and the buffer; of a compaction the answer, the output and the report table.
pub data Answer : Type 0 where
  Listed : List ℕ → Verdict → Answer
  Sought : Result (Option Found) Refused → Answer
  Bounds : Bound → Prefixed → List ℕ → Answer
  Steps : List Step → Answer
  Replied : List (Reply Placed) → Answer
  Wrote : Compaction → List ℕ → List ℕ → Answer

-- A memtable in a lent buffer, after these inserts.
unfoldable pub table_of : List Version → Table
table_of = foldl (λ t v. table_after t (record { key = v.key; seqno = v.seqno; tag = tag_of v.kind; value = v.value })) (table_new 1 (lent 96 []))

-- Steps one after the other, each from the cursor that the one before left.
unfoldable pub stepping : List End → List ℕ → List ℕ → List ℕ → Cursor → List Step
stepping [] b lens t c = []
stepping (e ∷ es) b lens t c = (step_in e b lens t c).step ∷ stepping es b lens t (step_in e b lens t c).cursor

-- Steps go over a bundle b of the lists, with its lengths, and the index t that an opening fills.
unfoldable pub answer : Question → Answer
answer (Inserted vs) = let t = table_of vs in let image = take t.state.used t.buffer in Listed image (check_list image)
answer (Get vs key seqno) = let t = table_of vs in Sought (got key seqno (judge t.state t.buffer))
answer (Prefix p) = Bounds (Included p) (prefixed p 4) (upper_written (prefixed p 4) p (lent 4 []))
answer (Mix lists snapshot ends) =
    let b = flat_map encode lists in
    let lens = words (map (λ (vs : List Version). length (encode vs)) lists) in
    let t = indexed (open_bundle b lens (lent 40 [])) b lens (lent 40 []) in
    Steps (stepping ends b lens t (start_in b lens t Unbounded Unbounded snapshot).cursor)
answer (Taken lists snapshot ends) = Replied (taking ends (entries lists Unbounded Unbounded snapshot))
answer (Compact vs j) = let s = encode vs in let r = answer_to j s (lent 48 []) (lent 12 []) in Wrote r (output_at r j s (lent 48 [])) (report_at r j s (lent 12 []))
answer (Filter vs t values j) =
    let s = encode vs in let bs = filtered t values s in let r = filtered_to j t values s (lent 48 []) (lent 12 []) in
    Wrote r (written r j bs (lent 48 [])) (noted r j bs (lent 12 []))
