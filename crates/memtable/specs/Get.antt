-- The point read of a memtable.
use Rattle.std.specs.Prelude.{ℕ, ◌+◌, List, ltb, eqb, length, take, Result, Ok, Err, Option, Some, None}
use Rattle.std.proofs.Math.Option.{Option as Maybe, none, some}
use Rattle.list.specs.Pick.{pick, on_result}
use Rattle.list.specs.Limits.{header_size, record_size, key_limit}
use Rattle.list.specs.Refusal.{refuse}
use Rattle.list.specs.Version.{Version, records}
use Rattle.list.specs.PointRead.{point_read}
use Rattle.list.specs.declared.refusal.Refusal.TheVariants.{LongKey}
use Rattle.list.specs.declared.refusal.Refused.{Refused}
use Rattle.memtable.specs.Image.{Image}
use Rattle.memtable.specs.declared.Found.{Found}

-- Of version i of vs: its record number, seqno and tag, and the value's start and length in the image: behind the header, the records before it, and its own fields and key.
unfoldable pub found_in : List Version → ℕ → Version → Found
found_in vs i v =
    record { at = i; seqno = v.seqno; kind = v.kind; start = header_size + length (records (take i vs)) + record_size + length v.key; len = length v.value }

unfoldable pub found : List Version → Maybe (ℕ × Version) → Option Found
found vs none = None
found vs (some (i, v)) = Some (found_in vs i v)

-- Where the image holds vs: seqno 0 finds nothing, even with an overlong key; then 5; an empty key finds nothing.
unfoldable pub got_in : List ℕ → ℕ → List Version → Result (Option Found) Refused
got_in key seqno vs =
    pick (eqb seqno 0) (Ok None)
    (pick (ltb key_limit (length key)) (refuse LongKey 0 0)
    (pick (eqb (length key) 0) (Ok None) (Ok (found vs (point_read key seqno vs)))))

-- The image first.
unfoldable pub got : List ℕ → ℕ → Image → Result (Option Found) Refused
got key seqno i = on_result i (got_in key seqno) Err
