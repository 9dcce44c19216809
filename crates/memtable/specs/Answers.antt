-- The other answers about an image.
use Rattle.std.specs.Prelude.{ℕ, Bool, eqb, length, true, Result, Ok, Err, Option, Some, None}
use Rattle.list.specs.Pick.{pick, on_result}
use Rattle.list.specs.declared.refusal.Refused.{Refused}
use Rattle.memtable.specs.Figures.{size_of, highest_of}
use Rattle.memtable.specs.Image.{Image}
use Rattle.memtable.specs.declared.Memtable.{Memtable}

-- The sum of key and value lengths held.
unfoldable pub size : Image → Result ℕ Refused
size i = on_result i (λ vs. Ok (size_of vs)) Err

-- How many records there are.
unfoldable pub len : Image → Result ℕ Refused
len i = on_result i (λ vs. Ok (length vs)) Err

-- Whether there are none.
unfoldable pub is_empty : Image → Result Bool Refused
is_empty i = on_result i (λ vs. Ok (eqb (length vs) 0)) Err

-- The highest seqno; an empty table answers none.
unfoldable pub highest_seqno : Image → Result (Option ℕ) Refused
highest_seqno i = on_result i (λ vs. Ok (pick (eqb (length vs) 0) None (Some (highest_of vs)))) Err

-- The flag is set, and all else stays.
unfoldable pub flagged : Memtable → Memtable
flagged m = record { used = m.used; size = m.size; highest = m.highest; flagged = true; id = m.id }
