-- One list, judged: 9, then 1 on the header, 2, 3, then record by record, last 8.
use Rattle.std.specs.Prelude.{ℕ, zero, suc, ◌+◌, List, [], ◌∷◌, ltb, eqb, length, take, Result, Ok, Err}
use Rattle.list.specs.Pick.{pick, on_result}
use Rattle.list.specs.Limits.{Mark, ListVersion, Count, width, header_size, list_limit}
use Rattle.list.specs.Field.{le_at}
use Rattle.list.specs.Order.{compare, versions, is_less, is_equal}
use Rattle.list.specs.Refusal.{refuse}
use Rattle.list.specs.Record.{Read, read_at, key_of, no_record}
use Rattle.std.specs.declared.cmp.Ordering.{Ordering}
use Rattle.list.specs.declared.refusal.Refusal.{Refusal}
use Rattle.list.specs.declared.refusal.Refusal.TheVariants.{Truncated, BadMark, BadVersion, Disorder, Excess, TooLarge}
use Rattle.list.specs.declared.record.Record.{Record}
use Rattle.list.specs.declared.refusal.Refused.{Refused}

-- How many records an accepted list or bundle has, or why and where it is refused.
abbrev pub Verdict : Type 0
Verdict = Result ℕ Refused

-- How two records of a list are ordered; the tag takes no part.
unfoldable pub order : List ℕ → Record → Record → Ordering
order s p e = versions (key_of s p) p.seqno (key_of s e) e.seqno

-- The record at a place, after the record p: 7 once it is whole.
unfoldable pub next_at : List ℕ → Record → ℕ → Read
next_at s p at = on_result (read_at s at) (λ e. pick (is_less (order s p e)) (Ok e) (Err Disorder)) Err

-- n records from a place to the end, after the record p, with done records read whole and in order.
unfoldable pub check_from : ℕ → List ℕ → ℕ → Record → ℕ → Verdict
check_from zero s at p done = pick (eqb at (length s)) (Ok done) (refuse Excess 0 done)
check_from (suc n) s at p done = on_result (next_at s p at) (λ e. check_from n s e.next e (done + 1)) (λ why. refuse why 0 done)

-- The three bytes VLS.
unfoldable pub mark : List ℕ
mark = 0x56 ∷ 0x4C ∷ 0x53 ∷ []

-- The record count as a header tells it.
unfoldable pub count_in : List ℕ → ℕ
count_in s = le_at s (width Mark + width ListVersion) (width Count)

-- A list's header: the number of records that it tells of.
unfoldable pub check_header : List ℕ → Result ℕ Refusal
check_header s =
    pick (ltb list_limit (length s)) (Err TooLarge)
    (pick (ltb (length s) header_size) (Err Truncated)
    (pick (is_equal (compare (take (width Mark) s) mark))
    (pick (eqb (le_at s (width Mark) (width ListVersion)) 1) (Ok (count_in s)) (Err BadVersion))
    (Err BadMark)))

-- A whole list: its header, then as many records as that tells of.
unfoldable pub check_list : List ℕ → Verdict
check_list s = on_result (check_header s) (λ count. check_from count s header_size no_record 0) (λ why. refuse why 0 0)
