-- Record i of list k, found through lengths and index, also where the bundle was altered after opening.
use Rattle.std.specs.Prelude.{ℕ, zero, suc, ◌+◌, ◌-◌, List, Bool, true, ◌&&◌, ltb, leb, eqb, length, take, drop, Err}
use Rattle.list.specs.Pick.{pick}
use Rattle.list.specs.Limits.{header_size}
use Rattle.list.specs.Field.{words_in, word_at}
use Rattle.list.specs.Record.{whole_at}
use Rattle.bundle.specs.Bundle.{bundle_limit, start_at}
use Rattle.bundle.specs.Index.{count_at}
use Rattle.list.specs.declared.refusal.Refusal.TheVariants.{Truncated}
use Rattle.list.specs.Record.{Read}

-- How many records stand before list k, by the counts in the headers as they read.
unfoldable pub base_at : List ℕ → List ℕ → ℕ → ℕ
base_at b lens zero = 0
base_at b lens (suc k) = base_at b lens k + count_at b lens k

-- A list that isn't there has no records.
unfoldable pub records_in : List ℕ → List ℕ → ℕ → ℕ
records_in b lens k = pick (ltb k (words_in lens)) (count_at b lens k) 0

-- The first n lengths are at least a header each.
unfoldable pub headed : ℕ → List ℕ → Bool
headed zero lens = true
headed (suc n) lens = leb header_size (word_at lens n) && headed n lens

-- Lengths cover the bundle when there are at most 16, each is at least a header and they add up to it.
unfoldable pub lengths_cover : List ℕ → List ℕ → Bool
lengths_cover b lens = leb (words_in lens) bundle_limit && headed (words_in lens) lens && eqb (start_at lens (words_in lens)) (length b)

-- An index covers it when it has an entry for every record, by these counts.
unfoldable pub covers : List ℕ → List ℕ → List ℕ → Bool
covers b lens t = lengths_cover b lens && leb (base_at b lens (words_in lens)) (words_in t)

-- The record at a place of the bundle, whole in the list of len bytes from start.
unfoldable pub place_in : List ℕ → ℕ → ℕ → ℕ → Read
place_in b start len at = pick (leb start at) (whole_at (take len (drop start b)) (at - start)) (Err Truncated)

-- Record i of list k, from its index entry.
unfoldable pub look_at : List ℕ → List ℕ → List ℕ → ℕ → ℕ → Read
look_at b lens t k i = place_in b (start_at lens k) (word_at lens k) (word_at t (base_at b lens k + i))
