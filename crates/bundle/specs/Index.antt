-- The index of a bundle: each record's start, counted from the bundle's first byte, list after list.
use Rattle.std.specs.Prelude.{ℕ, zero, suc, ◌+◌, List, [], ◌∷◌, ◌++◌, leb, Ok, Err}
use Rattle.std.proofs.lemmas.List.Edits.{sets}
use Rattle.list.specs.Pick.{pick, on_result}
use Rattle.list.specs.Limits.{header_size}
use Rattle.list.specs.Field.{words, words_in}
use Rattle.list.specs.Record.{read_at}
use Rattle.list.specs.Check.{count_in}
use Rattle.bundle.specs.Bundle.{start_at, list_at, judge_bundle}
use Rattle.list.specs.declared.refusal.Refusal.TheVariants.{NoRoom}
use Rattle.list.specs.Check.{Verdict}
use Rattle.list.specs.Refusal.{refuse}

-- Where the record at a place ends; the same place where none is whole.
unfoldable pub next_from : List ℕ → ℕ → ℕ
next_from s at = on_result (read_at s at) (λ e. e.next) (λ k. at)

-- Where n records of a list start in its bundle: the list itself starts there at start, and the first of them at a place of the list.
unfoldable pub starts : ℕ → List ℕ → ℕ → ℕ → List ℕ
starts zero s start at = []
starts (suc n) s start at = (start + at) ∷ starts n s start (next_from s at)

-- How many records list k has, by the count in its header as it reads.
unfoldable pub count_at : List ℕ → List ℕ → ℕ → ℕ
count_at b lens k = count_in (list_at b lens k)

-- The starts of n lists' records, from list k on.
unfoldable pub places : ℕ → List ℕ → List ℕ → ℕ → List ℕ
places zero b lens k = []
places (suc n) b lens k = starts (count_at b lens k) (list_at b lens k) (start_at lens k) header_size ++ places n b lens (k + 1)

-- An opening: the bundle's own refusals, then 10.
unfoldable pub open_bundle : List ℕ → List ℕ → List ℕ → Verdict
open_bundle b lens t = on_result (judge_bundle b lens) (λ c. pick (leb c (words_in t)) (Ok c) (refuse NoRoom 0 0)) Err

-- The index afterwards: entries past the last record stay, and so do all where the opening is refused.
unfoldable pub indexed : Verdict → List ℕ → List ℕ → List ℕ → List ℕ
indexed v b lens t = on_result v (λ c. sets t 0 (words (places (words_in lens) b lens 0))) (λ _. t)
