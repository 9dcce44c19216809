-- A bundle: up to 16 lists end to end, with a table of their lengths.
use Rattle.std.specs.Prelude.{ℕ, zero, suc, ◌+◌, List, ltb, eqb, length, take, drop, Ok}
use Rattle.list.specs.Pick.{pick, on_result}
use Rattle.list.specs.Field.{words_in, word_at}
use Rattle.list.specs.Check.{check_list}
use Rattle.list.specs.declared.refusal.Refusal.TheVariants.{Excess, TooLarge}
use Rattle.list.specs.Check.{Verdict}
use Rattle.list.specs.Refusal.{refuse}

unfoldable pub bundle_limit : ℕ
bundle_limit = 16

-- Where list k starts: behind the lengths before it.
unfoldable pub start_at : List ℕ → ℕ → ℕ
start_at lens zero = 0
start_at lens (suc k) = start_at lens k + word_at lens k

-- Each list is the part between its own start and end.
unfoldable pub list_at : List ℕ → List ℕ → ℕ → List ℕ
list_at b lens k = take (word_at lens k) (drop (start_at lens k) b)

-- n lists in turn, from list k on, after lists of total records; each is judged as a single list.
unfoldable pub judge_from : ℕ → List ℕ → List ℕ → ℕ → ℕ → Verdict
judge_from zero b lens k total = Ok total
judge_from (suc n) b lens k total =
    on_result (check_list (list_at b lens k))
    (λ c. judge_from n b lens (k + 1) (total + c))
    (λ f. refuse f.refusal k f.«record»)

-- A bundle: 9 on the number of lists, 8 on lengths, then lists in turn.
unfoldable pub judge_bundle : List ℕ → List ℕ → Verdict
judge_bundle b lens =
    pick (ltb bundle_limit (words_in lens)) (refuse TooLarge 0 0)
    (pick (eqb (start_at lens (words_in lens)) (length b)) (judge_from (words_in lens) b lens 0 0) (refuse Excess 0 0))
