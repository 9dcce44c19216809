-- A filter's verdicts in a lent table: verdict i is four entries, what it is, and of a replacement the tag, and the start and the length of its value.
use Rattle.std.specs.Prelude.{ℕ, zero, suc, ◌+◌, ◌*◌, ◌/◌, List, Bool, true, false, ◌&&◌, ◌||◌, ltb, leb, eqb, length, take, drop}
use Rattle.list.specs.Pick.{pick, on_result}
use Rattle.list.specs.Field.{word_at}
use Rattle.list.specs.ValueType.{type_of}
use Rattle.list.specs.declared.value_type.ValueType.{ValueType}
use Rattle.list.specs.declared.value_type.ValueType.TheVariants.{Value}
use Rattle.compaction.specs.Fate.{FilterVerdict, Keep, Drop, Replace}

-- Sixteen bytes a verdict; bytes behind the last whole one don't count.
unfoldable pub verdicts_in : List ℕ → ℕ
verdicts_in t = length t / 16

-- A replacement's tag is one of the four, and its value lies in the lent values.
unfoldable pub is_replacement : List ℕ → ℕ → ℕ → ℕ → Bool
is_replacement values tag start n = on_result (type_of tag) (λ kind. leb (start + n) (length values)) (λ why. false)

-- Verdict i says 0, keep, 1, drop, or 2, replace, and then its replacement is good.
unfoldable pub is_verdict : List ℕ → List ℕ → ℕ → Bool
is_verdict t values i = ltb (word_at t (4 * i)) 2
    || (eqb (word_at t (4 * i)) 2 && is_replacement values (word_at t (4 * i + 1)) (word_at t (4 * i + 2)) (word_at t (4 * i + 3)))

-- So do the first n.
unfoldable pub are_verdicts : ℕ → List ℕ → List ℕ → Bool
are_verdicts zero t values = true
are_verdicts (suc n) t values = are_verdicts n t values && is_verdict t values n

-- The kind of a tag; Value, if it is none.
unfoldable pub kind_of : ℕ → ValueType
kind_of tag = on_result (type_of tag) (λ kind. kind) (λ why. Value)

-- What verdict i says, if it is one of the three.
unfoldable pub verdict_at : List ℕ → List ℕ → ℕ → FilterVerdict
verdict_at t values i = pick (eqb (word_at t (4 * i)) 0) Keep
    (pick (eqb (word_at t (4 * i)) 1) Drop
    (Replace (kind_of (word_at t (4 * i + 1))) (take (word_at t (4 * i + 3)) (drop (word_at t (4 * i + 2)) values))))
