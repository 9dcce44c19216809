-- Starting a read, on any bytes.
use Rattle.std.specs.Prelude.{ℕ, zero, suc, List, [], ◌∷◌, Bool, false, ltb, length, set, replicate, Result, Ok, Err}
use Rattle.std.specs.declared.ops.Bound.TheVariants.{Included, Excluded, Unbounded}
use Rattle.std.proofs.Math.Option.{Option, none, some, Option-elim}
use Rattle.list.specs.Pick.{pick, on_result}
use Rattle.list.specs.Field.{words_in}
use Rattle.list.specs.Limits.{key_limit}
use Rattle.list.specs.Refusal.{refuse}
use Rattle.list.specs.declared.refusal.Refused.{Refused}
use Rattle.list.specs.declared.refusal.Refusal.TheVariants.{LongKey, Unfit}
use Rattle.bundle.specs.Bundle.{bundle_limit}
use Rattle.bundle.specs.Index.{count_at}
use Rattle.bundle.specs.Look.{covers}
use Rattle.merge.specs.Placed.{Placed}
use Rattle.merge.specs.declared.ends.Ends.{Ends}
use Rattle.merge.specs.Reader.{reader}
use Rattle.read.specs.Bounds.{Bound, from_lower, to_upper}
use Rattle.read.specs.declared.begin.Started.{Started}

-- Starting reads every record: m records of a source from record i on, if each is whole.
unfoldable pub recorded : ℕ → (ℕ → Option Placed) → ℕ → Option (List Placed)
recorded zero look i = some []
recorded (suc m) look i = Option-elim (look i) none (λ x. Option-elim (recorded m look (suc i)) none (λ xs. some (x ∷ xs)))

-- How many records stand before the first that the lower bound admits.
unfoldable pub first_from : Bound → List Placed → ℕ
first_from lo [] = 0
first_from lo (x ∷ xs) = pick (from_lower lo x.version.key) 0 (suc (first_from lo xs))

-- How many stand up to the last that the upper bound admits.
unfoldable pub last_to : Bound → List Placed → ℕ
last_to hi [] = 0
last_to hi (x ∷ xs) = pick (ltb 0 (last_to hi xs)) (suc (last_to hi xs)) (pick (to_upper hi x.version.key) 1 0)

-- A source's entries run from the one to the other; if these cross, it has none.
unfoldable pub end_to : Bound → Bound → List Placed → ℕ
end_to lo hi xs = pick (ltb (last_to hi xs) (first_from lo xs)) (first_from lo xs) (last_to hi xs)

-- Other ends of source k.
unfoldable pub with_ends : Ends → ℕ → ℕ → ℕ → Ends
with_ends c k f b = record { front = set c.front k f; back = set c.back k b }

-- The first n sources, source k having count k records, from ends with nothing left; none if a record isn't whole.
unfoldable pub start_to : ℕ → (ℕ → ℕ) → (ℕ → ℕ → Option Placed) → Bound → Bound → Ends → Option Ends
start_to zero count look lo hi c = some c
start_to (suc n) count look lo hi c =
    Option-elim (start_to n count look lo hi c) none
    (λ d. Option-elim (recorded (count n) (look n) 0) none (λ xs. some (with_ends d n (first_from lo xs) (end_to lo hi xs))))

-- Nothing left: all positions 0.
unfoldable pub nothing_left : Ends
nothing_left = record { front = replicate bundle_limit 0; back = replicate bundle_limit 0 }

-- 5: a bound over 65,535 bytes.
unfoldable pub overlong : Bound → Bool
overlong (Included k) = ltb key_limit (length k)
overlong (Excluded k) = ltb key_limit (length k)
overlong Unbounded = false

unfoldable pub begun : Ends → ℕ → Started
begun c snapshot = record { outcome = Ok tt; cursor = record { front = c.front; back = c.back; snapshot = snapshot } }

-- A refused start gives a cursor with nothing left.
unfoldable pub refused_start : Refused → ℕ → Started
refused_start why snapshot = record { outcome = Err why; cursor = (begun nothing_left snapshot).cursor }

-- The ends that a read begins with: 11, then the lower bound, then the upper.
unfoldable pub begin_in : List ℕ → List ℕ → List ℕ → Bound → Bound → Result Ends Refused
begin_in b lens t lo hi =
    Option-elim (pick (covers b lens t) (start_to (words_in lens) (count_at b lens) (reader b lens t) lo hi nothing_left) none)
    (refuse Unfit 0 0)
    (λ c. pick (overlong lo) (refuse LongKey 0 0) (pick (overlong hi) (refuse LongKey 0 0) (Ok c)))

-- Starting.
unfoldable pub start_in : List ℕ → List ℕ → List ℕ → Bound → Bound → ℕ → Started
start_in b lens t lo hi snapshot =
    on_result (begin_in b lens t lo hi) (λ c. begun c snapshot) (λ why. refused_start why snapshot)
