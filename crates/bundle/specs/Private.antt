-- Only contracts of private functions and of pieces for the crates above cite these: a reader needs none of them.
use Rattle.std.specs.Prelude.{ℕ, zero, suc, ◌+◌, ◌≤◌, ◌≡◌, List, Bool, ◌&&◌, Option, Some, None, ltb, leb, length, get_or, set}
use Rattle.list.specs.Pick.{pick}
use Rattle.list.specs.Field.{words_in}
use Rattle.bundle.specs.Bundle.{bundle_limit, start_at}
use Rattle.bundle.specs.Look.{base_at, headed, covers}
use Rattle.bundle.specs.declared.look.Span.{Span}
use Rattle.bundle.specs.declared.walk.Fence.{Fence}

-- There are few enough lists, and the first k of them have a header each and end within the bundle.
unfoldable pub reaches : List ℕ → List ℕ → ℕ → Bool
reaches b lens k = leb (words_in lens) bundle_limit && headed k lens && leb (start_at lens k) (length b)

-- Where list k starts, and how many records stand before it.
abbrev pub fence : List ℕ → List ℕ → ℕ → Fence
fence b lens k = record { start = start_at lens k; base = base_at b lens k }

-- What no list stands before; an untouched table is full of it.
abbrev pub first : Fence
first = record { start = 0; base = 0 }

-- The fence of list k, if a walk comes so far.
unfoldable pub fence_at : List ℕ → List ℕ → ℕ → Option Fence
fence_at b lens k = pick (reaches b lens k) (Some (fence b lens k)) None

-- A table with f 0 to f n in its first n + 1 places.
unfoldable pub lay : {A : Type 0} → ℕ → (ℕ → A) → List A → List A
lay zero f t = set t 0 (f 0)
lay (suc n) f t = set (lay n f t) (suc n) (f (suc n))

-- How many of the first n lists are reached, from the first on.
unfoldable pub reached : ℕ → List ℕ → List ℕ → ℕ
reached zero b lens = 0
reached (suc n) b lens = pick (reaches b lens (suc n)) (suc n) (reached n b lens)

-- A table that holds f of each list that is reached and of the end of the last, unless there are too many lists.
unfoldable pub lay_reached : {A : Type 0} → (ℕ → A) → List ℕ → List ℕ → List A → List A
lay_reached f b lens t = pick (leb (words_in lens) bundle_limit) (lay (reached (words_in lens) b lens) f t) t

-- A table of the fences of a bundle: one before each list, and one behind the last.
pub record Laid (b lens : List ℕ) (fences : List Fence) : Type 0 where
  pub stands : (k : ℕ) → k ≤ words_in lens → get_or fences k first ≡ fence b lens k

-- The list between two fences.
abbrev pub span_between : Fence → Fence → Span
span_between own next = record { start = own.start; end = next.start; base = own.base; next = next.base }

-- Where list k lies and where its records stand in the index ..
abbrev pub span_at : List ℕ → List ℕ → ℕ → Span
span_at b lens k = span_between (fence b lens k) (fence b lens (k + 1))

-- .. if lengths and index cover the bundle and it has that list.
unfoldable pub span_of : List ℕ → List ℕ → List ℕ → ℕ → Option Span
span_of b lens t k = pick (covers b lens t && ltb k (words_in lens)) (Some (span_at b lens k)) None
