-- What the entries of a read are asked to be, said without sorting.
use Rattle.std.specs.Prelude.{ℕ, ◌≡◌, Bool, true, ◌&&◌, ◌⊎◌}
use mathlib.Core.List.{List, [], ◌∷◌, Memᴰ}
use Rattle.list.specs.Order.{compare, is_less}
use Rattle.list.specs.Version.{Version}
use Rattle.merge.specs.Placed.{Placed, before}
use Rattle.merge.specs.Merged.{everything}
use Rattle.read.specs.Bounds.{Bound, within}
use Rattle.read.specs.Entries.{visible, live}

-- e is its key's newest visible version among all lists: every other one comes after it.
pub record Newest (lists : List (List Version)) (snapshot : ℕ) (e : Placed) : Type 0 where
  pub listed : Memᴰ e (everything lists)
  pub seen : visible snapshot e ≡ true
  pub first : (z : Placed) → Memᴰ z (everything lists) → visible snapshot z ≡ true → z.version.key ≡ e.version.key → (z ≡ e) ⊎ (before e z ≡ true)

-- e answers: it is its key's newest visible version, its key is within the bounds, and it is no tombstone.
pub record Answer (lists : List (List Version)) (lo hi : Bound) (snapshot : ℕ) (e : Placed) : Type 0 where
  pub newest : Newest lists snapshot e
  pub inside : within lo hi e ≡ true
  pub alive : live e ≡ true

-- Each key below the next: so each key once.
unfoldable pub ascending : List Placed → Bool
ascending [] = true
ascending (x ∷ []) = true
ascending (x ∷ y ∷ ys) = is_less (compare x.version.key y.version.key) && ascending (y ∷ ys)

-- What a read yields: each key in range once, with its newest version strictly below the snapshot, tombstoned keys left out.
pub record Yields (lists : List (List Version)) (lo hi : Bound) (snapshot : ℕ) (es : List Placed) : Type 0 where
  pub once : ascending es ≡ true
  pub answers : (e : Placed) → Memᴰ e es → Answer lists lo hi snapshot e
  pub all : (e : Placed) → Answer lists lo hi snapshot e → Memᴰ e es
