-- All lists' versions, in order.
use Rattle.std.specs.Prelude.{ℕ, zero, suc, List, [], ◌∷◌, ◌++◌, length, get_or}
use Rattle.list.specs.Pick.{pick}
use Rattle.list.specs.Version.{Version}
use Rattle.merge.specs.Placed.{Placed, before}

-- The versions of list k, numbered from i.
unfoldable pub numbered : ℕ → ℕ → List Version → List Placed
numbered k i [] = []
numbered k i (v ∷ vs) = record { version = v; list = k; number = i } ∷ numbered k (suc i) vs

-- What n lists hold, list after list.
unfoldable pub gather : ℕ → (ℕ → List Placed) → List Placed
gather zero f = []
gather (suc n) f = gather n f ++ f n

unfoldable pub everything : List (List Version) → List Placed
everything lists = gather (length lists) (λ k. numbered k 0 (get_or lists k []))

-- In order.
unfoldable pub among : Placed → List Placed → List Placed
among x [] = x ∷ []
among x (y ∷ ys) = pick (before y x) (y ∷ among x ys) (x ∷ y ∷ ys)

unfoldable pub sort : List Placed → List Placed
sort [] = []
sort (x ∷ xs) = among x (sort xs)
