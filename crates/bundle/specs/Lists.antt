-- The versions that a bundle's lists hold; the theorems speak of them.
use Rattle.std.specs.Prelude.{ℕ, zero, suc, ◌+◌, List, [], ◌∷◌}
use Rattle.list.specs.Field.{words_in}
use Rattle.list.specs.Version.{Version, versions_of}
use Rattle.bundle.specs.Bundle.{list_at}

unfoldable pub lists_from : ℕ → List ℕ → List ℕ → ℕ → List (List Version)
lists_from zero b lens k = []
lists_from (suc n) b lens k = versions_of (list_at b lens k) ∷ lists_from n b lens (k + 1)

unfoldable pub lists_of : List ℕ → List ℕ → List (List Version)
lists_of b lens = lists_from (words_in lens) b lens 0
