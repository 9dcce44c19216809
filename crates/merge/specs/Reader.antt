-- What a reader finds in a bundle through its lengths and index, on any bytes. Each list is a source.
use Rattle.std.specs.Prelude.{ℕ, List}
use Rattle.std.proofs.Math.Option.{Option, none, some}
use Rattle.list.specs.Version.{version_at}
use Rattle.bundle.specs.Bundle.{list_at}
use Rattle.bundle.specs.Look.{look_at}
use Rattle.merge.specs.Placed.{Placed}
use Rattle.list.specs.Pick.{on_result}

-- Record i of source k, if it is whole in its list.
unfoldable pub reader : List ℕ → List ℕ → List ℕ → ℕ → ℕ → Option Placed
reader b lens t k i = on_result (look_at b lens t k i) (λ e. some (record { version = version_at (list_at b lens k) e; list = k; number = i })) (λ why. none)
