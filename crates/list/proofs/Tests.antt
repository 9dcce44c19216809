-- From true that is false anything follows: a number would be another.
use Prim.Native.Nat.{ℕ}
use mathlib.Core.Path.{◌≡◌, ap}
use mathlib.Core.Bool.{true, false}
use native.Mathlib.Omega.{arith}
use Rattle.list.specs.Pick.{pick}

pub never : {A : Type 0} → true ≡ false → A
unfolding pick
never p = let z : ◌≡◌ {A = ℕ} 0 1 = ap (λ b. pick b 0 1) p in absurd (omega arith)
