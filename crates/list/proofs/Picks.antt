-- What is true of both choices of a test is true of what it picks, each under its side of the test.
use mathlib.Core.Path.{◌≡◌, refl}
use mathlib.Core.Bool.{Bool, true, false}
use Rattle.list.specs.Pick.{pick}

pub by-pick : {A : Type 0} (P : A → Type 0) (b : Bool) (x y : A) → (b ≡ true → P x) → (b ≡ false → P y) → P (pick b x y)
unfolding pick
by-pick P true x y f g = f refl
by-pick P false x y f g = g refl
