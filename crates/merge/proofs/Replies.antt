-- The three replies differ, and two found are one: by cases on the reply.
use mathlib.Core.Path.{◌≡◌, sym, ap, subst}
use Rattle.merge.specs.Merge.{Reply, Nothing, Found, Torn}

found_or : {A : Type 0} → A → Reply A → A
found_or d Nothing = d
found_or d (Found x) = x
found_or d Torn = d

pub found-found : {A : Type 0} {x y : A} → Found x ≡ Found y → x ≡ y
unfolding found_or
found-found {x = x} p = ap (found_or x) p

IsFound : {A : Type 0} → Reply A → Type 0
IsFound Nothing = ⊥
IsFound (Found x) = Unit {0}
IsFound Torn = ⊥

pub nothing-found : {A B : Type 0} {x : A} → Nothing ≡ Found x → B
unfolding IsFound
nothing-found p = absurd (subst IsFound (sym p) tt)

pub torn-found : {A B : Type 0} {x : A} → Torn ≡ Found x → B
unfolding IsFound
torn-found p = absurd (subst IsFound (sym p) tt)
