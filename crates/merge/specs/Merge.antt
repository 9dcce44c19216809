-- What a merge gives to whoever reads from it: what stands next at either end, and what is left past it.
use Rattle.std.specs.Prelude.{ℕ}
use Rattle.merge.specs.Placed.{Placed}
use Rattle.merge.specs.declared.ends.End.{End}

-- Nothing is left; or this is found; or a record isn't whole.
pub data Reply (A : Type 0) : Type 0 where
  Nothing : Reply A
  Found : A → Reply A
  Torn : Reply A

-- What follows a reply where nothing is left, and where something is found; a record that isn't whole ends all.
unfoldable pub on_reply : {A B : Type 0} → Reply A → Reply B → (A → Reply B) → Reply B
on_reply Nothing n f = n
on_reply (Found x) n f = f x
on_reply Torn n f = Torn

-- A merge whose states are S: the version next at an end; the state past that one; how many records are left.
pub record Merge (S : Type 0) : Type 0 where
  pub peek : End → S → Reply Placed
  pub pop : End → S → S
  pub left : S → ℕ
