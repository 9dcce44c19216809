-- One version a key, over any merge: what a step takes at an end.
use Rattle.std.specs.Prelude.{ℕ, zero, suc, Bool, false, not}
use Rattle.std.proofs.Math.Option.{Option, none, some}
use Rattle.list.specs.Pick.{pick}
use Rattle.merge.specs.Placed.{Placed, same_key}
use Rattle.merge.specs.Merge.{Reply, Nothing, Found, on_reply, Merge}
use Rattle.merge.specs.declared.ends.End.{End}
use Rattle.merge.specs.declared.ends.End.TheVariants.{Front, Back}
use Rattle.read.specs.Entries.{live}

-- A key's entry is, in front, the first visible version passed, at the back the last.
unfoldable pub hold : End → (Placed → Bool) → Option Placed → Placed → Option Placed
hold Front t none x = pick (t x) (some x) none
hold Front t (some p) x = some p
hold Back t h x = pick (t x) (some x) h

-- It counts once what is next has another key ..
unfoldable pub counts : Option Placed → Placed → Bool
counts none x = false
counts (some p) x = not (same_key p x)

-- An entry, and the merge past its key.
pub record Entry (S : Type 0) : Type 0 where
  pub version : Placed
  pub rest : S

-- .. or none is left.
unfoldable pub settle : {S : Type 0} → Option Placed → S → Reply (Entry S)
settle none s = Nothing
settle (some p) s = Found (record { version = p; rest = s })

-- One key drained, versions at or above the snapshot too; at most n records, all that are left.
unfoldable pub drain : {S : Type 0} → ℕ → Merge S → End → (Placed → Bool) → Option Placed → S → Reply (Entry S)
drain zero m e t h s = settle h s
drain (suc n) m e t h s =
    on_reply (m.peek e s) (settle h s) (λ x. pick (counts h x) (settle h s) (drain n m e t (hold e t h x) (m.pop e s)))

-- A step acts on a live entry and passes over tombstones; at most n keys.
unfoldable pub step_from : {S : Type 0} → ℕ → Merge S → End → (Placed → Bool) → S → Reply (Entry S)
step_from zero m e t s = Nothing
step_from (suc n) m e t s =
    on_reply (drain (m.left s) m e t none s) Nothing (λ x. pick (live x.version) (Found x) (step_from n m e t x.rest))

-- A step at an end, where t tells what is visible.
unfoldable pub step : {S : Type 0} → Merge S → End → (Placed → Bool) → S → Reply (Entry S)
step m e t s = step_from (m.left s) m e t s
