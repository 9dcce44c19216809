-- The plain search: a merge of sources, each with two ends, over whatever a reader finds in them. So it is also when bundle or index was altered after opening.
use Rattle.std.specs.Prelude.{ℕ, zero, suc, ◌+◌, ◌-◌, Bool, ltb, get_or, set}
use Rattle.std.proofs.Math.Option.{Option, Option-elim}
use Rattle.list.specs.Pick.{pick}
use Rattle.merge.specs.Placed.{Placed, before}
use Rattle.merge.specs.Merge.{Reply, Nothing, Found, Torn, on_reply, Merge}
use Rattle.merge.specs.declared.ends.End.{End}
use Rattle.merge.specs.declared.ends.End.TheVariants.{Front, Back}
pub use Rattle.merge.specs.declared.ends.Ends.{Ends}

unfoldable pub front_at : Ends → ℕ → ℕ
front_at c k = get_or c.front k 0

unfoldable pub back_at : Ends → ℕ → ℕ
back_at c k = get_or c.back k 0

-- How many records n sources have left.
unfoldable pub left : ℕ → Ends → ℕ
left zero c = 0
left (suc n) c = left n c + (back_at c n - front_at c n)

-- A version, and the source that it is next in.
pub record Head : Type 0 where
  pub source : ℕ
  pub placed : Placed

-- At an end the next record of each source that has one left is read.
unfoldable pub place : End → Ends → ℕ → ℕ
place Front c k = front_at c k
place Back c k = back_at c k - 1

unfoldable pub next : End → (ℕ → ℕ → Option Placed) → Ends → ℕ → Reply Head
next e look c k = pick (ltb (front_at c k) (back_at c k)) (Option-elim (look k (place e c k)) Torn (λ x. Found (record { source = k; placed = x }))) Nothing

-- In front the least so read comes first, at the back the greatest.
unfoldable pub sooner : End → Placed → Placed → Bool
sooner Front x y = before x y
sooner Back x y = before y x

unfoldable pub choose : End → Reply Head → Reply Head → Reply Head
choose e Nothing t = t
choose e (Found x) Nothing = Found x
choose e (Found x) (Found y) = pick (sooner e y.placed x.placed) (Found y) (Found x)
choose e (Found x) Torn = Torn
choose e Torn t = Torn

unfoldable pub ahead : ℕ → End → (ℕ → ℕ → Option Placed) → Ends → Reply Head
ahead zero e look c = Nothing
ahead (suc n) e look c = choose e (ahead n e look c) (next e look c n)

-- Past the record that source k has next.
unfoldable pub pass : End → Ends → ℕ → Ends
pass Front c k = record { front = set c.front k (front_at c k + 1); back = c.back }
pass Back c k = record { front = c.front; back = set c.back k (back_at c k - 1) }

unfoldable pub past : End → Reply Head → Ends → Ends
past e Nothing c = c
past e (Found x) c = pass e c x.source
past e Torn c = c

-- The merge of n sources.
unfoldable pub plain : ℕ → (ℕ → ℕ → Option Placed) → Merge Ends
plain n look =
    record {
      peek = λ e c. on_reply (ahead n e look c) Nothing (λ x. Found x.placed);
      pop = λ e c. past e (ahead n e look c) c;
      left = left n;
    }
