-- Strict order holds from any place of a list to any later one, because it is transitive.
use Prim.Native.Nat.{ℕ, zero, suc, ◌<◌}
use mathlib.Core.Path.{◌≡◌}
use mathlib.Core.List.{List, [], ◌∷◌}
use native.Mathlib.Omega.{arith}
use lib.ListN.{length, get_or}
use Rattle.list.specs.Version.{Version, ordered, Above, InOrder}
use Rattle.list.proofs.Strict.{versions-trans, versions-flip, versions-equal}
use Rattle.std.specs.declared.cmp.Ordering.TheVariants.{Less, Equal, Greater}

pub ordered-trans : (u v w : Version) → ordered u v ≡ Less → ordered v w ≡ Less → ordered u w ≡ Less
unfolding ordered
ordered-trans u v w p q = versions-trans u.key u.seqno v.key v.seqno w.key w.seqno p q

pub ordered-flip : (v w : Version) → ordered v w ≡ Greater → ordered w v ≡ Less
unfolding ordered
ordered-flip v w p = versions-flip v.key v.seqno w.key w.seqno p

pub ordered-seqno : (v w : Version) → ordered v w ≡ Equal → v.seqno ≡ w.seqno
unfolding ordered
ordered-seqno v w p = (versions-equal v.key v.seqno w.key w.seqno p).1

above_at : (v : Version) (vs : List Version) (d : Version) (j : ℕ) → Above v vs → j < length vs → ordered v (get_or vs j d) ≡ Less
unfolding Above
above_at v [] d j o h = absurd (omega arith)
above_at v (w ∷ vs) d zero o h = o.0
above_at v (w ∷ vs) d (suc j) o h = ordered-trans v w (get_or vs j d) o.0 (above_at w vs d j o.1 (omega arith))

pub above-in-order : (v : Version) (vs : List Version) → Above v vs → InOrder vs
unfolding Above InOrder
above-in-order v [] o = tt
above-in-order v (w ∷ vs) o = o.1

pub in-order-at : (vs : List Version) (d : Version) (i j : ℕ) → InOrder vs → i < j → j < length vs → ordered (get_or vs i d) (get_or vs j d) ≡ Less
unfolding InOrder
in-order-at [] d i j o p q = absurd (omega arith)
in-order-at (v ∷ vs) d i zero o p q = absurd (omega arith)
in-order-at (v ∷ vs) d zero (suc j) o p q = above_at v vs d j o (omega arith)
in-order-at (v ∷ vs) d (suc i) (suc j) o p q = in-order-at vs d i j (above-in-order v vs o) (omega arith) (omega arith)
