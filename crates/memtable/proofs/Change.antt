-- What is inserted into a fine list leaves it fine, because order, ranges and the limit are kept; its figures are those of both.
use Prim.Native.Nat.{◌≤◌, max}
use mathlib.Core.Path.{◌≡◌, refl}
use mathlib.Core.List.{List, [], ◌∷◌}
use native.Mathlib.Omega.{arith}
use lib.ListN.{length}
use Rattle.list.specs.Limits.{list_limit}
use Rattle.list.specs.Version.{Version, encode, Fits, AllFit, ordered, Above, InOrder, Fine}
use Rattle.memtable.specs.Change.{by_order, insert}
use Rattle.memtable.specs.Figures.{highest_of}
use Rattle.list.proofs.Strict.{versions-equal}
use Rattle.list.proofs.Ordered.{ordered-flip, ordered-seqno}
use Rattle.std.specs.declared.cmp.Ordering.{Ordering}
use Rattle.std.specs.declared.cmp.Ordering.TheVariants.{Less, Equal, Greater}

-- a version of the same key and seqno stands where the other stood
same-below : (u v w : Version) → ordered v w ≡ Equal → ordered w u ≡ Less → ordered v u ≡ Less
unfolding ordered
same-below u v w p q = let e = versions-equal v.key v.seqno w.key w.seqno p in rw (e.0, e.1) q

same_above : (v w : Version) (ws : List Version) → ordered v w ≡ Equal → Above w ws → Above v ws
unfolding Above
same_above v w [] p o = tt
same_above v w (x ∷ ws) p o = (same-below x v w p o.0, o.1)

above-insert : (u v : Version) (vs : List Version) → Above u vs → ordered u v ≡ Less → Above u (insert v vs)
unfolding Above insert by_order
above-insert u v [] o p = (p, tt)
above-insert u v (w ∷ ws) o p = go (ordered v w) refl (above-insert w v ws o.1)
  where
    go : (x : Ordering) → ordered v w ≡ x → (ordered w v ≡ Less → Above w (insert v ws)) → Above u (by_order x (v ∷ w ∷ ws) (v ∷ ws) (w ∷ insert v ws))
    go Less e ih = (p, (e, o.1))
    go Equal e ih = (p, same_above v w ws e o.1)
    go Greater e ih = (o.0, ih (ordered-flip v w e))

pub order-insert : (v : Version) (vs : List Version) → InOrder vs → InOrder (insert v vs)
unfolding InOrder Above insert by_order
order-insert v [] o = tt
order-insert v (w ∷ ws) o = go (ordered v w) refl
  where
    go : (x : Ordering) → ordered v w ≡ x → InOrder (by_order x (v ∷ w ∷ ws) (v ∷ ws) (w ∷ insert v ws))
    go Less e = (e, o)
    go Equal e = same_above v w ws e o
    go Greater e = above-insert w v ws o (ordered-flip v w e)

pub fit-insert : (v : Version) (vs : List Version) → Fits v → AllFit vs → AllFit (insert v vs)
unfolding AllFit insert by_order
fit-insert v [] f g = (f, tt)
fit-insert v (w ∷ ws) f g = go (ordered v w) (fit-insert v ws f g.1)
  where
    go : (x : Ordering) → AllFit (insert v ws) → AllFit (by_order x (v ∷ w ∷ ws) (v ∷ ws) (w ∷ insert v ws))
    go Less ih = (f, g)
    go Equal ih = (f, g.1)
    go Greater ih = (g.0, ih)

-- an insertion that keeps within the limit
pub fine-insert : (v : Version) (vs : List Version) → Fits v → Fine vs → length (encode (insert v vs)) ≤ list_limit → Fine (insert v vs)
fine-insert v vs f g h = record { fit = fit-insert v vs f g.fit; in_order = order-insert v vs g.in_order; small = h }

-- the highest seqno is the larger of the old figure and the new
pub highest-insert : (v : Version) (vs : List Version) → highest_of (insert v vs) ≡ max (highest_of vs) v.seqno
unfolding insert by_order highest_of
highest-insert v [] = omega arith
highest-insert v (w ∷ ws) = go (ordered v w) refl (highest-insert v ws)
  where
    go : (x : Ordering) → ordered v w ≡ x → highest_of (insert v ws) ≡ max (highest_of ws) v.seqno
        → highest_of (by_order x (v ∷ w ∷ ws) (v ∷ ws) (w ∷ insert v ws)) ≡ max (max w.seqno (highest_of ws)) v.seqno
    go Less e ih = omega arith
    go Equal e ih = let s = ordered-seqno v w e in omega arith
    go Greater e ih = omega arith
