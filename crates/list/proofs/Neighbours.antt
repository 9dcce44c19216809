-- What strict order says of two neighbours, by cases on how their keys compare.
use Prim.Native.Nat.{◌<◌}
use mathlib.Core.Path.{◌≡◌}
use mathlib.Core.List.{List, ◌∷◌}
use Rattle.list.specs.Order.{compare}
use Rattle.list.specs.Version.{Version, ordered, Above}
use Rattle.std.specs.declared.cmp.Ordering.TheVariants.{Less}
use Rattle.list.proofs.Order.{key-less, newer}
use Rattle.list.proofs.Strict.{compare_same, compare-equal, not-below-itself, Below, by_key, by-seqno, below}

-- Of one key, or the second of a greater one.
pub data Next (v w : Version) : Type 0 where
  same : v.key ≡ w.key → w.seqno < v.seqno → Next v w
  other : compare v.key w.key ≡ Less → Next v w

module _ (v w : Version) where
  pub next : ordered v w ≡ Less → Next v w
  unfolding ordered
  next p = go (below _ _ _ _ p)
    where
      go : Below v.key v.seqno w.key w.seqno → Next v w
      go (by_key e) = other e
      go (by-seqno e h) = same (compare-equal _ _ e) h

  pub one_key : v.key ≡ w.key → ordered v w ≡ Less → w.seqno < v.seqno
  one_key e p = go (next p)
    where
      go : Next v w → w.seqno < v.seqno
      go (same f h) = h
      go (other f) = not-below-itself v.key w.key e f

  pub key-before : compare v.key w.key ≡ Less → ordered v w ≡ Less
  unfolding ordered
  key-before e = key-less _ _ _ _ e

  pub seqno-before : v.key ≡ w.key → w.seqno < v.seqno → ordered v w ≡ Less
  unfolding ordered
  seqno-before e h = newer _ _ _ _ (compare_same v.key w.key e) h

  -- the first two of a list in order, and the rest
  pub near : (ws : List Version) → Above v (w ∷ ws) → Next v w
  unfolding Above
  near ws o = next o.0

  pub far : (ws : List Version) → Above v (w ∷ ws) → Above w ws
  unfolding Above
  far ws o = o.1
