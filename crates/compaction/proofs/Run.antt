-- The loop over a list in strict order, turn by turn: eight ways, by how the neighbours stand, whether the next is below T and whether the filter drops. Each theorem is then a clause for each way.
use Prim.Native.Nat.{◌≤◌, ◌<◌, ℕ}
use mathlib.Core.Path.{◌≡◌, refl}
use mathlib.Core.List.{List, [], ◌∷◌}
use mathlib.Core.Bool.{Bool, true, false, ◌&&◌, ◌||◌, and-false}
use mathlib.Core.Option.{none, some, Option-elim}
use borrow.Author.Tests.{ltb-true, ltb-false}
use Rattle.list.specs.Pick.{pick}
use Rattle.list.specs.ValueType.{tag_of, is_tombstone}
use Rattle.list.specs.declared.value_type.ValueType.{ValueType}
use Rattle.list.specs.declared.value_type.ValueType.TheVariants.{Value, Tombstone, WeakTombstone, Indirection}
use Rattle.list.specs.Order.{compare}
use Rattle.list.specs.Version.{Version, Above}
use Rattle.std.specs.declared.cmp.Ordering.TheVariants.{Less}
use Rattle.compaction.specs.declared.stream.Job.{Job}
use Rattle.compaction.specs.Fate.{Fate, is_kept, WithVerdict, filter_item, below, ◌is◌, leave, dropped, expired, goes, head_fate}
use Rattle.list.proofs.Neighbours.{Next, same, other, near, far}
use Rattle.list.proofs.OfKey.{is_key, above-key}
use Rattle.compaction.specs.Turn.{following, turn}
use Rattle.compaction.proofs.Loop.{fate_if, tailed, loop}
use Rattle.compaction.proofs.Kept.{versions, stay, gone, item, Heads, Item, heads, drops, item_of}

-- a record in no tail, the last of its key or before a tail: what the filter made of it stays, or goes and is a tombstone; or it was dropped
pub data Headed (j : Job) (a : WithVerdict) : Fate → Type 0 where
  stays : {kind : ValueType} {value : List ℕ} {b : Bool} → Heads a kind value b → Headed j a (stay j (item a kind value) b)
  leaves_none : {kind : ValueType} {value : List ℕ} {b : Bool} → Heads a kind value b → is_tombstone kind ≡ true → Headed j a (gone b)
  is-dropped : filter_item a ≡ dropped → Headed j a (gone true)

pub data Run (j : Job) : Bool → WithVerdict → List WithVerdict → List Fate → Type 0 where
  tail-ends : {a : WithVerdict} → Run j true a [] (gone true ∷ [])
  tail-on : {a b : WithVerdict} {bs : List WithVerdict} {fs : List Fate} → a.version.key ≡ b.version.key → b.version.seqno < a.version.seqno
      → Run j true b bs fs → Run j true a (b ∷ bs) (gone true ∷ fs)
  tail-over : {a b : WithVerdict} {bs : List WithVerdict} {fs : List Fate} → compare a.version.key b.version.key ≡ Less
      → Run j false b bs fs → Run j true a (b ∷ bs) (gone true ∷ fs)
  head-ends : {a : WithVerdict} {f : Fate} → Headed j a f → Run j false a [] (f ∷ [])
  head-over : {a b : WithVerdict} {bs : List WithVerdict} {f : Fate} {fs : List Fate} → Headed j a f → compare a.version.key b.version.key ≡ Less
      → Run j false b bs fs → Run j false a (b ∷ bs) (f ∷ fs)
  head_tail : {a b : WithVerdict} {bs : List WithVerdict} {f : Fate} {fs : List Fate} → Headed j a f → a.version.key ≡ b.version.key → b.version.seqno < a.version.seqno
      → b.version.seqno < j.threshold → Run j true b bs fs → Run j false a (b ∷ bs) (f ∷ fs)
  head-on : {kind : ValueType} {value : List ℕ} {r : Bool} {a b : WithVerdict} {bs : List WithVerdict} {fs : List Fate} → Heads a kind value r
      → a.version.key ≡ b.version.key → b.version.seqno < a.version.seqno → j.threshold ≤ b.version.seqno
      → Run j false b bs fs → Run j false a (b ∷ bs) (stay j (item a kind value) r ∷ fs)
  drop-on : {a b : WithVerdict} {bs : List WithVerdict} {fs : List Fate} → filter_item a ≡ dropped → a.version.key ≡ b.version.key → b.version.seqno < a.version.seqno
      → Run j false b bs fs → Run j false a (b ∷ bs) (gone true ∷ fs)

module _ (j : Job) (a : WithVerdict) where
  no-tail : Headed j a (head_fate j (filter_item a) [])
  unfolding head_fate goes pick Option-elim
  no-tail = by (item_of a)
    where
      by : Item a → Headed j a (head_fate j (filter_item a) [])
      by (drops d) = unfold dropped in rw d (is-dropped d)
      by (heads {kind = kind} {value = value} {b = b} h) = rw h (go j.evict (is_tombstone kind) refl)
        where
          go : (e t : Bool) → is_tombstone kind ≡ t → Headed j a (record { leaves = pick (e && t) none (some (leave j (item a kind value))); reported = b })
          go true true g = leaves_none h g
          go true false g = stays h
          go false t g = stays h

  module _ {kind : ValueType} {value : List ℕ} {r : Bool} (h : Heads a kind value r) where
    a-tail : (w : Version) → below j w ≡ true → Headed j a (head_fate j (record { leaves = some (item a kind value); reported = r }) (w ∷ []))
    unfolding head_fate goes pick ◌is◌ tag_of is_tombstone Option-elim
    a-tail w l = simp l (go j.evict kind refl (w.kind is Value))
      where
        go : (e : Bool) (k : ValueType) → kind ≡ k → (x : Bool)
            → Headed j a (record { leaves = pick ((e && k is Tombstone) || (x && k is WeakTombstone)) none (some (leave j (item a kind value))); reported = r })
        go true Value k true = stays h
        go true Value k false = stays h
        go false Value k true = stays h
        go false Value k false = stays h
        go true Tombstone k x = leaves_none h (rw k)
        go false Tombstone k true = stays h
        go false Tombstone k false = stays h
        go true WeakTombstone k true = leaves_none h (rw k)
        go false WeakTombstone k true = leaves_none h (rw k)
        go true WeakTombstone k false = stays h
        go false WeakTombstone k false = stays h
        go true Indirection k true = stays h
        go true Indirection k false = stays h
        go false Indirection k true = stays h
        go false Indirection k false = stays h

pub run : (j : Job) (t : Bool) (a : WithVerdict) (bs : List WithVerdict) → Above a.version (versions bs) → Run j t a bs (loop j t a bs)
unfolding loop fate_if tailed turn following expired pick below dropped
run j t a [] r = go t
  where
    go : (t : Bool) → Run j t a [] (loop j t a [])
    go true = tail-ends
    go false = head-ends (no-tail j a)
run j t a (b ∷ bs) r =
    go t (near a.version b.version (versions bs) r) (below j b.version) refl (item_of a)
    (run j true b bs (far a.version b.version (versions bs) r)) (run j false b bs (far a.version b.version (versions bs) r))
  where
    go : (t : Bool) → Next a.version b.version → (c : Bool) → below j b.version ≡ c → Item a → Run j true b bs (loop j true b bs) → Run j false b bs (loop j false b bs)
        → Run j t a (b ∷ bs) (loop j t a (b ∷ bs))
    go true (same e h) c f i x y = simp (is_key a.version.key b.version e) (tail-on e h x)
    go true (other e) c f i x y = simp (above-key a.version.key b.version e) (tail-over e y)
    go false (other e) c f i x y = simp (above-key a.version.key b.version e, and-false) (head-over (no-tail j a) e y)
    go false (same e h) c f (drops d) x y = unfold head_fate is_kept Option-elim in simp (is_key a.version.key b.version e, d) (drop-on d e h y)
    go false (same e h) true f (heads q) x y =
        unfold is_kept Option-elim in simp (is_key a.version.key b.version e, f) (rw q (head_tail (a-tail j a q b.version f) e h (ltb-true _ _ f) x))
    go false (same e h) false f (heads q) x y =
        unfold head_fate goes is_kept Option-elim in simp (is_key a.version.key b.version e, f, q) (head-on q e h (ltb-false _ _ f) y)
