-- Compaction: what becomes of each record of a list.
use Rattle.std.specs.Prelude.{ℕ, suc, Bool, true, false, ◌&&◌, ◌||◌, ltb, eqb}
use mathlib.Core.List.{List, [], ◌∷◌, map, flat_map}
use Rattle.std.proofs.Math.Option.{Option, none, some, Option-elim}
use Rattle.list.specs.Pick.{pick}
use Rattle.list.specs.ValueType.{tag_of, is_tombstone}
use Rattle.list.specs.Version.{Version, version, with_seqno}
use Rattle.list.specs.PointRead.{of_key}
use Rattle.list.specs.declared.value_type.ValueType.{ValueType}
use Rattle.list.specs.declared.value_type.ValueType.TheVariants.{Value, Tombstone, WeakTombstone}
use Rattle.compaction.specs.declared.stream.Job.{Job}

-- A compaction at a threshold, with two flags: whether it evicts tombstones, and whether it zeroes seqnos.
unfoldable pub job_of : ℕ → Bool → Bool → Job
job_of threshold evict zeroing = record { threshold = threshold; evict = evict; zeroing = zeroing }

-- A version is below the threshold T.
unfoldable pub below : Job → Version → Bool
below j v = ltb v.seqno j.threshold

infixl 60 ◌is◌
-- One kind is the other.
unfoldable pub ◌is◌ : ValueType → ValueType → Bool
t is u = eqb (tag_of t) (tag_of u)

-- A version as it leaves: with zeroing, one below T gets seqno 0.
unfoldable pub leave : Job → Version → Version
leave j v = with_seqno (pick (j.zeroing && below j v) 0 v.seqno) v

-- What becomes of a record: what leaves in its place, if anything does, and whether it is reported.
pub record Fate : Type 0 where
  pub leaves : Option Version
  pub reported : Bool

-- Something leaves in the record's place: it is kept.
unfoldable pub is_kept : Fate → Bool
is_kept f = Option-elim f.leaves false (λ v. true)

-- The fate of a record that the filter drops, or that lies in the tail: nothing leaves, and it is reported.
unfoldable pub dropped : Fate
dropped = record { leaves = none; reported = true }

-- A filter's verdict on a record: keep it, drop it, or give it another kind and value.
pub data FilterVerdict : Type 0 where
  Keep Drop : FilterVerdict
  Replace : ValueType → List ℕ → FilterVerdict

unfoldable pub by_verdict : FilterVerdict → Version → Fate
by_verdict Keep v = record { leaves = some v; reported = false }
by_verdict Drop v = dropped
by_verdict (Replace kind value) v = record { leaves = some (version v.key v.seqno kind value); reported = true }

-- A version and the verdict on it.
pub record WithVerdict : Type 0 where
  pub version : Version
  pub verdict : FilterVerdict

-- A list's versions, the first of which has number i, with the verdicts on their numbers.
unfoldable pub with_verdicts : (ℕ → FilterVerdict) → ℕ → List Version → List WithVerdict
with_verdicts q i [] = []
with_verdicts q i (v ∷ vs) = record { version = v; verdict = q i } ∷ with_verdicts q (suc i) vs

-- No filter: every verdict is keep.
unfoldable pub unfiltered : List Version → List WithVerdict
unfiltered vs = with_verdicts (λ i. Keep) 0 vs

-- What the filter makes of a record. Tombstones aren't asked.
unfoldable pub filter_item : WithVerdict → Fate
filter_item a = by_verdict (pick (is_tombstone a.version.kind) Keep a.verdict) a.version

-- The tail starts right after h, ws being what follows h of its key, newest first: the first of them is below T.
unfoldable pub expired : Job → List Version → Bool
expired j [] = false
expired j (w ∷ ws) = below j w

-- h goes: as its key's last, if eviction is on and h is any tombstone; before a tail that begins with w, if eviction is on
-- and h is a Tombstone, or if w is a Value and h a WeakTombstone, eviction on or off. Before any other version it stays.
unfoldable pub goes : Job → Version → List Version → Bool
goes j h [] = j.evict && is_tombstone h.kind
goes j h (w ∷ ws) = below j w && ((j.evict && h.kind is Tombstone) || (w.kind is Value && h.kind is WeakTombstone))

-- The fate of a record that lies in no tail, of which the filter made f: what f leaves, unless that goes.
unfoldable pub head_fate : Job → Fate → List Version → Fate
head_fate j f ws = record { leaves = Option-elim f.leaves none (λ h. pick (goes j h ws) none (some (leave j h))); reported = f.reported }

-- One key, newest first: after a record that the filter doesn't drop the tail may start, which runs to the key's end, unasked.
unfoldable pub key_fates : Job → List WithVerdict → List Fate
key_fates j [] = []
key_fates j (a ∷ bs) = let ws = map (λ (b : WithVerdict). b.version) bs in
    head_fate j (filter_item a) ws ∷ pick (is_kept (filter_item a) && expired j ws) (map (λ (b : WithVerdict). dropped) bs) (key_fates j bs)

-- All versions of one key.
pub record History : Type 0 where
  pub newest : WithVerdict
  pub older : List WithVerdict

-- a before the histories of what follows it: it becomes the newest of the first, if that is of its key, or opens one of its own.
unfoldable pub prepend : WithVerdict → List History → List History
prepend a [] = record { newest = a; older = [] } ∷ []
prepend a (k ∷ ks) = pick (of_key a.version.key k.newest.version)
    (record { newest = a; older = k.newest ∷ k.older } ∷ ks)
    (record { newest = a; older = [] } ∷ k ∷ ks)

-- A list, key by key.
unfoldable pub histories : List WithVerdict → List History
histories [] = []
histories (a ∷ bs) = prepend a (histories bs)

-- The fate of each record, in input order.
unfoldable pub fates : Job → List WithVerdict → List Fate
fates j bs = flat_map (λ (k : History). key_fates j (k.newest ∷ k.older)) (histories bs)
