-- What leaves in a record's place is nothing, or what the filter made of it with a seqno that zeroing set to 0 or left: so it is said of each record of the loop.
use Prim.Native.Nat.{ℕ, ◌≤◌}
use mathlib.Core.Path.{◌≡◌, refl, sym, ap, ◌∙◌}
use mathlib.Core.List.{List, [], ◌∷◌, map, flat_map, filter_map}
use mathlib.Core.Bool.{Bool, true, false, ◌&&◌, and-false}
use mathlib.Core.Option.{none, some, Option-elim}
use native.Mathlib.Omega.{arith}
use borrow.Author.Tests.{le-ltb}
use Rattle.list.specs.Pick.{pick}
use Rattle.list.specs.ValueType.{is_tombstone}
use Rattle.list.specs.Version.{Version, version, with_seqno}
use Rattle.list.specs.declared.value_type.ValueType.{ValueType}
use Rattle.list.proofs.Tests.{never}
use Rattle.compaction.specs.declared.stream.Job.{Job}
use Rattle.compaction.specs.Fate.{Fate, is_kept, FilterVerdict, Keep, Drop, Replace, by_verdict, WithVerdict, with_verdicts, filter_item, below, leave, dropped, goes, head_fate, histories, fates}
use Rattle.compaction.specs.Turn.{ShortValue}
use Rattle.compaction.proofs.Loop.{fate_if, tailed, loop, loop-is}

module _ (j : Job) (v : Version) where
  pub leave_low : (leave j v).seqno ≤ v.seqno
  unfolding leave with_seqno pick
  leave_low = go (j.zeroing && below j v)
    where
      go : (b : Bool) → pick b 0 v.seqno ≤ v.seqno
      go true = omega arith
      go false = omega arith

  pub leave_same : j.threshold ≤ v.seqno → leave j v ≡ v
  unfolding leave with_seqno pick below
  leave_same h = simp (le-ltb _ _ h, and-false)

  pub leave-plain : j.zeroing ≡ false → leave j v ≡ v
  unfolding leave with_seqno pick
  leave-plain e = simp e

-- the versions of records that are asked
abbrev pub versions : List WithVerdict → List Version
versions bs = map (λ (b : WithVerdict). b.version) bs

pub versions-asked : (q : ℕ → FilterVerdict) (i : ℕ) (vs : List Version) → versions (with_verdicts q i vs) ≡ vs
unfolding with_verdicts
versions-asked q i [] = refl
versions-asked q i (v ∷ vs) = ap (λ (ws : List Version). v ∷ ws) (versions-asked q _ vs)

-- what leaves of these fates
abbrev pub output : List Fate → List Version
output fs = filter_map (λ (f : Fate). f.leaves) fs

-- whether a record of this fate is reported
abbrev pub told : Fate → Bool
told f = f.reported

-- the fate of a record in whose place v leaves, and of one in whose place nothing does
abbrev pub stay : Job → Version → Bool → Fate
stay j v b = record { leaves = some (leave j v); reported = b }

abbrev pub gone : Bool → Fate
gone b = record { leaves = none; reported = b }

-- a record with another kind and value
abbrev pub item : WithVerdict → ValueType → List ℕ → Version
item a kind value = record { key = a.version.key; seqno = a.version.seqno; kind = kind; value = value }

-- what the filter made of a record: it is kept in this form, and reported if it was replaced
abbrev pub Heads : WithVerdict → ValueType → List ℕ → Bool → Type 0
Heads a kind value b = filter_item a ≡ record { leaves = some (item a kind value); reported = b }

pub data Item (a : WithVerdict) : Type 0 where
  heads : {kind : ValueType} {value : List ℕ} {b : Bool} → Heads a kind value b → Item a
  drops : filter_item a ≡ dropped → Item a

pub item_of : (a : WithVerdict) → Item a
unfolding filter_item by_verdict pick version
item_of a = go (is_tombstone a.version.kind) refl a.verdict refl
  where
    go : (t : Bool) → is_tombstone a.version.kind ≡ t → (q : FilterVerdict) → a.verdict ≡ q → Item a
    go true e q f = heads {kind = a.version.kind} {value = a.version.value} {b = false} (simp e)
    go false e Keep f = heads {kind = a.version.kind} {value = a.version.value} {b = false} (simp (e, f))
    go false e Drop f = drops (simp (e, f))
    go false e (Replace kind value) f = heads {kind = kind} {value = value} {b = true} (simp (e, f))

-- a record that is to be kept is what it was
module _ (a : WithVerdict) (keep : a.verdict ≡ Keep) where
  pub keeps : Heads a a.version.kind a.version.value false
  unfolding filter_item by_verdict
  keeps = rw keep (go (is_tombstone a.version.kind))
    where
      go : (t : Bool) → by_verdict (pick t Keep Keep) a.version ≡ record { leaves = some a.version; reported = false }
      go true = unfold by_verdict pick in refl
      go false = unfold by_verdict pick in refl

  pub not-dropped : {A : Type 0} → filter_item a ≡ dropped → A
  unfolding is_kept dropped Option-elim
  not-dropped e = never (ap is_kept (sym keeps ∙ e))

  module _ {kind : ValueType} {value : List ℕ} {b : Bool} (h : Heads a kind value b) where
    both : ◌≡◌ {A = Fate} (record { leaves = some (item a kind value); reported = b }) (record { leaves = some a.version; reported = false })
    both = sym h ∙ keeps

    pub as_it_was : item a kind value ≡ a.version
    unfolding Option-elim
    as_it_was = ap (λ (f : Fate). Option-elim f.leaves a.version (λ x. x)) both

    pub unreported : b ≡ false
    unreported = ap told both

-- every verdict is keep
unfoldable pub Plain : List WithVerdict → Type 0
Plain [] = Unit {0}
Plain (a ∷ bs) = (a.verdict ≡ Keep) × Plain bs

pub plain-asked : (i : ℕ) (vs : List Version) → Plain (with_verdicts (λ i. Keep) i vs)
unfolding with_verdicts Plain
plain-asked i [] = tt
plain-asked i (v ∷ vs) = (refl, plain-asked _ vs)

-- each replacement's value is short
unfoldable pub AllShort : List WithVerdict → Type 0
AllShort [] = Unit {0}
AllShort (a ∷ bs) = ShortValue a.verdict × AllShort bs

pub short-asked : (i : ℕ) (vs : List Version) → AllShort (with_verdicts (λ i. Keep) i vs)
unfolding with_verdicts AllShort ShortValue
short-asked i [] = tt
short-asked i (v ∷ vs) = (tt, short-asked _ vs)

-- a fate for each record
pub data Each (j : Job) : List Fate → List WithVerdict → Type 0 where
  over : Each j [] []
  stayed : {kind : ValueType} {value : List ℕ} {b : Bool} {a : WithVerdict} {fs : List Fate} {bs : List WithVerdict} → Heads a kind value b → Each j fs bs → Each j (stay j (item a kind value) b ∷ fs) (a ∷ bs)
  left_out : {b : Bool} {a : WithVerdict} {fs : List Fate} {bs : List WithVerdict} → Each j fs bs → Each j (gone b ∷ fs) (a ∷ bs)

one : (j : Job) (t : Bool) (a : WithVerdict) (us : List Version) {fs : List Fate} {bs : List WithVerdict} → Each j fs bs → Each j (fate_if j t a us ∷ fs) (a ∷ bs)
unfolding fate_if dropped head_fate pick Option-elim
one j true a us e = left_out e
one j false a us {fs} {bs} e = go (item_of a)
  where
    go : Item a → Each j (head_fate j (filter_item a) us ∷ fs) (a ∷ bs)
    go (drops d) = rw d (left_out e)
    go (heads {kind = kind} {value = value} {b = b} h) = rw h (by (goes j (item a kind value) us))
      where
        by : (x : Bool) → Each j (record { leaves = pick x none (some (leave j (item a kind value))); reported = b } ∷ fs) (a ∷ bs)
        by true = left_out e
        by false = stayed h e

loop-each : (j : Job) (t : Bool) (a : WithVerdict) (bs : List WithVerdict) → Each j (loop j t a bs) (a ∷ bs)
unfolding loop
loop-each j t a [] = one j t a [] over
loop-each j t a (b ∷ bs) = one j t a _ (loop-each j (tailed j t a b) b bs)

pub each : (j : Job) (bs : List WithVerdict) → Each j (fates j bs) bs
unfolding fates histories flat_map
each j [] = over
each j (a ∷ bs) = rw (← (loop-is j a bs)) (loop-each j false a bs)
