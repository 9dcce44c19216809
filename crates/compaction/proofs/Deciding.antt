-- What the parts of a turn answer: each return of the code is a case of the definition.
use Rattle.std.specs.Prelude.{Ok, Err}
use Rattle.std.specs.Result.{result_unwrap_or}
use Prim.Native.Nat.{ℕ, zero, suc, ◌≤◌, ◌<◌}
use mathlib.Core.Path.{◌≡◌, refl, sym, ap, ◌∙◌}
use mathlib.Core.List.{List, [], ◌∷◌}
use mathlib.Core.Bool.{Bool, true, false, ◌&&◌, ◌||◌, not, and-false, and-true, or-false}
use mathlib.Core.Option.{Option, none, some, Option-elim}
use Rattle.list.proofs.Tests.{never}
use native.Mathlib.Omega.{arith}
use borrow.Author.Tests.{lt-ltb, le-ltb}
use Rattle.list.specs.Pick.{pick, on_result}
use Rattle.list.specs.ValueType.{tag_of, is_tombstone}
use Rattle.list.specs.Order.{compare, is_equal}
use Rattle.list.specs.Record.{read_at, key_of, no_record}
use Rattle.list.specs.Version.{Version, version, version_at}
use Rattle.list.specs.PointRead.{of_key}
use Rattle.list.specs.declared.record.Record.{Record}
use Rattle.list.specs.Record.{Read}
use Rattle.list.specs.declared.value_type.ValueType.{ValueType}
use Rattle.list.specs.declared.value_type.ValueType.TheVariants.{Value, Tombstone, WeakTombstone, Indirection}
use Rattle.compaction.specs.declared.stream.Job.{Job}
use Rattle.compaction.specs.Fate.{Fate, is_kept, FilterVerdict, Keep, Drop, Replace, by_verdict, below, ◌is◌, leave, dropped, expired, goes, head_fate}
use Rattle.compaction.specs.Turn.{verdict_for, drops, replaces, kind_by, following, turn, told_by, dropped_by, turn_by, next_of}

-- h before a tail that begins with w
module _ (evict : Bool) (h w : ValueType) where
  abbrev Before : Bool
  Before = (evict && h is Tombstone) || (w is Value && h is WeakTombstone)

  pub b-tombstone : h ≡ Tombstone → evict ≡ Before
  unfolding ◌is◌ tag_of
  b-tombstone e = simp (e, and-false, and-true, or-false)

  pub b-weak : h ≡ WeakTombstone → w ≡ Value → true ≡ Before
  unfolding ◌is◌ tag_of
  b-weak e i = simp (e, i, and-false)

  pub b-indirection : h ≡ WeakTombstone → w ≡ Indirection → false ≡ Before
  unfolding ◌is◌ tag_of
  b-indirection e i = simp (e, i, and-false)

  pub b-stays : h ≡ WeakTombstone → (w ≡ Value → ⊥) → false ≡ Before
  unfolding ◌is◌ tag_of
  b-stays e n = simp (e, and-false, and-true) (go w n)
    where
      go : (w : ValueType) → (w ≡ Value → ⊥) → false ≡ (w is Value)
      go Value n = absurd (n refl)
      go Tombstone n = refl
      go WeakTombstone n = refl
      go Indirection n = refl

  pub b-live : (h ≡ Tombstone → ⊥) → (h ≡ WeakTombstone → ⊥) → false ≡ Before
  unfolding ◌is◌ tag_of
  b-live n m = go h n m
    where
      go : (h : ValueType) → (h ≡ Tombstone → ⊥) → (h ≡ WeakTombstone → ⊥) → false ≡ ((evict && h is Tombstone) || (w is Value && h is WeakTombstone))
      go Value n m = simp and-false
      go Tombstone n m = absurd (n refl)
      go WeakTombstone n m = absurd (m refl)
      go Indirection n m = simp and-false

-- what of a version a turn looks at
module _ (j : Job) where
  goes-kind : (v w : Version) → v.kind ≡ w.kind → (us : List Version) → goes j v us ≡ goes j w us
  unfolding goes
  goes-kind v w e [] = rw e
  goes-kind v w e (u ∷ us) = rw e

  kept-unless : (b r : Bool) (v : Version) → is_kept (record { leaves = pick b none (some v); reported = r }) ≡ not b
  unfolding is_kept pick Option-elim
  kept-unless true r v = refl
  kept-unless false r v = refl

  -- of a record that the filter doesn't drop and that lies in no tail
  turn-head : (q : FilterVerdict) → drops q ≡ false → (v w : Version)
      → turn j false (by_verdict q v) v w ≡ record { kept = not (goes j (version v.key v.seqno (kind_by q v.kind) v.value) (following v w)); reported = replaces q; tail = expired j (following v w) }
  unfolding by_verdict turn head_fate is_kept pick Option-elim drops kind_by replaces version
  turn-head Keep e v w = ap (λ (k : Bool). record { kept = k; reported = false; tail = expired j (following v w) }) (unfold is_kept Option-elim in kept-unless (goes j v (following v w)) false (leave j v))
  turn-head Drop e v w = never e
  turn-head (Replace kind value) e v w =
      ap (λ (k : Bool). record { kept = k; reported = true; tail = expired j (following v w) })
      ((unfold is_kept Option-elim in kept-unless (goes j (version v.key v.seqno kind value) (following v w)) true (leave j (version v.key v.seqno kind value)))
      ∙ ap not (goes-kind (version v.key v.seqno kind value) (version v.key v.seqno kind v.value) refl (following v w)))

  -- what a turn keeps was there
  pub kept_there : (t : Bool) (f : Fate) (v w : Version) → (turn j t f v w).kept ≡ true → is_kept f ≡ true
  unfolding turn head_fate is_kept pick Option-elim
  kept_there true f v w e = never (sym e)
  kept_there false f v w e = go f.leaves e
    where
      go : (o : Option Version) → Option-elim (Option-elim o none (λ h. pick (goes j h (following v w)) none (some (leave j h)))) false (λ z. true) ≡ true → Option-elim o false (λ z. true) ≡ true
      go none e = e
      go (some h) e = refl

-- what is kept was not told to be dropped
pub kept-asked : (q : FilterVerdict) (v : Version) → is_kept (by_verdict q v) ≡ true → drops q ≡ false
unfolding by_verdict dropped is_kept Option-elim drops
kept-asked Keep v e = refl
kept-asked Drop v e = never (sym e)
kept-asked (Replace kind value) v e = refl

-- a verdict, or drop
module _ (b : Bool) (q : FilterVerdict) where
  pub u-goes : b ≡ true → Drop ≡ pick b Drop q
  unfolding pick
  u-goes e = rw e

  pub u-stays : b ≡ false → q ≡ pick b Drop q
  unfolding pick
  u-stays e = rw e

other_way : (b : Bool) (q : FilterVerdict) → pick b Drop q ≡ pick (not b) q Drop
unfolding pick
other_way true q = refl
other_way false q = refl

-- the verdict for a kind, d being whether that is a tombstone
module _ (old : ValueType) (q : FilterVerdict) (d : Bool) (dead : d ≡ is_tombstone old) where
  pub v-dead : d ≡ true → Keep ≡ verdict_for old q
  unfolding verdict_for pick
  v-dead e = rw (sym dead ∙ e)

  pub v-live : d ≡ false → q ≡ verdict_for old q
  unfolding verdict_for pick
  v-live e = rw (sym dead ∙ e)

-- a turn, a and b being the two keys and r what their test answered
module _ (j : Job) (t : Bool) (q : FilterVerdict) (s : List ℕ) (h w : Record) (a b : List ℕ) (f : a ≡ key_of s h) (g : b ≡ key_of s w) (r : Bool) (told : r ≡ is_equal (compare a b)) where
  same : of_key (version_at s h).key (version_at s w) ≡ r
  unfolding of_key version_at
  same = rw (← f, ← g) (sym told)

  pub d-tail : t ≡ true → dropped_by r ≡ turn_by j t q (version_at s h) (version_at s w)
  unfolding dropped_by turn_by told_by turn pick
  d-tail e = rw (e, same)

  pub d-drop : t ≡ false → (x : Bool) → x ≡ drops q → x ≡ true → dropped_by false ≡ turn_by j t q (version_at s h) (version_at s w)
  d-drop e x i y = rw e (go q (sym i ∙ y))
    where
      go : (q : FilterVerdict) → drops q ≡ true → dropped_by false ≡ turn_by j false q (version_at s h) (version_at s w)
      go Keep z = never (sym (unfold drops in z))
      go Drop z = unfold dropped_by turn_by told_by turn by_verdict dropped head_fate is_kept pick Option-elim in refl
      go (Replace kind value) z = never (sym (unfold drops in z))

  module _ (e : t ≡ false) (d : Bool) (i : d ≡ drops q) (z : d ≡ false) (k : ValueType) (l : k ≡ kind_by q h.kind) (u : Bool) (m : u ≡ replaces q) where
    abbrev new : Version
    new = version (version_at s h).key (version_at s h).seqno k (version_at s h).value

    head-is : turn_by j t q (version_at s h) (version_at s w)
        ≡ record { leaves = pick (not (goes j new (following (version_at s h) (version_at s w)))) q Drop; reported = u; tail = expired j (following (version_at s h) (version_at s w)) }
    head-is = rw (e, l, m) (unfold turn_by told_by version_at in ap (told_by q) (turn-head j q (sym i ∙ z) (version_at s h) (version_at s w)))

    pub d-other : (x : Bool) → x ≡ j.evict && is_tombstone k → (o : FilterVerdict) → o ≡ pick x Drop q → r ≡ false
        → record { leaves = o; reported = u; tail = false } ≡ turn_by j t q (version_at s h) (version_at s w)
    unfolding following expired goes version pick
    d-other x y o p n = sym (head-is ∙ rw (same, n, p, other_way x q, y))

    pub d-low : (x : Bool) → x ≡ ((j.evict && k is Tombstone) || (w.kind is Value && k is WeakTombstone)) → (o : FilterVerdict) → o ≡ pick x Drop q → r ≡ true
        → w.seqno < j.threshold → record { leaves = o; reported = u; tail = true } ≡ turn_by j t q (version_at s h) (version_at s w)
    unfolding following expired goes below version_at version pick
    d-low x y o p n c = sym (head-is ∙ rw (same, n, p, other_way x q, y, lt-ltb _ _ c))

    pub d-on : r ≡ true → j.threshold ≤ w.seqno → record { leaves = q; reported = u; tail = false } ≡ turn_by j t q (version_at s h) (version_at s w)
    unfolding following expired goes below version_at version pick
    d-on n o = sym (head-is ∙ rw (same, n, le-ltb _ _ o))

-- the next record
module _ (n : ℕ) (s : List ℕ) (at : ℕ) (e : Record) where
  pub n-over : n ≡ 0 → e ≡ no_record → e ≡ next_of n s at
  unfolding next_of
  n-over z i = rw (z, i)

  pub n-reads : 0 < n → (r : Read) → r ≡ read_at s at → (d : Record) → d ≡ no_record → e ≡ result_unwrap_or r d → e ≡ next_of n s at
  unfolding next_of
  n-reads more r reads d last i = go n more
    where
      by : (r : Read) → result_unwrap_or r no_record ≡ on_result r (λ e. e) (λ k. no_record)
      by (Ok e) = unfold on_result in refl
      by (Err k) = unfold on_result in refl

      go : (n : ℕ) → 0 < n → e ≡ next_of n s at
      go zero h = absurd (omega arith)
      go (suc m) h = i ∙ rw (reads, last) (by (read_at s at))
