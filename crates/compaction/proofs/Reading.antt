-- Point reads of a key whose verdicts are all keep, before and after a compaction: where the visible version stays it answers the same, and where it goes it was a tombstone with nothing of its key behind it.
use Prim.Native.Nat.{ℕ, ◌≤◌, ◌<◌}
use mathlib.Core.Path.{◌≡◌, refl, sym, ap, ◌∙◌, subst}
use mathlib.Core.List.{List, [], ◌∷◌, filter_map}
use mathlib.Core.Bool.{Bool, true, false, ◌&&◌, not}
use mathlib.Core.Option.{Option, none, some, Option-elim}
use mathlib.Core.Logic.{◌⊎◌, inl, inr}
use native.Mathlib.Omega.{arith}
use lib.Dec.{ltb}
use borrow.Author.Tests.{lt-ltb, ltb-true, ltb-false}
use Rattle.list.specs.Pick.{pick}
use Rattle.list.specs.ValueType.{is_tombstone}
use Rattle.list.specs.Order.{compare}
use Rattle.list.specs.Version.{Version, with_seqno, Above, InOrder}
use Rattle.list.specs.PointRead.{of_key, is_below, point_read}
use Rattle.std.specs.declared.cmp.Ordering.TheVariants.{Less}
use Rattle.list.specs.declared.value_type.ValueType.{ValueType}
use Rattle.compaction.specs.declared.stream.Job.{Job}
use Rattle.compaction.specs.Fate.{Fate, WithVerdict, Keep, below, leave}
use Rattle.compaction.specs.Compact.{compacted}
use Rattle.compaction.proofs.Kept.{leave_low, leave_same, leave-plain, versions, output, stay, item, as_it_was, not-dropped, Each, over, stayed, left_out, each}
use Rattle.compaction.specs.Read.{reads_as, is_newest, AllKeep}
use Rattle.list.proofs.Neighbours.{Next, same, other, near, far}
use Rattle.list.proofs.OfKey.{is_key, above-key, the-key, is_below_lem, below-is}
use Rattle.list.proofs.PointRead.{version_in, first_below, no-version, one-version, is_none, first-nil, first-hit, first_on, first_above}
use Rattle.list.proofs.Strict.{compare-trans}
use Rattle.compaction.proofs.Loop.{loop-is}
use Rattle.compaction.proofs.Dropping.{newer}
use Rattle.compaction.proofs.Run.{Run, tail-ends, tail-on, tail-over, head-ends, head-over, head_tail, head-on, drop-on, Headed, stays, leaves_none, is-dropped, run}
use Rattle.list.proofs.Tests.{never}

-- what the reader is given of the version found, if any
reply : List Version → Option (ValueType × List ℕ)
reply [] = none
reply (v ∷ vs) = reads_as (some (0, v))

reads_as_lem : (x : Option (ℕ × Version)) → reads_as x ≡ reply (version_in x)
unfolding reads_as reply version_in
reads_as_lem none = refl
reads_as_lem (some x) = refl

module _ (k : List ℕ) (s : ℕ) where
  none-in-none : {A : Type 0} {x : Version} → first_below k s [] ≡ x ∷ [] → A
  none-in-none p = no-version (sym (first-nil k s) ∙ p)

  -- what is seen is the first, or is seen behind it
  data By (v : Version) (vs : List Version) (x : Version) : Type 0 where
    it-is : is_below k s v ≡ true → v ≡ x → By v vs x
    behind : is_below k s v ≡ false → first_below k s vs ≡ x ∷ [] → By v vs x

  by : (v : Version) (vs : List Version) (x : Version) → first_below k s (v ∷ vs) ≡ x ∷ [] → By v vs x
  by v vs x p = go (is_below k s v) refl
    where
      go : (b : Bool) → is_below k s v ≡ b → By v vs x
      go true e = let q : v ∷ [] ≡ x ∷ [] = sym (first-hit k s v vs e) ∙ p in it-is e (one-version q)
      go false e = behind e (sym (first_on k s v vs e) ∙ p)

  -- what is seen is of the key and below the snapshot
  seen_below : (vs : List Version) (x : Version) → first_below k s vs ≡ x ∷ [] → is_below k s x ≡ true
  seen_below [] x p = none-in-none p
  seen_below (v ∷ vs) x p = go (seen_below vs x) (by v vs x p)
    where
      go : (first_below k s vs ≡ x ∷ [] → is_below k s x ≡ true) → By v vs x → is_below k s x ≡ true
      go ih (it-is e i) = rw i at e
      go ih (behind e q) = ih q

  -- nothing newer than its key's first is seen
  seen_low : (v : Version) (vs : List Version) (x : Version) → Above v vs → k ≡ v.key → first_below k s (v ∷ vs) ≡ x ∷ [] → x.seqno ≤ v.seqno
  seen_low v [] x r e p = go (by v [] x p)
    where
      go : By v [] x → x.seqno ≤ v.seqno
      go (it-is f i) = rw i (omega arith)
      go (behind f q) = none-in-none q
  seen_low v (w ∷ ws) x r e p = go (seen_low w ws x (far v w ws r)) (near v w ws r) (by v (w ∷ ws) x p)
    where
      go : (k ≡ w.key → first_below k s (w ∷ ws) ≡ x ∷ [] → x.seqno ≤ w.seqno) → Next v w → By v (w ∷ ws) x → x.seqno ≤ v.seqno
      go ih n (it-is f i) = rw i (omega arith)
      go ih (same g h) (behind f q) = omega (arith, ih (e ∙ g) q)
      go ih (other g) (behind f q) = no-version (sym (first_above k s w ws (far v w ws r) (rw e g)) ∙ q)

-- the same in the output
module _ (j : Job) (k : List ℕ) (s : ℕ) where
  other_key : (v : Version) → of_key k v ≡ false → is_below k s (leave j v) ≡ false
  unfolding is_below leave with_seqno of_key
  other_key v e = simp e

  still : (v w : Version) → compare k v.key ≡ Less → Next v w → compare k w.key ≡ Less
  still v w c (same e h) = rw e at c
  still v w c (other e) = compare-trans _ _ _ c e

  -- a head of another key is not seen, whatever the filter made of it
  passes : (a : WithVerdict) {f : Fate} (fs : List Fate) → Headed j a f → of_key k a.version ≡ false → first_below k s (output (f ∷ fs)) ≡ first_below k s (output fs)
  unfolding filter_map Option-elim
  passes a fs (stays {kind = kind} {value = value} q) e = first_on k s (leave j (item a kind value)) (output fs) (other_key (item a kind value) (unfold of_key in e))
  passes a fs (leaves_none q t) e = refl
  passes a fs (is-dropped d) e = refl

  none_above : {t : Bool} {a : WithVerdict} {bs : List WithVerdict} {fs : List Fate} → Run j t a bs fs → Above a.version (versions bs) → compare k a.version.key ≡ Less → first_below k s (output fs) ≡ []
  unfolding filter_map Option-elim
  none_above tail-ends o c = first-nil k s
  none_above (tail-on {a = a} {b = b} {bs = bs} f h r) o c = none_above r (far a.version b.version (versions bs) o) (still a.version b.version c (near a.version b.version (versions bs) o))
  none_above (tail-over {a = a} {b = b} {bs = bs} f r) o c = none_above r (far a.version b.version (versions bs) o) (still a.version b.version c (near a.version b.version (versions bs) o))
  none_above (head-ends {a = a} q) o c = passes a [] q (above-key k a.version c) ∙ first-nil k s
  none_above (head-over {a = a} {b = b} {bs = bs} {fs = fs} q f r) o c =
      passes a fs q (above-key k a.version c) ∙ none_above r (far a.version b.version (versions bs) o) (still a.version b.version c (near a.version b.version (versions bs) o))
  none_above (head_tail {a = a} {b = b} {bs = bs} {fs = fs} q f h l r) o c =
      passes a fs q (above-key k a.version c) ∙ none_above r (far a.version b.version (versions bs) o) (still a.version b.version c (near a.version b.version (versions bs) o))
  none_above (head-on {a = a} {b = b} {bs = bs} {fs = fs} q f h l r) o c =
      passes a fs (stays q) (above-key k a.version c) ∙ none_above r (far a.version b.version (versions bs) o) (still a.version b.version c (near a.version b.version (versions bs) o))
  none_above (drop-on {a = a} {b = b} {bs = bs} d f h r) o c = none_above r (far a.version b.version (versions bs) o) (still a.version b.version c (near a.version b.version (versions bs) o))

  -- nothing of a key is left from its tail on
  none-in-tail : {a : WithVerdict} {bs : List WithVerdict} {fs : List Fate} → Run j true a bs fs → Above a.version (versions bs) → k ≡ a.version.key → first_below k s (output fs) ≡ []
  unfolding filter_map Option-elim
  none-in-tail tail-ends o e = first-nil k s
  none-in-tail (tail-on {a = a} {b = b} {bs = bs} f h r) o e = none-in-tail r (far a.version b.version (versions bs) o) (e ∙ f)
  none-in-tail (tail-over {a = a} {b = b} {bs = bs} f r) o e = none_above r (far a.version b.version (versions bs) o) (rw e f)

  leave-reply : (v : Version) → reply (leave j v ∷ []) ≡ reply (v ∷ [])
  unfolding reply reads_as leave with_seqno
  leave-reply v = refl

  -- v, of the key, is seen and kept
  at-kept : (v : Version) (out : List Version) → k ≡ v.key → v.seqno < s → reply (first_below k s (leave j v ∷ out)) ≡ reply (v ∷ [])
  at-kept v out e h = ap reply (first-hit k s (leave j v) out (is_below_lem k s (leave j v) (unfold leave with_seqno in e) (omega (arith, leave_low j v)))) ∙ leave-reply v

  -- a tombstone reads as nothing
  tomb-reply : (v : Version) → is_tombstone v.kind ≡ true → reply [] ≡ reply (v ∷ [])
  unfolding reply reads_as pick
  tomb-reply v t = simp t

  -- a, of the key and not in a tail, is seen: it is in the output, or was a tombstone and nothing of its key is
  at_head : (a : WithVerdict) {f : Fate} (fs : List Fate) → a.verdict ≡ Keep → Headed j a f → k ≡ a.version.key → a.version.seqno < s → first_below k s (output fs) ≡ []
      → reply (first_below k s (output (f ∷ fs))) ≡ reply (a.version ∷ [])
  unfolding filter_map Option-elim
  at_head a fs m (stays {kind = kind} {value = value} q) e h n = at-kept (item a kind value) (output fs) e h ∙ ap (λ (v : Version). reply (v ∷ [])) (as_it_was a m q)
  at_head a fs m (leaves_none q t) e h n =
      let z : is_tombstone a.version.kind ≡ true = ap is_tombstone (sym (ap (λ (v : Version). v.kind) (as_it_was a m q))) ∙ t in
      ap reply n ∙ tomb-reply a.version z
  at_head a fs m (is-dropped d) e h n = not-dropped a m d

  -- what the visible version must be: its key's newest, or not below T
  abbrev Safe : List Version → Version → Type 0
  Safe vs x = (is_newest vs x ≡ true) ⊎ (j.threshold ≤ x.seqno)

  safe-on : (v : Version) (vs : List Version) (x : Version) → Safe (v ∷ vs) x → Safe vs x
  unfolding is_newest
  safe-on v vs x (inl e) = inl (go (newer x v) e)
    where
      go : (b : Bool) → not b && is_newest vs x ≡ true → is_newest vs x ≡ true
      go true e = never (sym e)
      go false e = e
  safe-on v vs x (inr h) = inr h

  -- seen behind a version of the key, x is at or above T
  safe-high : (v : Version) (vs : List Version) (x : Version) → Safe (v ∷ vs) x → k ≡ v.key → is_below k s v ≡ false → first_below k s vs ≡ x ∷ []
      → (j.threshold ≤ x.seqno) × (s ≤ v.seqno)
  safe-high v vs x a e f p = (go a, up)
    where
      low : x.seqno < s
      low = (below-is k s x (seen_below k s vs x p)).1

      up : s ≤ v.seqno
      up = high (ltb v.seqno s) refl
        where
          high : (b : Bool) → ltb v.seqno s ≡ b → s ≤ v.seqno
          high true g = never (sym (is_below_lem k s v e (ltb-true _ _ g)) ∙ f)
          high false g = ltb-false _ _ g

      n : newer x v ≡ true
      n = simp (is_key x.key v (sym (below-is k s x (seen_below k s vs x p)).0 ∙ e), lt-ltb x.seqno v.seqno (omega (arith, low, up)))

      go : Safe (v ∷ vs) x → j.threshold ≤ x.seqno
      go (inl q) = never (sym q ∙ (unfold is_newest in simp n))
      go (inr h) = h

  not_yet : (v : Version) (vs : List Version) (x : Version) → of_key k v ≡ false → first_below k s (v ∷ vs) ≡ x ∷ [] → first_below k s vs ≡ x ∷ []
  unfolding is_below
  not_yet v vs x e p = sym (first_on k s v vs (simp e)) ∙ p

  -- the head of the key, before a tail or the key's end
  ends : (a : WithVerdict) (bs : List WithVerdict) {f : Fate} (fs : List Fate) (x : Version) → a.verdict ≡ Keep → Headed j a f → k ≡ a.version.key → first_below k s (output fs) ≡ []
      → first_below k s (versions (a ∷ bs)) ≡ x ∷ [] → Safe (versions (a ∷ bs)) x → (first_below k s (versions bs) ≡ x ∷ [] → j.threshold ≤ x.seqno → ⊥)
      → reply (first_below k s (output (f ∷ fs))) ≡ reply (x ∷ [])
  ends a bs {f} fs x m p e n q w no_other = go (by k s a.version (versions bs) x q)
    where
      go : By k s a.version (versions bs) x → reply (first_below k s (output (f ∷ fs))) ≡ reply (x ∷ [])
      go (it-is g i) = at_head a fs m p e (below-is k s a.version g).1 n ∙ ap (λ (y : Version). reply (y ∷ [])) i
      go (behind g r) = absurd (no_other r (safe-high a.version (versions bs) x w e g r).0)

  same_key : (v w : Version) → v.key ≡ w.key → of_key k v ≡ of_key k w
  unfolding of_key
  same_key v w e = rw e

  -- a version of another key changes nothing
  skips : (a : WithVerdict) {f : Fate} (fs : List Fate) (x : Version) → Headed j a f → of_key k a.version ≡ false → reply (first_below k s (output fs)) ≡ reply (x ∷ [])
      → reply (first_below k s (output (f ∷ fs))) ≡ reply (x ∷ [])
  skips a fs x q e r = ap reply (passes a fs q e) ∙ r

  reads : {t : Bool} {a : WithVerdict} {bs : List WithVerdict} {fs : List Fate} → Run j t a bs fs → Above a.version (versions bs) → AllKeep k (a ∷ bs) → (t ≡ true → of_key k a.version ≡ false)
      → (x : Version) → first_below k s (versions (a ∷ bs)) ≡ x ∷ [] → Safe (versions (a ∷ bs)) x → reply (first_below k s (output fs)) ≡ reply (x ∷ [])
  unfolding filter_map Option-elim AllKeep
  reads (tail-ends {a = a}) o m n x p w = none-in-none k s (not_yet a.version [] x (n refl) p)
  reads (tail-on {a = a} {b = b} {bs = bs} f h r) o m n x p w =
      reads r (far a.version b.version (versions bs) o) m.1 (λ z. sym (same_key a.version b.version f) ∙ n refl) x (not_yet a.version (versions (b ∷ bs)) x (n refl) p) (safe-on a.version (versions (b ∷ bs)) x w)
  reads (tail-over {a = a} {b = b} {bs = bs} f r) o m n x p w =
      reads r (far a.version b.version (versions bs) o) m.1 (λ z. never (sym z)) x (not_yet a.version (versions (b ∷ bs)) x (n refl) p) (safe-on a.version (versions (b ∷ bs)) x w)
  reads (head-ends {a = a} {f = f} q) o m n x p w = go (of_key k a.version) refl
    where
      go : (c : Bool) → of_key k a.version ≡ c → reply (first_below k s (output (f ∷ []))) ≡ reply (x ∷ [])
      go true e = ends a [] [] x (m.0 e) q (the-key k a.version e) (first-nil k s) p w (λ z h. none-in-none k s z)
      go false e = none-in-none k s (not_yet a.version [] x e p)
  reads (head-over {a = a} {b = b} {bs = bs} {f = f} {fs = fs} q g r) o m n x p w = go (λ y c. reads r (far a.version b.version (versions bs) o) m.1 (λ z. never (sym z)) x y c) (of_key k a.version) refl
    where
      go : (first_below k s (versions (b ∷ bs)) ≡ x ∷ [] → Safe (versions (b ∷ bs)) x → reply (first_below k s (output fs)) ≡ reply (x ∷ [])) → (c : Bool) → of_key k a.version ≡ c
          → reply (first_below k s (output (f ∷ fs))) ≡ reply (x ∷ [])
      go ih true e =
          let c : compare k b.version.key ≡ Less = rw (the-key k a.version e) g in
          ends a (b ∷ bs) fs x (m.0 e) q (the-key k a.version e) (none_above r (far a.version b.version (versions bs) o) c) p w
          (λ z h. no-version (sym (first_above k s b.version (versions bs) (far a.version b.version (versions bs) o) c) ∙ z))
      go ih false e = skips a fs x q e (ih (not_yet a.version (versions (b ∷ bs)) x e p) (safe-on a.version (versions (b ∷ bs)) x w))
  reads (head_tail {a = a} {b = b} {bs = bs} {f = f} {fs = fs} q g h l r) o m n x p w = go (λ y z c d. reads r (far a.version b.version (versions bs) o) m.1 y z c d) (of_key k a.version) refl
    where
      go : ((true ≡ true → of_key k b.version ≡ false) → (x : Version) → first_below k s (versions (b ∷ bs)) ≡ x ∷ [] → Safe (versions (b ∷ bs)) x → reply (first_below k s (output fs)) ≡ reply (x ∷ []))
          → (c : Bool) → of_key k a.version ≡ c → reply (first_below k s (output (f ∷ fs))) ≡ reply (x ∷ [])
      go ih true e =
          ends a (b ∷ bs) fs x (m.0 e) q (the-key k a.version e) (none-in-tail r (far a.version b.version (versions bs) o) (the-key k a.version e ∙ g)) p w
          (λ z u. omega (arith, seen_low k s b.version (versions bs) x (far a.version b.version (versions bs) o) (the-key k a.version e ∙ g) z, u, l))
      go ih false e = skips a fs x q e (ih (λ z. sym (same_key a.version b.version g) ∙ e) x (not_yet a.version (versions (b ∷ bs)) x e p) (safe-on a.version (versions (b ∷ bs)) x w))
  reads (head-on {kind = kind} {value = value} {r = u} {a = a} {b = b} {bs = bs} {fs = fs} q g h l r) o m n x p w = go (λ y c. reads r (far a.version b.version (versions bs) o) m.1 (λ z. never (sym z)) x y c) (of_key k a.version) refl
    where
      go : (first_below k s (versions (b ∷ bs)) ≡ x ∷ [] → Safe (versions (b ∷ bs)) x → reply (first_below k s (output fs)) ≡ reply (x ∷ [])) → (c : Bool) → of_key k a.version ≡ c
          → reply (first_below k s (output (stay j (item a kind value) u ∷ fs))) ≡ reply (x ∷ [])
      go ih true e = way (by k s a.version (versions (b ∷ bs)) x p)
        where
          way : By k s a.version (versions (b ∷ bs)) x → reply (first_below k s (output (stay j (item a kind value) u ∷ fs))) ≡ reply (x ∷ [])
          way (it-is c i) = at-kept (item a kind value) (output fs) (the-key k a.version e) (below-is k s a.version c).1
              ∙ ap (λ (y : Version). reply (y ∷ [])) (as_it_was a (m.0 e) q ∙ i)
          way (behind c z) =
              let y : (j.threshold ≤ x.seqno) × (s ≤ a.version.seqno) = safe-high a.version (versions (b ∷ bs)) x w (the-key k a.version e) c z in
              let v : is_below k s (leave j (item a kind value)) ≡ false = rw (leave_same j (item a kind value) (omega arith)) (unfold is_below of_key in c) in
              ap reply (first_on k s (leave j (item a kind value)) (output fs) v) ∙ ih z (safe-on a.version (versions (b ∷ bs)) x w)
      go ih false e = skips a fs x (stays q) e (ih (not_yet a.version (versions (b ∷ bs)) x e p) (safe-on a.version (versions (b ∷ bs)) x w))
  reads (drop-on {a = a} {b = b} {bs = bs} {fs = fs} d g h r) o m n x p w = go (λ y c. reads r (far a.version b.version (versions bs) o) m.1 (λ z. never (sym z)) x y c) (of_key k a.version) refl
    where
      go : (first_below k s (versions (b ∷ bs)) ≡ x ∷ [] → Safe (versions (b ∷ bs)) x → reply (first_below k s (output fs)) ≡ reply (x ∷ [])) → (c : Bool) → of_key k a.version ≡ c
          → reply (first_below k s (output fs)) ≡ reply (x ∷ [])
      go ih true e = not-dropped a (m.0 e) d
      go ih false e = ih (not_yet a.version (versions (b ∷ bs)) x e p) (safe-on a.version (versions (b ∷ bs)) x w)

-- If every verdict on a key is keep and the version that a read saw is its newest, or is at or above T, the read answers the same after the compaction.
same-reply : (j : Job) (bs : List WithVerdict) → InOrder (versions bs) → (k : List ℕ) → AllKeep k bs → (s : ℕ) (x : Version) → first_below k s (versions bs) ≡ x ∷ []
    → (is_newest (versions bs) x ≡ true) ⊎ (j.threshold ≤ x.seqno) → reply (first_below k s (compacted j bs)) ≡ reply (first_below k s (versions bs))
unfolding compacted InOrder
same-reply j [] o k m s x p w = none-in-none k s p
same-reply j (a ∷ bs) o k m s x p w =
    rw (← (loop-is j a bs)) (reads j k s (run j false a bs o) o m (λ z. never (sym z)) x p w ∙ sym (ap reply p))

pub reads_same : (j : Job) (bs : List WithVerdict) → InOrder (versions bs) → (k : List ℕ) → AllKeep k bs → (s i : ℕ) (x : Version) → point_read k s (versions bs) ≡ some (i, x)
    → (is_newest (versions bs) x ≡ true) ⊎ (j.threshold ≤ x.seqno) → reads_as (point_read k s (compacted j bs)) ≡ reads_as (point_read k s (versions bs))
unfolding first_below version_in
reads_same j bs o k m s i x p w = reads_as_lem _ ∙ same-reply j bs o k m s x (ap version_in p) w ∙ sym (reads_as_lem _)

-- A read that saw no version still sees none, unless seqnos are zeroed and the snapshot is below T.
hidden : (j : Job) (k : List ℕ) (s : ℕ) (v : Version) → (j.zeroing ≡ false) ⊎ (j.threshold ≤ s) → is_below k s v ≡ false → is_below k s (leave j v) ≡ false
unfolding is_below leave with_seqno pick below of_key
hidden j k s v (inl e) h = subst (λ (y : Version). is_below k s y ≡ false) (sym (leave-plain j v e)) h
hidden j k s v (inr t) h = go j.zeroing (ltb v.seqno j.threshold) refl
  where
    go : (z b : Bool) → ltb v.seqno j.threshold ≡ b → of_key k v && ltb (pick (z && b) 0 v.seqno) s ≡ false
    go true true e =
        let q : v.seqno < j.threshold = ltb-true _ _ e in
        ap (λ (b : Bool). of_key k v && b) (lt-ltb 0 s (omega arith) ∙ sym (lt-ltb v.seqno s (omega arith))) ∙ h
    go true false e = h
    go false b e = h

-- where nothing is seen, the first is not, and nothing behind it
not_seen : (k : List ℕ) (s : ℕ) (v : Version) (vs : List Version) → first_below k s (v ∷ vs) ≡ [] → (is_below k s v ≡ false) × (first_below k s vs ≡ [])
not_seen k s v vs p = go (is_below k s v) refl
  where
    go : (b : Bool) → is_below k s v ≡ b → (is_below k s v ≡ false) × (first_below k s vs ≡ [])
    go true e = no-version (sym p ∙ first-hit k s v vs e)
    go false e = (e, sym (first_on k s v vs e) ∙ p)

still-nothing : (j : Job) (k : List ℕ) (s : ℕ) {fs : List Fate} {bs : List WithVerdict} → Each j fs bs → (j.zeroing ≡ false) ⊎ (j.threshold ≤ s)
    → first_below k s (versions bs) ≡ [] → first_below k s (output fs) ≡ []
unfolding filter_map Option-elim
still-nothing j k s over c p = first-nil k s
still-nothing j k s (stayed {kind = kind} {value = value} {a = a} {fs = fs} {bs = bs} q r) c p =
    let (e, z) = not_seen k s a.version (versions bs) p in
    first_on k s (leave j (item a kind value)) (output fs) (hidden j k s (item a kind value) c (unfold is_below of_key in e)) ∙ still-nothing j k s r c z
still-nothing j k s (left_out {a = a} {bs = bs} r) c p = still-nothing j k s r c (not_seen k s a.version (versions bs) p).1

pub reads_nothing : (j : Job) (bs : List WithVerdict) (k : List ℕ) (s : ℕ) → (j.zeroing ≡ false) ⊎ (j.threshold ≤ s)
    → point_read k s (versions bs) ≡ none → point_read k s (compacted j bs) ≡ none
unfolding compacted first_below version_in
reads_nothing j bs k s c p = is_none _ (still-nothing j k s (each j bs) c (ap version_in p))
