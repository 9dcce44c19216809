-- At a higher threshold nothing is kept that was not kept before: its loop lies in a tail wherever the lower one's does, and what goes there goes here.
use Prim.Native.Nat.{ℕ, zero, suc, ◌≤◌}
use mathlib.Core.Path.{◌≡◌, refl, sym, ◌∙◌}
use mathlib.Core.List.{List, [], ◌∷◌, flat_map}
use mathlib.Core.Bool.{Bool, true, false, ◌&&◌, and-false}
use mathlib.Core.Option.{Option, none, some, Option-elim}
use native.Mathlib.Omega.{arith}
use borrow.Author.Tests.{lt-ltb, ltb-true}
use lib.ListN.{get_or}
use Rattle.list.specs.Pick.{pick}
use Rattle.list.specs.Version.{Version}
use Rattle.list.specs.PointRead.{of_key}
use Rattle.compaction.specs.declared.stream.Job.{Job}
use Rattle.compaction.specs.Fate.{is_kept, WithVerdict, filter_item, below, leave, dropped, expired, goes, head_fate, fates, histories}
use Rattle.compaction.specs.Turn.{following, turn}
use Rattle.compaction.proofs.Loop.{fate_of, fate_if, tailed, loop, loop-is}
use Rattle.compaction.proofs.Kept.{gone}
use Rattle.list.proofs.Tests.{never}

module _ (j j' : Job) (up : j.threshold ≤ j'.threshold) (same : j.evict ≡ j'.evict) where
  below_up : (w : Version) → below j w ≡ true → below j' w ≡ true
  unfolding below
  below_up w e = lt-ltb w.seqno j'.threshold (omega (arith, ltb-true w.seqno j.threshold e))

  expired-up : (us : List Version) → expired j us ≡ true → expired j' us ≡ true
  unfolding expired
  expired-up [] p = p
  expired-up (u ∷ us) p = below_up u p

  goes-up : (v : Version) (us : List Version) → goes j v us ≡ true → goes j' v us ≡ true
  unfolding goes below
  goes-up v [] p = rw (← same) p
  goes-up v (u ∷ us) p = rw (← same) (go (below j u) refl _ p)
    where
      go : (b : Bool) → below j u ≡ b → (c : Bool) → b && c ≡ true → below j' u && c ≡ true
      go true e c p = simp (below_up u e, p)
      go false e c p = never (sym p)

  kept-up : (t t' : Bool) → (t ≡ true → t' ≡ true) → (a : WithVerdict) (us : List Version) → is_kept (fate_if j' t' a us) ≡ true → is_kept (fate_if j t a us) ≡ true
  unfolding is_kept fate_if dropped head_fate pick Option-elim
  kept-up t true i a us p = never (sym p)
  kept-up true false i a us p = never (sym (i refl))
  kept-up false false i a us p = go (filter_item a).leaves p
    where
      by : (h : Version) (b : Bool) → goes j h us ≡ b → (c : Bool) → goes j' h us ≡ c
          → Option-elim (pick c none (some (leave j' h))) false (λ v. true) ≡ true → Option-elim (pick b none (some (leave j h))) false (λ v. true) ≡ true
      by h true e true f p = p
      by h true e false f p = never (sym (goes-up h us e) ∙ f)
      by h false e c f p = refl

      go : (o : Option Version) → Option-elim (Option-elim o none (λ h. pick (goes j' h us) none (some (leave j' h)))) false (λ v. true) ≡ true
          → Option-elim (Option-elim o none (λ h. pick (goes j h us) none (some (leave j h)))) false (λ v. true) ≡ true
      go none p = p
      go (some h) p = by h (goes j h us) refl (goes j' h us) refl p

  tail-up : (t t' : Bool) (a b : WithVerdict) → (t ≡ true → t' ≡ true) → tailed j t a b ≡ true → tailed j' t' a b ≡ true
  unfolding tailed turn following pick
  tail-up t t' a b i = go (of_key a.version.key b.version) t t' i (is_kept (filter_item a))
    where
      go : (o : Bool) (t t' : Bool) → (t ≡ true → t' ≡ true) → (k : Bool)
          → pick t o (k && expired j (pick o (b.version ∷ []) [])) ≡ true → pick t' o (k && expired j' (pick o (b.version ∷ []) [])) ≡ true
      go true t true x k p = refl
      go true true false x k p = never (sym (x refl))
      go true false false x true p = expired-up (b.version ∷ []) p
      go true false false x false p = p
      go false true t' x k p = never (sym p)
      go false false t' x k p = unfold expired in never (sym (sym (and-false k) ∙ p))

  loop-up : (t t' : Bool) (a : WithVerdict) (bs : List WithVerdict) → (t ≡ true → t' ≡ true) → (n : ℕ)
      → is_kept (get_or (loop j' t' a bs) n (gone false)) ≡ true → is_kept (get_or (loop j t a bs) n (gone false)) ≡ true
  unfolding loop
  loop-up t t' a [] i zero p = kept-up t t' i a [] p
  loop-up t t' a [] i (suc n) p = p
  loop-up t t' a (b ∷ bs) i zero p = kept-up t t' i a (following a.version b.version) p
  loop-up t t' a (b ∷ bs) i (suc n) p = loop-up (tailed j t a b) (tailed j' t' a b) b bs (tail-up t t' a b i) n p

-- A record that is kept at a threshold is kept at every lower one, whatever the verdicts.
pub kept-at-lower : (j j' : Job) → j.threshold ≤ j'.threshold → j.evict ≡ j'.evict → (bs : List WithVerdict) (n : ℕ)
    → is_kept (fate_of j' bs n) ≡ true → is_kept (fate_of j bs n) ≡ true
unfolding fate_of fates histories flat_map
kept-at-lower j j' up same [] n p = p
kept-at-lower j j' up same (a ∷ bs) n p =
    rw (← (loop-is j a bs)) (loop-up j j' up same false false a bs (λ q. q) n (rw (← (loop-is j' a bs)) at p))
