-- Without a filter, at threshold 0 and without eviction, nothing is below T and nothing goes: the loop keeps every record as it is.
use Prim.Native.Nat.{ℕ}
use mathlib.Core.Path.{◌≡◌, refl, sym, ap, ap₂, ◌∙◌}
use mathlib.Core.List.{List, [], ◌∷◌, map, flat_map, filter_map}
use mathlib.Core.Bool.{Bool, false, and-false}
use mathlib.Core.Option.{none, some, Option-elim}
use native.Mathlib.Omega.{arith}
use borrow.Author.Tests.{le-ltb}
use Rattle.list.specs.Pick.{pick}
use Rattle.list.specs.Version.{Version}
use Rattle.compaction.specs.declared.stream.Job.{Job}
use Rattle.compaction.specs.Fate.{Fate, is_kept, WithVerdict, Keep, unfiltered, filter_item, leave, below, expired, goes, head_fate, histories, fates}
use Rattle.compaction.specs.Compact.{numbers, compacted, report}
use Rattle.compaction.specs.Turn.{following, turn}
use Rattle.compaction.proofs.Kept.{leave_same, versions, versions-asked, output, told, stay, keeps, Plain, plain-asked}
use Rattle.compaction.proofs.Loop.{fate_if, tailed, loop, loop-is}

module _ (j : Job) (zero : j.threshold ≡ 0) (off : j.evict ≡ false) where
  -- a fate for each, all kept
  abbrev stay_all : List Version → List Fate
  stay_all vs = map (λ (v : Version). stay j v false) vs

  none_below : (v : Version) → below j v ≡ false
  unfolding below
  none_below v = le-ltb v.seqno j.threshold (omega arith)

  none-goes : (v : Version) (us : List Version) → goes j v us ≡ false
  unfolding goes
  none-goes v [] = simp off
  none-goes v (u ∷ us) = simp (none_below u)

  none-expired : (us : List Version) → expired j us ≡ false
  unfolding expired
  none-expired [] = refl
  none-expired (u ∷ us) = none_below u

  no-tail : (a b : WithVerdict) → tailed j false a b ≡ false
  unfolding tailed turn pick
  no-tail a b = rw (none-expired (following a.version b.version)) (and-false (is_kept (filter_item a)))

  one-stays : (a : WithVerdict) → a.verdict ≡ Keep → (us : List Version) → fate_if j false a us ≡ stay j a.version false
  unfolding fate_if head_fate pick Option-elim
  one-stays a k us = rw (keeps a k) (ap (λ (x : Bool). record { leaves = pick x none (some (leave j a.version)); reported = false }) (none-goes a.version us))

  loop-stays : (a : WithVerdict) (bs : List WithVerdict) → Plain (a ∷ bs) → loop j false a bs ≡ stay_all (versions (a ∷ bs))
  unfolding loop Plain
  loop-stays a [] k = ap (λ f. f ∷ []) (one-stays a k.0 [])
  loop-stays a (b ∷ bs) k =
      rw (one-stays a k.0 (following a.version b.version), no-tail a b) (ap (λ (fs : List Fate). stay j a.version false ∷ fs) (loop-stays b bs k.1))

  all_stay : (bs : List WithVerdict) → Plain bs → fates j bs ≡ stay_all (versions bs)
  unfolding fates histories flat_map
  all_stay [] k = refl
  all_stay (a ∷ bs) k = sym (loop-is j a bs) ∙ loop-stays a bs k

  plain-stay : (vs : List Version) → fates j (unfiltered vs) ≡ stay_all vs
  unfolding unfiltered
  plain-stay vs = all_stay _ (plain-asked 0 vs) ∙ ap stay_all (versions-asked _ 0 vs)

  same_out : (vs : List Version) → output (stay_all vs) ≡ vs
  unfolding filter_map Option-elim
  same_out [] = refl
  same_out (v ∷ vs) = ap₂ ◌∷◌ (leave_same j v (omega arith)) (same_out vs)

  none_told : (n : ℕ) (vs : List Version) → numbers n (map told (stay_all vs)) ≡ []
  unfolding numbers pick
  none_told n [] = refl
  none_told n (v ∷ vs) = none_told _ vs

  -- The output is the input, and nothing is reported.
  pub same-list : (vs : List Version) → compacted j (unfiltered vs) ≡ vs
  unfolding compacted
  same-list vs = rw (plain-stay vs) (same_out vs)

  pub no-report : (vs : List Version) → report j (unfiltered vs) ≡ []
  unfolding report
  no-report vs = rw (plain-stay vs) (none_told 0 vs)
