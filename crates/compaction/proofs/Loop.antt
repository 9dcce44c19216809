-- The fates in one pass, a being held back until the next comes and t saying whether a lies in its key's tail: on every list they are the definition's, by induction.
use Prim.Native.Nat.{ℕ}
use mathlib.Core.Path.{◌≡◌, refl, sym, ap, ◌∙◌}
use mathlib.Core.List.{List, [], ◌∷◌, ◌++◌, map, flat_map}
use mathlib.Core.Bool.{Bool, true, false, and-false}
use mathlib.Core.Option.{none}
use lib.ListN.{get_or}
use Rattle.list.specs.Pick.{pick}
use Rattle.list.specs.Version.{Version}
use Rattle.list.specs.PointRead.{of_key}
use Rattle.compaction.specs.declared.stream.Job.{Job}
use Rattle.compaction.specs.Fate.{Fate, is_kept, WithVerdict, filter_item, History, below, dropped, expired, goes, head_fate, key_fates, prepend, histories, fates}
use Rattle.compaction.specs.Turn.{following, turn}

-- the fate of a, us being what follows it of its key as far as the next version tells
unfoldable pub fate_if : Job → Bool → WithVerdict → List Version → Fate
fate_if j t a us = pick t dropped (head_fate j (filter_item a) us)

-- whether the next record lies in the tail
unfoldable pub tailed : Job → Bool → WithVerdict → WithVerdict → Bool
tailed j t a b = (turn j t (filter_item a) a.version b.version).tail

unfoldable pub loop : Job → Bool → WithVerdict → List WithVerdict → List Fate
loop j t a [] = fate_if j t a [] ∷ []
loop j t a (b ∷ bs) = fate_if j t a (following a.version b.version) ∷ loop j (tailed j t a b) b bs

abbrev all_fates : Job → List History → List Fate
all_fates j hs = flat_map (λ (k : History). key_fates j (k.newest ∷ k.older)) hs

unfoldable pub drop_all : List WithVerdict → List Fate
drop_all bs = map (λ (x : WithVerdict). dropped) bs

-- What the loop makes is what the definition makes of the first history and the rest.
record Split (j : Job) (a : WithVerdict) (bs : List WithVerdict) : Type 0 where
  older : List WithVerdict
  rest : List History
  is : histories (a ∷ bs) ≡ record { newest = a; older = older } ∷ rest
  in_tail : loop j true a bs ≡ drop_all (a ∷ older) ++ all_fates j rest
  not-in-tail : loop j false a bs ≡ key_fates j (a ∷ older) ++ all_fates j rest

split : (j : Job) (a : WithVerdict) (bs : List WithVerdict) → Split j a bs
unfolding loop tailed fate_if turn following histories prepend flat_map key_fates head_fate goes expired pick drop_all
split j a [] = record { older = []; rest = []; is = refl; in_tail = refl; not-in-tail = simp and-false }
split j a (b ∷ bs) = go (split j b bs) (of_key a.version.key b.version) refl (below j b.version) refl (is_kept (filter_item a)) refl
  where
    go : Split j b bs → (o : Bool) → of_key a.version.key b.version ≡ o → (l : Bool) → below j b.version ≡ l → (k : Bool) → is_kept (filter_item a) ≡ k → Split j a (b ∷ bs)
    go s true e true f true g = record {
      older = b ∷ s.older;
      rest = s.rest;
      is = rw s.is (simp e);
      in_tail = simp (e, s.in_tail);
      not-in-tail = simp (e, f, g, s.in_tail);
    }
    go s true e true f false g = record {
      older = b ∷ s.older;
      rest = s.rest;
      is = rw s.is (simp e);
      in_tail = simp (e, s.in_tail);
      not-in-tail = simp (e, f, g, s.not-in-tail);
    }
    go s true e false f k g = record {
      older = b ∷ s.older;
      rest = s.rest;
      is = rw s.is (simp e);
      in_tail = simp (e, s.in_tail);
      not-in-tail = simp (e, f, and-false, s.not-in-tail);
    }
    go s false e l f k g = record {
      older = [];
      rest = record { newest = b; older = s.older } ∷ s.rest;
      is = rw s.is (simp e);
      in_tail = simp (e, s.not-in-tail);
      not-in-tail = simp (e, and-false, s.not-in-tail);
    }

-- On every list, in order or not, the loop makes the fates of the definition.
pub loop-is : (j : Job) (a : WithVerdict) (bs : List WithVerdict) → loop j false a bs ≡ fates j (a ∷ bs)
unfolding fates flat_map
loop-is j a bs = let s = split j a bs in s.not-in-tail ∙ sym (ap (all_fates j) s.is)

-- The fate of record n; past the last record nothing leaves and nothing is reported.
unfoldable pub fate_of : Job → List WithVerdict → ℕ → Fate
fate_of j bs n = get_or (fates j bs) n (record { leaves = none; reported = false })
