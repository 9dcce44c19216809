-- Of one list, the entries from a key to that key are what the point read of the key finds, tombstones aside: in a list in order the key's first version below the snapshot is its newest.
use Prim.Native.Nat.{ℕ, suc, ◌+◌}
use mathlib.Core.Path.{◌≡◌, refl, sym, ap, ◌∙◌}
use mathlib.Core.List.{List, [], ◌∷◌}
use mathlib.Core.Bool.{Bool, true, false, not, ◌&&◌}
use mathlib.Core.Option.{Option, none, some}
use native.Mathlib.Omega.{arith}
use Rattle.list.specs.Pick.{pick}
use Rattle.list.specs.Order.{compare, is_less, is_equal}
use Rattle.list.specs.ValueType.{is_tombstone}
use Rattle.list.specs.Version.{Version, InOrder}
use Rattle.list.specs.PointRead.{of_key, is_below, point_read_from, point_read}
use Rattle.list.proofs.Strict.{Keys, less, one, more, keys, compare-back, compare_refl}
use Rattle.list.proofs.OfKey.{below-is}
use Rattle.merge.specs.Placed.{Placed}
use Rattle.merge.specs.Merged.{numbered, gather, everything, sort}
use Rattle.merge.specs.declared.ends.End.TheVariants.{Front}
use Rattle.merge.proofs.Lists.{put, sort-put, link}
use Rattle.merge.proofs.Numbered.{Rises, numbered-rises}
use Rattle.std.specs.declared.ops.Bound.TheVariants.{Included}
use Rattle.read.specs.Bounds.{from_lower, to_upper, within}
use Rattle.read.specs.Entries.{visible, live, only, firsts, answers, entries}
use Rattle.read.proofs.Lists.{only_yes, only_no, only-chain, shadowed-front}

-- a version of the one list, with its record number
abbrev pub here : ℕ → Version → Placed
here i v = record { version = v; list = 0; number = i }

-- the version found as an entry; a tombstone is none
unfoldable pub entry_in : Option (ℕ × Version) → List Placed
entry_in none = []
entry_in (some (i, v)) = pick (is_tombstone v.kind) [] (here i v ∷ [])

-- the same, tombstones too
found : Option (ℕ × Version) → List Placed
found none = []
found (some (i, v)) = here i v ∷ []

live-found : (x : Option (ℕ × Version)) → only live (found x) ≡ entry_in x
unfolding only live found entry_in pick
live-found none = refl
live-found (some (i, v)) = go (is_tombstone v.kind)
  where
    go : (b : Bool) → pick (not b) (here i v ∷ []) [] ≡ pick b [] (here i v ∷ [])
    go true = refl
    go false = refl

sort-same : (l : List Placed) → Rises l → sort l ≡ l
unfolding sort put
sort-same [] r = refl
sort-same (x ∷ l) (link a r) = sort-put Front [] x l a ∙ ap (λ l'. x ∷ l') (sort-same l r)

module _ (k : List ℕ) (s : ℕ) where
  -- from the key to the key: of the key
  within-is : (x : Placed) → within (Included k) (Included k) x ≡ of_key k x.version
  unfolding within from_lower to_upper of_key is_less is_equal
  within-is x = go (keys k x.version.key)
    where
      go : Keys k x.version.key
          → (not (is_less (compare x.version.key k)) && not (is_less (compare k x.version.key))) ≡ is_equal (compare k x.version.key)
      go (less e) = rw (e, compare-back _ _ e)
      go (one e) = rw (← e, compare_refl k)
      go (more e) = rw (e, compare-back _ _ e)

  view : List Placed → List Placed
  view l = only (visible s) (only (within (Included k) (Included k)) l)

  view-on : (x : Placed) (l : List Placed) → view (x ∷ l) ≡ pick (is_below k s x.version) (x ∷ view l) (view l)
  unfolding view only pick is_below visible
  view-on x l = rw (within-is x) (go (of_key k x.version) (visible s x) refl)
    where
      go : (a b : Bool) → visible s x ≡ b
          → only (visible s) (pick a (x ∷ only (within (Included k) (Included k)) l) (only (within (Included k) (Included k)) l)) ≡ pick (a && b) (x ∷ view l) (view l)
      go true true e = only_yes (visible s) x (only (within (Included k) (Included k)) l) e
      go true false e = only_no (visible s) x (only (within (Included k) (Included k)) l) e
      go false b e = refl

  -- behind a version of the key no other one is a first
  alone : (x : Placed) → k ≡ x.version.key → (vs : List Version) (i : ℕ) → firsts (x ∷ view (numbered 0 i vs)) ≡ x ∷ []
  unfolding numbered view only firsts pick
  alone x e [] i = refl
  alone x e (v ∷ vs) i = ap (λ l. firsts (x ∷ l)) (view-on (here i v) (numbered 0 (suc i) vs)) ∙ go (is_below k s v) refl (alone x e vs (suc i))
    where
      go : (b : Bool) → is_below k s v ≡ b → firsts (x ∷ view (numbered 0 (suc i) vs)) ≡ x ∷ []
          → firsts (x ∷ pick b (here i v ∷ view (numbered 0 (suc i) vs)) (view (numbered 0 (suc i) vs))) ≡ x ∷ []
      go true b ih = shadowed-front x (here i v) (view (numbered 0 (suc i) vs)) (sym e ∙ (below-is k s v b).0) ∙ ih
      go false b ih = ih

  finds : (vs : List Version) (i : ℕ) → firsts (view (numbered 0 i vs)) ≡ found (point_read_from i k s vs)
  unfolding numbered view only firsts found point_read_from pick
  finds [] i = refl
  finds (v ∷ vs) i = ap firsts (view-on (here i v) (numbered 0 (suc i) vs)) ∙ go (is_below k s v) refl (finds vs (suc i) ∙ ap (λ (j : ℕ). found (point_read_from j k s vs)) (omega arith))
    where
      go : (b : Bool) → is_below k s v ≡ b → firsts (view (numbered 0 (suc i) vs)) ≡ found (point_read_from (i + 1) k s vs)
          → firsts (pick b (here i v ∷ view (numbered 0 (suc i) vs)) (view (numbered 0 (suc i) vs))) ≡ found (pick b (some (i, v)) (point_read_from (i + 1) k s vs))
      go true b ih = alone (here i v) (below-is k s v b).0 vs (suc i)
      go false b ih = ih

  pub one_list : (vs : List Version) → InOrder vs → entries (vs ∷ []) (Included k) (Included k) s ≡ entry_in (point_read k s vs)
  unfolding entries answers everything gather view point_read
  one_list vs o =
      ap (λ l. only live (firsts (only (visible s) l))) (sort-same _ (only-chain _ _ _ (numbered-rises 0 0 vs o)))
      ∙ ap (only live) (finds vs 0) ∙ live-found (point_read k s vs)
