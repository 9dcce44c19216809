-- A read after an insert finds the inserted version where it is the newest below the seqno, and what it found before everywhere else, because an insert moves no other version past another.
use Prim.Native.Nat.{ℕ, ◌+◌, ◌≤◌, ◌<◌}
use mathlib.Core.Path.{◌≡◌, refl, sym, ap, ◌∙◌}
use mathlib.Core.List.{List, [], ◌∷◌}
use mathlib.Core.Bool.{Bool, true, false}
use native.Mathlib.Omega.{arith}
use borrow.Author.Tests.{lt-ltb, le-ltb}
use lib.Dec.{ltb}
use Rattle.list.specs.Pick.{pick}
use Rattle.list.specs.Version.{Version, ordered, Above, InOrder}
use Rattle.list.specs.PointRead.{is_below, of_key}
use Rattle.list.proofs.Neighbours.{one_key}
use Rattle.list.proofs.Strict.{versions-equal}
use Rattle.list.proofs.Ordered.{ordered-trans, ordered-flip, ordered-seqno, above-in-order}
use Rattle.std.specs.declared.cmp.Ordering.{Ordering}
use Rattle.std.specs.declared.cmp.Ordering.TheVariants.{Less, Equal, Greater}
use Rattle.list.proofs.OfKey.{is_below_lem, below-is}
use Rattle.list.proofs.PointRead.{first_below, first-nil, first-hit, first_on}
use Rattle.memtable.specs.Change.{by_order, insert}

-- the newer of a version and one found before
unfoldable pub newer_of : Version → List Version → List Version
newer_of v [] = v ∷ []
newer_of v (w ∷ ws) = pick (ltb v.seqno w.seqno) (w ∷ ws) (v ∷ [])

module _ (k : List ℕ) (n : ℕ) where
  -- versions of one key and seqno are below alike
  alike : (v w : Version) → ordered v w ≡ Equal → is_below k n v ≡ is_below k n w
  unfolding ordered is_below of_key
  alike v w e = let q = versions-equal v.key v.seqno w.key w.seqno e in rw (q.0, q.1)

  -- a version that the read doesn't see changes nothing
  unseen : (v : Version) (vs : List Version) → is_below k n v ≡ false → first_below k n (insert v vs) ≡ first_below k n vs
  unfolding insert by_order
  unseen v [] e = first_on k n v [] e
  unseen v (w ∷ ws) e = go (ordered v w) refl (unseen v ws e)
    where
      passes : (b : Bool) → is_below k n w ≡ b → first_below k n (insert v ws) ≡ first_below k n ws → first_below k n (w ∷ insert v ws) ≡ first_below k n (w ∷ ws)
      passes true b ih = first-hit k n w (insert v ws) b ∙ sym (first-hit k n w ws b)
      passes false b ih = first_on k n w (insert v ws) b ∙ ih ∙ sym (first_on k n w ws b)

      go : (x : Ordering) → ordered v w ≡ x → first_below k n (insert v ws) ≡ first_below k n ws → first_below k n (by_order x (v ∷ w ∷ ws) (v ∷ ws) (w ∷ insert v ws)) ≡ first_below k n (w ∷ ws)
      go Less o ih = first_on k n v (w ∷ ws) e
      go Equal o ih = first_on k n v ws e ∙ sym (first_on k n w ws (sym (alike v w o) ∙ e))
      go Greater o ih = passes (is_below k n w) refl ih

  -- of two that the read sees, the one in front has the greater seqno
  in-front : (v w : Version) → is_below k n v ≡ true → is_below k n w ≡ true → ordered v w ≡ Less → w.seqno < v.seqno
  in-front v w a b o = one_key v w (sym (below-is k n v a).0 ∙ (below-is k n w b).0) o

  newer-stays : (v w : Version) → v.seqno < w.seqno → newer_of v (w ∷ []) ≡ w ∷ []
  unfolding newer_of pick
  newer-stays v w h = rw (lt-ltb _ _ h)

  newer-comes : (v w : Version) → w.seqno ≤ v.seqno → newer_of v (w ∷ []) ≡ v ∷ []
  unfolding newer_of pick
  newer-comes v w h = rw (le-ltb _ _ h)

  lower : (u w : Version) (ws : List Version) → ordered u w ≡ Less → Above w ws → Above u ws
  unfolding Above
  lower u w [] p o = tt
  lower u w (x ∷ ws) p o = (ordered-trans u w x p o.0, o.1)

  -- in front of all, a version is the newest
  leads : (v : Version) (vs : List Version) → is_below k n v ≡ true → Above v vs → newer_of v (first_below k n vs) ≡ v ∷ []
  unfolding Above newer_of
  leads v [] e o = ap (newer_of v) (first-nil k n)
  leads v (w ∷ ws) e o = go (is_below k n w) refl (leads v ws e (lower v w ws o.0 o.1))
    where
      go : (b : Bool) → is_below k n w ≡ b → newer_of v (first_below k n ws) ≡ v ∷ [] → newer_of v (first_below k n (w ∷ ws)) ≡ v ∷ []
      go true b ih = ap (newer_of v) (first-hit k n w ws b) ∙ newer-comes v w (let l = in-front v w e b o.0 in omega arith)
      go false b ih = ap (newer_of v) (first_on k n w ws b) ∙ ih

  seen : (v : Version) (vs : List Version) → is_below k n v ≡ true → InOrder vs → first_below k n (insert v vs) ≡ newer_of v (first_below k n vs)
  unfolding insert by_order InOrder Above
  seen v [] e o = first-hit k n v [] e ∙ sym (leads v [] e tt)
  seen v (w ∷ ws) e o = go (ordered v w) refl (seen v ws e (above-in-order w ws o))
    where
      passes : (b : Bool) → is_below k n w ≡ b → ordered v w ≡ Greater → first_below k n (insert v ws) ≡ newer_of v (first_below k n ws) → first_below k n (w ∷ insert v ws) ≡ newer_of v (first_below k n (w ∷ ws))
      passes true b x ih =
          first-hit k n w (insert v ws) b ∙ sym (ap (newer_of v) (first-hit k n w ws b) ∙ newer-stays v w (in-front w v b e (ordered-flip v w x)))
      passes false b x ih = first_on k n w (insert v ws) b ∙ ih ∙ sym (ap (newer_of v) (first_on k n w ws b))

      go : (x : Ordering) → ordered v w ≡ x → first_below k n (insert v ws) ≡ newer_of v (first_below k n ws)
          → first_below k n (by_order x (v ∷ w ∷ ws) (v ∷ ws) (w ∷ insert v ws)) ≡ newer_of v (first_below k n (w ∷ ws))
      go Less x ih = first-hit k n v (w ∷ ws) e ∙ sym (leads v (w ∷ ws) e (x, o))
      go Equal x ih =
          let b : is_below k n w ≡ true = sym (alike v w x) ∙ e in
          let s = ordered-seqno v w x in
          first-hit k n v ws e ∙ sym (ap (newer_of v) (first-hit k n w ws b) ∙ newer-comes v w (omega arith))
      go Greater x ih = passes (is_below k n w) refl x ih

  not-below : (v : Version) → (k ≡ v.key → v.seqno < n → ⊥) → is_below k n v ≡ false
  not-below v h = go (is_below k n v) refl
    where
      go : (b : Bool) → is_below k n v ≡ b → is_below k n v ≡ false
      go true e = let b = below-is k n v e in absurd (h b.0 b.1)
      go false e = e

  module _ (v : Version) (vs : List Version) where
    -- other keys read as before
    pub get-other-key : (k ≡ v.key → ⊥) → first_below k n (insert v vs) ≡ first_below k n vs
    get-other-key h = unseen v vs (not-below v (λ e _. h e))

    -- so do seqnos at or below the inserted one
    pub get-at-or-below : n ≤ v.seqno → first_below k n (insert v vs) ≡ first_below k n vs
    get-at-or-below h = unseen v vs (not-below v (λ _ l. omega arith))

    -- a seqno above it reads the newer of the two; equal seqnos are the inserted one's
    pub get-above : k ≡ v.key → v.seqno < n → InOrder vs → first_below k n (insert v vs) ≡ newer_of v (first_below k n vs)
    get-above e h o = seen v vs (is_below_lem k n v e h) o

newest-of : (k : List ℕ) (n : ℕ) (v : Version) (vs : List Version) → n ≡ v.seqno + 1 → newer_of v (first_below k n vs) ≡ v ∷ []
unfolding newer_of
newest-of k n v [] e = ap (newer_of v) (first-nil k n)
newest-of k n v (w ∷ ws) e = go (is_below k n w) refl (newest-of k n v ws e)
  where
    go : (b : Bool) → is_below k n w ≡ b → newer_of v (first_below k n ws) ≡ v ∷ [] → newer_of v (first_below k n (w ∷ ws)) ≡ v ∷ []
    go true b ih = ap (newer_of v) (first-hit k n w ws b) ∙ newer-comes k n v w (let l = (below-is k n w b).1 in omega arith)
    go false b ih = ap (newer_of v) (first_on k n w ws b) ∙ ih

-- its own key just above its seqno reads the inserted version itself
pub get-inserted : (v : Version) (vs : List Version) → InOrder vs → first_below v.key (v.seqno + 1) (insert v vs) ≡ v ∷ []
get-inserted v vs o = get-above v.key (v.seqno + 1) v vs refl (omega arith) o ∙ newest-of v.key (v.seqno + 1) v vs refl
