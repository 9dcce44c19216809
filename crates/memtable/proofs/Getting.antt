-- The place of the key just below the seqno is where the newest version strictly below it stands, because a key's versions stand newest first.
use Rattle.std.specs.Prelude.{Ok, Err, Option, Some, None}
use Prim.Native.Nat.{ℕ, suc, ◌+◌, ◌≤◌, ◌<◌}
use mathlib.Core.Path.{◌≡◌, refl, sym, ap, ◌∙◌, subst}
use mathlib.Core.List.{List, [], ◌∷◌, ◌++◌}
use mathlib.Core.Bool.{true, false}
use mathlib.Core.Option.{Option as Maybe, none}
use native.Mathlib.Omega.{arith}
use borrow.Author.Tests.{lt-ltb, le-ltb, eq-eqb, ne_eqb}
use lib.ListN.{length, take}
use lib.Seq.{take-append_seam}
use Rattle.list.specs.Pick.{pick, on_result}
use Rattle.list.specs.Limits.{header_size, record_size, key_limit}
use Rattle.list.specs.Order.{compare, versions, is_equal}
use Rattle.list.specs.Version.{Version, records, encode, Above, InOrder, Fine}
use Rattle.list.specs.PointRead.{is_below, point_read_from, point_read}
use Rattle.list.proofs.Strict.{Three, lt, eq, gt, three, compare-equal, compare-flip}
use Rattle.list.proofs.Fits.{record_for}
use Rattle.std.specs.declared.cmp.Ordering.{Ordering}
use Rattle.std.specs.declared.cmp.Ordering.TheVariants.{Less, Equal, Greater}
use Rattle.list.specs.declared.refusal.Refusal.TheVariants.{LongKey}
use Rattle.list.proofs.OfKey.{under-key, is_below_lem, other-below, high-below}
use Rattle.list.proofs.PointRead.{read-hit, read-on, none_above}
use Rattle.memtable.specs.Image.{Image}
use Rattle.memtable.specs.Get.{found_in, found, got_in, got}
use Rattle.memtable.specs.Private.{found_at}
use Rattle.list.proofs.Order.{key-less, key-greater, newer, older, same}
use Rattle.memtable.proofs.Placing.{Passed, Meeting, at-end, at_one, Split, key-here}
use Rattle.memtable.specs.declared.Found.{Found}
use Rattle.list.specs.declared.refusal.Refused.{Refused}
use Rattle.memtable.specs.declared.image.Spot.{Spot}
use Rattle.list.specs.Refusal.{refuse}

-- how a version of key k and seqno n is ordered to another tells how their keys and seqnos stand
data Stands (k : List ℕ) (n : ℕ) (l : List ℕ) (m : ℕ) : Ordering → Type 0 where
  under : compare k l ≡ Less → Stands k n l m Less
  newer-one : compare k l ≡ Equal → m < n → Stands k n l m Less
  same-one : compare k l ≡ Equal → m ≡ n → Stands k n l m Equal
  older-one : compare k l ≡ Equal → n < m → Stands k n l m Greater
  over : compare k l ≡ Greater → Stands k n l m Greater

stands : (k : List ℕ) (n : ℕ) (l : List ℕ) (m : ℕ) → Stands k n l m (versions k n l m)
stands k n l m = go (compare k l) refl (three n m)
  where
    go : (o : Ordering) → compare k l ≡ o → Three n m → Stands k n l m (versions k n l m)
    go Less e t = subst (Stands k n l m) (sym (key-less k n l m e)) (under e)
    go Greater e t = subst (Stands k n l m) (sym (key-greater k n l m e)) (over e)
    go Equal e (lt h) = subst (Stands k n l m) (sym (older k n l m e h)) (older-one e h)
    go Equal e (eq h) = subst (Stands k n l m) (sym (same k n l m e h)) (same-one e (sym h))
    go Equal e (gt h) = subst (Stands k n l m) (sym (newer k n l m e h)) (newer-one e h)

above_from : (u : Version) (before : List Version) (w : Version) (ws : List Version) → Above u (before ++ w ∷ ws) → Above w ws
unfolding Above
above_from u [] w ws o = o.1
above_from u (x ∷ before) w ws o = above_from x before w ws o.1

missed : (vs : List Version) (x : Maybe (ℕ × Version)) → x ≡ none → found vs x ≡ None
unfolding found
missed vs x e = rw e

-- seqnos strictly below b are those up to n
module _ (k : List ℕ) (n b : ℕ) (up : b ≡ n + 1) where
  passed-by : (w : Version) → Stands k n w.key w.seqno Greater → is_below k b w ≡ false
  passed-by w (over e) = other-below k b w (under-key k w (compare-flip _ _ e))
  passed-by w (older-one e h) = high-below k b w (omega arith)

  read_past : (before after : List Version) (i : ℕ) → Passed k n before → point_read_from i k b (before ++ after) ≡ point_read_from (i + length before) k b after
  unfolding Passed
  read_past [] after i p = ap (λ (j : ℕ). point_read_from j k b after) (omega arith)
  read_past (w ∷ before) after i p =
      let e : i + 1 + length before ≡ i + suc (length before) = omega arith in
      read-on k b i w (before ++ after) (passed-by w (subst (Stands k n w.key w.seqno) p.0 (stands k n w.key w.seqno))) ∙ read_past before after (i + 1) p.1 ∙ ap (λ (j : ℕ). point_read_from j k b after) e

  read-split : (vs before after : List Version) → vs ≡ before ++ after → Passed k n before → point_read k b vs ≡ point_read_from (0 + length before) k b after
  unfolding point_read
  read-split vs before after q a = ap (point_read_from 0 k b) q ∙ read_past before after 0 a

  in-order-from : (before : List Version) (w : Version) (ws : List Version) → InOrder (before ++ w ∷ ws) → Above w ws
  unfolding InOrder
  in-order-from [] w ws o = o
  in-order-from (x ∷ before) w ws o = above_from x before w ws o

  is-here : (vs before : List Version) (w : Version) (ws : List Version) (at : ℕ) → vs ≡ before ++ w ∷ ws → at ≡ header_size + length (records before)
      → record { at = length before; seqno = w.seqno; kind = w.kind; start = at + record_size + length w.key; len = length w.value } ≡ found_in vs (length before) w
  unfolding found_in
  is-here vs before w ws at q s =
      let t : take (length before) vs ≡ before = ap (take (length before)) q ∙ take-append_seam before (w ∷ ws) in
      let u : length (records (take (length before) vs)) ≡ length (records before) = ap (λ (y : List Version). length (records y)) t in
      let e : at + record_size + length w.key ≡ header_size + length (records (take (length before) vs)) + record_size + length w.key = omega arith in
      rw e

  module _ (s : List ℕ) (vs : List Version) (p : Spot) (i : s ≡ encode vs) (f : Fine vs) (x : Split k n vs 0 header_size p) where
    seen : (w : Version) (ws : List Version) → vs ≡ x.before ++ w ∷ ws → is_below k b w ≡ true → found vs (point_read k b vs) ≡ Some (found_in vs (length x.before) w)
    unfolding found
    seen w ws q h =
        let z : 0 + length x.before ≡ length x.before = omega arith in
        ap (found vs) (read-split vs x.before (w ∷ ws) q x.passed ∙ read-hit k b _ w ws h) ∙ ap (λ (j : ℕ). Some (found_in vs j w)) z

    hits : (w : Version) (ws : List Version) → vs ≡ x.before ++ w ∷ ws → compare k w.key ≡ Equal → w.seqno ≤ n
        → found_at s k p.rank (Some (record_for p.start w)) ≡ found vs (point_read k b vs)
    unfolding found_at pick is_equal record_for
    hits w ws q e h =
        let r = x.ranked in
        let g : p.rank ≡ length x.before = omega arith in
        rw (key-here s vs x.before w ws p.start i f q x.started, e, g)
        (ap Some (is-here vs x.before w ws p.start q x.started) ∙ sym (seen w ws q (is_below_lem k b w (compare-equal _ _ e) (omega arith))))

    misses : (w : Version) (ws : List Version) → vs ≡ x.before ++ w ∷ ws → compare k w.key ≡ Less
        → found_at s k p.rank (Some (record_for p.start w)) ≡ found vs (point_read k b vs)
    unfolding found_at pick is_equal record_for
    misses w ws q e =
        let u : Above w ws = in-order-from x.before w ws (subst InOrder q f.in_order) in
        rw (key-here s vs x.before w ws p.start i f q x.started, e)
        (sym (missed vs _ (read-split vs x.before (w ∷ ws) q x.passed ∙ none_above k b _ w ws u e)))

    by-order : (w : Version) (ws : List Version) → vs ≡ x.before ++ w ∷ ws → {o : Ordering} → Stands k n w.key w.seqno o → (o ≡ Greater → ⊥)
        → found_at s k p.rank (Some (record_for p.start w)) ≡ found vs (point_read k b vs)
    by-order w ws q (under e) y = misses w ws q e
    by-order w ws q (newer-one e h) y = hits w ws q e (omega arith)
    by-order w ws q (same-one e h) y = hits w ws q e (omega arith)
    by-order w ws q (older-one e h) y = absurd (y refl)
    by-order w ws q (over e) y = absurd (y refl)

    by-meeting : (after : List Version) → vs ≡ x.before ++ after → Meeting k n p after → found_at s k p.rank p.here ≡ found vs (point_read k b vs)
    unfolding found_at
    by-meeting after q (at-end e) = rw e (sym (missed vs _ (read-split vs x.before [] q x.passed ∙ (unfold point_read_from in refl))))
    by-meeting after q (at_one w ws y e) = rw e (by-order w ws q (stands k n w.key w.seqno) y)

    pub finds : found_at s k p.rank p.here ≡ found vs (point_read k b vs)
    finds = by-meeting x.after x.whole x.meeting

-- the answers of a read, in the order of its tests
pub g-refused : (key : List ℕ) (n : ℕ) (i : Image) (f : Refused) → Err f ≡ i → Err f ≡ got key n i
unfolding got on_result
g-refused key n i f e = rw (← e)

module _ (key : List ℕ) (n : ℕ) (i : Image) (vs : List Version) (e : i ≡ Ok vs) where
  pub g-zero : n ≡ 0 → Ok None ≡ got key n i
  unfolding got got_in on_result pick
  g-zero z = rw e (simp (eq-eqb _ _ z))

  module _ (z : n ≡ 0 → ⊥) where
    pub g-long : key_limit < length key → refuse LongKey 0 0 ≡ got key n i
    unfolding got got_in on_result pick
    g-long h = rw e (simp (ne_eqb _ _ z, lt-ltb _ _ h))

    module _ (h : length key ≤ key_limit) where
      pub g-empty : length key ≡ 0 → Ok None ≡ got key n i
      unfolding got got_in on_result pick
      g-empty y = rw e (simp (ne_eqb _ _ z, le-ltb _ _ h, eq-eqb _ _ y))

      pub g-found : (length key ≡ 0 → ⊥) → (x : Option Found) → x ≡ found vs (point_read key n vs) → Ok x ≡ got key n i
      unfolding got got_in on_result pick
      g-found y x f = ap Ok f ∙ rw e (simp (ne_eqb _ _ z, le-ltb _ _ h, ne_eqb _ _ y))
