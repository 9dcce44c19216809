-- The place that a survey finds is where insertion puts the version, and what it met is what insertion replaces, because both go by the same order.
use Rattle.std.specs.Prelude.{IfSome, Option}
use Prim.Native.Nat.{ℕ, ◌+◌}
use mathlib.Core.Path.{◌≡◌, refl, sym, ap, ◌∙◌, subst}
use mathlib.Core.List.{List, [], ◌∷◌, ◌++◌}
use native.Mathlib.Omega.{arith}
use lib.ListN.{length, drop, length-append}
use Rattle.list.specs.Limits.{header_size}
use Rattle.list.specs.Order.{versions}
use Rattle.list.specs.Version.{Version, version, record_of, records, encode, ordered, Fine}
use Rattle.list.proofs.Numbers as numbers
use Rattle.list.proofs.Fits.{record_for, next-is}
use Rattle.list.proofs.Encode.{length-encode}
use Rattle.list.proofs.Places.{records-append, records-one}
use Rattle.std.specs.declared.cmp.Ordering.{Ordering}
use Rattle.std.specs.declared.cmp.Ordering.TheVariants.{Less, Equal, Greater}
use Rattle.list.specs.declared.value_type.ValueType.{ValueType}
use Rattle.memtable.specs.Change.{by_order, insert}
use Rattle.memtable.specs.Figures.{size_of}
use Rattle.memtable.specs.Private.{Lies, no_gap, gap_of}
use Rattle.memtable.proofs.Placing.{Passed, Meeting, at-end, at_one, Split, lies_behind, key-here, lies_here}
use Rattle.memtable.proofs.Splicing.{Around}
use Rattle.list.specs.declared.record.Record.{Record}
use Rattle.memtable.specs.declared.image.Spot.{Spot}
use Rattle.memtable.specs.declared.image.Gap.{Gap}

size-append : (vs ws : List Version) → size_of (vs ++ ws) ≡ size_of vs + size_of ws
unfolding size_of
size-append [] ws = omega arith
size-append (v ∷ vs) ws = let i = size-append vs ws in omega arith

module _ (k : List ℕ) (n : ℕ) (t : ValueType) (x : List ℕ) where
  abbrev v : Version
  v = version k n t x

  -- insertion, by the order
  insert-one : (w : Version) (ws : List Version) (o : Ordering) → versions k n w.key w.seqno ≡ o → insert v (w ∷ ws) ≡ by_order o (v ∷ w ∷ ws) (v ∷ ws) (w ∷ insert v ws)
  unfolding insert ordered version
  insert-one w ws o e = rw e

  insert-past : (before after : List Version) → Passed k n before → insert v (before ++ after) ≡ before ++ insert v after
  unfolding Passed by_order
  insert-past [] after p = refl
  insert-past (w ∷ before) after p = insert-one w (before ++ after) Greater p.0 ∙ ap (λ (l : List Version). w ∷ l) (insert-past before after p.1)

  -- a place found, and what gives way there
  pub record Gapped (vs : List Version) (p : Spot) (g : Gap) : Type 0 where
    pub around : Around v vs p.start g.cut
    pub counted : length vs + 1 ≡ length (insert v vs) + g.records
    pub sized : size_of vs + (length k + length x) ≡ size_of (insert v vs) + g.bytes

  module _ (vs before after : List Version) (p : Spot) (whole : vs ≡ before ++ after) (started : p.start ≡ header_size + length (records before)) where
    front : records vs ≡ records before ++ records after
    front = ap records whole ∙ records-append before after

    lies : drop p.start (encode vs) ≡ records after
    lies = lies_behind vs before after p.start whole started

    long : length (encode vs) ≡ header_size + length (records before) + length (records after)
    long =
        let a = length-encode vs in
        let b = ap length front ∙ length-append (records before) (records after) in
        omega arith

    keeps : (g : Gap) → g.cut ≡ p.start → g.bytes ≡ 0 → g.records ≡ 0 → insert v vs ≡ before ++ v ∷ after → Gapped vs p g
    unfolding version size_of
    keeps g a b c i =
        let l = long in
        let d = ap length whole ∙ length-append before after in
        let e = ap length i ∙ length-append before (v ∷ after) in
        let f = ap size_of whole ∙ size-append before after in
        let h = ap size_of i ∙ size-append before (v ∷ after) in
        record {
          around = record {
            before = before;
            behind = after;
            rest = records after;
            inserted = i;
            front = front;
            started = started;
            tail = ap (λ (j : ℕ). drop j (encode vs)) a ∙ lies;
            in_order = omega arith;
            inside = omega arith;
          };
          counted = omega arith;
          sized = omega arith;
        }

    replaces : (w : Version) (ws : List Version) (g : Gap) → after ≡ w ∷ ws → g.cut ≡ p.start + length (record_of w) → g.bytes ≡ length w.key + length w.value
        → g.records ≡ 1 → insert v vs ≡ before ++ v ∷ ws → Gapped vs p g
    unfolding version size_of
    replaces w ws g q a b c i =
        let l = long in
        let m = ap (λ (y : List Version). length (records y)) q ∙ ap length (records-one w ws) ∙ length-append (record_of w) (records ws) in
        let d = ap length whole ∙ length-append before after in
        let o = ap length q in
        let e = ap length i ∙ length-append before (v ∷ ws) in
        let f = ap size_of whole ∙ size-append before after in
        let r = ap size_of q in
        let h = ap size_of i ∙ size-append before (v ∷ ws) in
        record {
          around = record {
            before = before;
            behind = ws;
            rest = records after;
            inserted = i;
            front = front;
            started = started;
            tail = numbers.after (encode vs) (record_of w) (records ws) p.start (length (record_of w)) refl (lies ∙ ap records q ∙ records-one w ws) g.cut a;
            in_order = omega arith;
            inside = omega arith;
          };
          counted = omega arith;
          sized = omega arith;
        }

  module _ (s : List ℕ) (vs : List Version) (p : Spot) (i : s ≡ encode vs) (f : Fine vs) (z : Split k n vs 0 header_size p) where
    -- at the record that is here, by the order
    by-here : (w : Version) (ws : List Version) → vs ≡ z.before ++ w ∷ ws → (o : Ordering) → versions k n w.key w.seqno ≡ o → (o ≡ Greater → ⊥)
        → Gapped vs p (by_order o (no_gap p.start) (record { cut = (record_for p.start w).next; bytes = length w.key + length w.value; records = 1 }) (no_gap p.start))
    unfolding by_order no_gap
    by-here w ws q Less e y =
        keeps vs z.before (w ∷ ws) p q z.started _ refl refl refl
        (ap (insert v) q ∙ insert-past z.before (w ∷ ws) z.passed ∙ ap (λ (l : List Version). z.before ++ l) (insert-one w ws Less e))
    by-here w ws q Equal e y =
        replaces vs z.before (w ∷ ws) p q z.started w ws _ refl (next-is p.start w) refl refl
        (ap (insert v) q ∙ insert-past z.before (w ∷ ws) z.passed ∙ ap (λ (l : List Version). z.before ++ l) (insert-one w ws Equal e))
    by-here w ws q Greater e y = absurd (y refl)

    by-meeting : (after : List Version) → vs ≡ z.before ++ after → Meeting k n p after → Gapped vs p (gap_of s k n p.start p.here)
    unfolding gap_of no_gap insert record_for
    by-meeting after q (at-end e) =
        subst (λ (h : Option Record). Gapped vs p (gap_of s k n p.start h)) (sym e)
        (keeps vs z.before [] p q z.started _ refl refl refl (ap (insert v) q ∙ insert-past z.before [] z.passed))
    by-meeting after q (at_one w ws y e) =
        subst (λ (h : Option Record). Gapped vs p (gap_of s k n p.start h)) (sym e) (rw (key-here s vs z.before w ws p.start i f q z.started) (by-here w ws q _ refl y))

    pub gapped : Gapped vs p (gap_of s k n p.start p.here)
    gapped = by-meeting z.after z.whole z.meeting

    lies-met : (after : List Version) → vs ≡ z.before ++ after → Meeting k n p after → IfSome p.here (Lies (length s))
    lies-met after q (at-end e) = rw e tt
    lies-met after q (at_one w ws y e) = rw e (lies_here s vs z.before w ws p.start i f q z.started)

    -- a record that is here lies in the image
    pub here-lies : IfSome p.here (Lies (length s))
    here-lies = lies-met z.after z.whole z.meeting
