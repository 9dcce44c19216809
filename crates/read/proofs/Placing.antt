-- A place, found through lengths and index: each answer stands under its test, and the parts of the bundle are those of the list, behind its start.
use Rattle.std.proofs.lemmas.Bool.{and_parts}
use native.Mathlib.Omega.{arith}
use native.Mathlib.Nat.{add-zero}
use mathlib.Core.List.{List, []}
use mathlib.Core.Bool.{Bool, true, false, ◌&&◌}
use lib.Dec.{ltb}
use borrow.Author.Tests.{lt-ltb, le-ltb, ltb-true}
use lib.ListN.{length, take, drop, length-take, length-drop}
use mathlib.Core.Path.{refl, sym, ap, subst, ◌≡◌, ◌∙◌}
use Prim.Native.Nat.{ℕ, ◌+◌, ◌-◌, ◌≤◌, ◌<◌}
use Rattle.std.specs.Prelude.{Option, Some, None, Ok, Err, is_some}
use Rattle.std.specs.Result.{result_ok}
use Rattle.std.proofs.lemmas.Option.{same_Some, none-some}
use Rattle.list.specs.Field.{word_at, words_in}
use Rattle.list.specs.Pick.{pick, on_result}
use Rattle.list.specs.Record.{Read, key_of, value_of, onward}
use Rattle.list.specs.declared.refusal.Refusal.{Refusal}
use Rattle.list.specs.declared.refusal.Refusal.TheVariants.{Unfit}
use Rattle.list.specs.declared.record.Record.{Record}
use Rattle.list.proofs.Parts.{part-part}
use Rattle.list.proofs.Checking.{broken-whole}
use Rattle.list.proofs.Whole.{whole-inside}
use Rattle.bundle.specs.Bundle.{list_at, start_at}
use Rattle.bundle.specs.Look.{base_at, covers, records_in, look_at, place_in}
use Rattle.bundle.proofs.Looking.{list-sits}
use Rattle.bundle.proofs.Fences.{Fenced}
use Rattle.bundle.proofs.Spans.{Found, span-found, span-none}
use Rattle.bundle.specs.Private.{span_of}
use Rattle.bundle.specs.declared.look.Span.{Span}
use Rattle.merge.proofs.Heads.{place-whole}
use Rattle.read.specs.Parts.{fit_at, key_at, key_start, place_of, fit_record, value_at, value_start}
use Rattle.read.specs.declared.place.Place.{Place}

-- an empty part at the start begins where the whole does
pub none-begins : (start : ℕ × ℕ) (n : ℕ) → 0 ≡ n → start ≡ onward start n
unfolding onward
none-begins start n e = rw (← e, add-zero)

-- what `ok` keeps of a record that was read
not-ok : (r : Read) → result_ok r ≡ None → (why : Refusal) × (r ≡ Err why)
not-ok (Ok x) q = absurd (none-some x (sym q))
not-ok (Err why) q = (why, refl)

is-ok : (r : Read) (x : Record) → result_ok r ≡ Some x → r ≡ Ok x
is-ok (Ok y) x q = ap Ok (same_Some y x q)
is-ok (Err why) x q = absurd (none-some x q)

module _ (b lens t : List ℕ) (k i : ℕ) where
  -- no record there
  none-there : (covers b lens t && ltb i (records_in b lens k)) ≡ false → None ≡ place_of b lens t k i
  unfolding place_of fit_record pick on_result
  none-there e = rw e

  no-list : ltb k (words_in lens) ≡ false → records_in b lens k ≡ 0
  unfolding records_in pick
  no-list e = rw e

  pub place-nowhere : (s : Option Span) → s ≡ span_of b lens t k → s ≡ None → None ≡ place_of b lens t k i
  place-nowhere s p e = go (covers b lens t) refl
    where
      go : (u : Bool) → covers b lens t ≡ u → None ≡ place_of b lens t k i
      go false v = none-there (rw v)
      go true v =
          let z = no-list (rw v at (span-none b lens t k s p e)) in
          none-there (rw (v, le-ltb i (records_in b lens k) (omega arith)))

  module _ (s : Option Span) (p : s ≡ span_of b lens t k) (f : Span) (e : s ≡ Some f) where
    found : Found b lens t k f
    found = span-found b lens t k s p f e

    pub place-fenced : Fenced b lens t k f
    place-fenced = found.fences

    count-here : records_in b lens k ≡ f.next - f.base
    unfolding records_in pick
    count-here = rw (lt-ltb _ _ found.listed) (omega (arith, place-fenced.counted))

    pub place-no-record : f.next - f.base ≤ i → None ≡ place_of b lens t k i
    place-no-record h = none-there (rw (found.covering, le-ltb i (records_in b lens k) (omega (arith, count-here))))

    module _ (h : i < f.next - f.base) (r : Read) (read : r ≡ place_in b f.start (f.end - f.start) (word_at t (f.base + i))) where
      record_is : fit_record b lens t k i ≡ r
      unfolding fit_record pick
      record_is =
          let l : i < records_in b lens k = omega (arith, count-here) in
          rw (found.covering, lt-ltb _ _ l) (sym (read ∙ place-fenced.looks i))

      pub place-broken : (o : Option Record) → o ≡ result_ok r → o ≡ None → None ≡ place_of b lens t k i
      unfolding place_of on_result
      place-broken o a q = let z = not-ok r (sym a ∙ q) in rw (record_is ∙ z.1)

      pub place_found : (o : Option Record) → o ≡ result_ok r → (x : Record) → o ≡ Some x
          → Some (record { key = f.start + x.key; klen = x.klen; seqno = x.seqno; kind = x.kind; value = f.start + x.value; vlen = x.vlen }) ≡ place_of b lens t k i
      unfolding place_of on_result
      place_found o a x q = rw (record_is ∙ is-ok r x (sym a ∙ q), found.starts)

      pub place_inside : (o : Option Record) → o ≡ result_ok r → (x : Record) → o ≡ Some x → (f.start + x.key ≤ length b) × (f.start + x.value ≤ length b)
      place_inside o a x q =
          let g = place-fenced in
          let w = whole-inside (take (f.end - f.start) (drop f.start b)) _ x (place-whole b f.start (f.end - f.start) _ x (sym read ∙ is-ok r x (sym a ∙ q))) in
          let l = length-take (f.end - f.start) (drop f.start b) in
          let m = length-drop f.start b in
          (omega (arith, g.headed, g.inside, w.key-at, w.next-at, w.next-in), omega (arith, g.headed, g.inside, w.value-at, w.next-at, w.next-in))

  -- what a place that was found says
  looks-whole : (e : Record) → fit_record b lens t k i ≡ Ok e → (covers b lens t ≡ true) × (k < words_in lens) × (look_at b lens t k i ≡ Ok e)
  unfolding fit_record pick
  looks-whole e q = go (covers b lens t && ltb i (records_in b lens k)) refl q
    where
      in_list : ltb i (records_in b lens k) ≡ true → k < words_in lens
      in_list h = by (ltb k (words_in lens)) refl (ltb-true i (records_in b lens k) h)
        where
          by : (u : Bool) → ltb k (words_in lens) ≡ u → i < records_in b lens k → k < words_in lens
          by true w l = ltb-true k (words_in lens) w
          by false w l = absurd (omega (arith, no-list w))

      go : (u : Bool) → (covers b lens t && ltb i (records_in b lens k)) ≡ u → pick u (look_at b lens t k i) (Err Unfit) ≡ Ok e
          → (covers b lens t ≡ true) × (k < words_in lens) × (look_at b lens t k i ≡ Ok e)
      go true w p = let z = and_parts (covers b lens t) (ltb i (records_in b lens k)) w in (z.0, in_list z.1, p)
      go false w p = broken-whole p

  module _ (e : Record) (q : fit_record b lens t k i ≡ Ok e) where
    whole_parts : (start_at lens k + word_at lens k ≤ length b) × (e.key + e.klen ≤ word_at lens k) × (e.value + e.vlen ≤ word_at lens k)
    unfolding look_at
    whole_parts =
        let z = looks-whole e q in
        let y = list-sits b lens t z.0 k (start_at lens k) (base_at b lens k) (word_at lens k) z.1 refl refl refl in
        let w = whole-inside (take (word_at lens k) (drop (start_at lens k) b)) _ e (place-whole b (start_at lens k) (word_at lens k) _ e z.2) in
        let l = length-take (word_at lens k) (drop (start_at lens k) b) in
        let m = length-drop (start_at lens k) b in
        (y.0, omega (arith, w.key-at, w.next-at, w.next-in), omega (arith, w.value-at, w.next-at, w.next-in))

    value-part : take e.vlen (drop (start_at lens k + e.value) b) ≡ value_at b lens t k i
    unfolding value_at on_result value_of list_at
    value-part = rw q (sym (part-part b (start_at lens k) (word_at lens k) e.value e.vlen whole_parts.2))

    key-part : take e.klen (drop (start_at lens k + e.key) b) ≡ key_at b lens t k i
    unfolding key_at on_result key_of list_at
    key-part = rw q (sym (part-part b (start_at lens k) (word_at lens k) e.key e.klen whole_parts.1))

  -- the parts of a fit place
  pub record Parts (p : Place) : Type 0 where
    pub key_in : p.key + p.klen ≤ length b
    pub value_in : p.value + p.vlen ≤ length b
    pub key-is : take p.klen (drop p.key b) ≡ key_at b lens t k i
    pub value-is : take p.vlen (drop p.value b) ≡ value_at b lens t k i
    pub key-at : p.key ≡ key_start b lens t k i
    pub value-at : p.value ≡ value_start b lens t k i

  -- those of an unfit one
  pub record NoParts : Type 0 where
    pub no_key : [] ≡ key_at b lens t k i
    pub no_value : [] ≡ value_at b lens t k i
    pub no-key-at : 0 ≡ key_start b lens t k i
    pub no-value-at : 0 ≡ value_start b lens t k i

  place-by : Record → Place
  place-by e = record { key = start_at lens k + e.key; klen = e.klen; seqno = e.seqno; kind = e.kind; value = start_at lens k + e.value; vlen = e.vlen }

  some_place : (e : Record) → fit_record b lens t k i ≡ Ok e → place_of b lens t k i ≡ Some (place-by e)
  unfolding place_of on_result place-by
  some_place e q = rw q

  no_place : (why : Refusal) → fit_record b lens t k i ≡ Err why → place_of b lens t k i ≡ None
  unfolding place_of on_result
  no_place why q = rw q

  parts-of : (e : Record) → fit_record b lens t k i ≡ Ok e → Parts (place-by e)
  unfolding place-by
  parts-of e q =
      let w = whole_parts e q in
      record {
        key_in = omega arith;
        value_in = omega arith;
        key-is = key-part e q;
        value-is = value-part e q;
        key-at = unfold key_start on_result in rw q;
        value-at = unfold value_start on_result in rw q;
      }

  module _ (r : Option Place) (e : r ≡ place_of b lens t k i) where
    pub fit_parts : (p : Place) → r ≡ Some p → Parts p
    fit_parts p f = go (fit_record b lens t k i) refl
      where
        go : (u : Read) → fit_record b lens t k i ≡ u → Parts p
        go (Ok x) q = subst Parts (same_Some _ _ (sym (some_place x q) ∙ sym e ∙ f)) (parts-of x q)
        go (Err why) q = absurd (none-some p (sym (no_place why q) ∙ sym e ∙ f))

    pub unfit-parts : r ≡ None → NoParts
    unfit-parts f = go (fit_record b lens t k i) refl
      where
        go : (u : Read) → fit_record b lens t k i ≡ u → NoParts
        go (Ok x) q = absurd (none-some (place-by x) (sym f ∙ e ∙ some_place x q))
        go (Err why) q = record {
          no_key = unfold key_at on_result in rw q;
          no_value = unfold value_at on_result in rw q;
          no-key-at = unfold key_start on_result in rw q;
          no-value-at = unfold value_start on_result in rw q;
        }

    pub fit-told : is_some r ≡ fit_at b lens t k i
    unfolding place_of fit_at place-by
    fit-told = rw e (go (fit_record b lens t k i))
      where
        go : (u : Read) → is_some (on_result u (λ x. Some (place-by x)) (λ why. None)) ≡ on_result u (λ x. true) (λ why. false)
        go (Ok x) = unfold on_result in refl
        go (Err why) = unfold on_result in refl
