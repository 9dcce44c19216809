-- The output is fine where the input is and its bytes are within the limit: its records are some of the input's, each with its key, and with its value or one whose length has 32 bits. Without a filter it is no longer than the input.
use Prim.Native.Nat.{ℕ, ◌+◌, ◌≤◌, ◌<◌}
use mathlib.Core.Path.{◌≡◌, refl, sym, ap, ◌∙◌}
use mathlib.Core.List.{List, ◌∷◌, filter_map}
use mathlib.Core.Bool.{Bool, true, false}
use mathlib.Core.Option.{some, Option-elim}
use native.Mathlib.Omega.{arith}
use lib.ListN.{length, length-append}
use Rattle.list.specs.Limits.{list_limit}
use Rattle.list.specs.Pick.{pick}
use Rattle.list.specs.ValueType.{is_tombstone}
use Rattle.list.specs.declared.value_type.ValueType.{ValueType}
use Rattle.list.specs.Version.{Version, version, Bytes, with_seqno, record_of, records, encode, Fits, AllFit, Fine}
use Rattle.list.proofs.Tests.{never}
use Rattle.list.proofs.Fits.{length-record}
use Rattle.list.proofs.Encode.{length-encode}
use Rattle.list.proofs.Places.{records-one}
use Rattle.compaction.specs.declared.stream.Job.{Job}
use Rattle.compaction.specs.Fate.{Fate, is_kept, FilterVerdict, Keep, Drop, Replace, by_verdict, WithVerdict, with_verdicts, unfiltered, filter_item, dropped, leave}
use Rattle.compaction.specs.Compact.{compacted}
use Rattle.compaction.specs.Turn.{ShortValue}
use Rattle.compaction.proofs.Kept.{leave_low, versions, versions-asked, output, item, Heads, as_it_was, Plain, plain-asked, AllShort, Each, over, stayed, left_out, each}
use Rattle.compaction.proofs.Leaving.{in_order}

-- a seqno takes eight bytes, whatever it is
pub leave-length : (j : Job) (v : Version) → length (record_of (leave j v)) ≡ length (record_of v)
unfolding leave with_seqno
leave-length j v = length-record (leave j v) ∙ sym (length-record v)

pub records-add : (v : Version) (vs : List Version) → length (records (v ∷ vs)) ≡ length (record_of v) + length (records vs)
records-add v vs = ap length (records-one v vs) ∙ length-append (record_of v) (records vs)

-- The output has no more records than the input.
fewer-out : (j : Job) {fs : List Fate} {bs : List WithVerdict} → Each j fs bs → length (output fs) ≤ length bs
unfolding filter_map Option-elim
fewer-out j over = omega arith
fewer-out j (stayed q r) = omega (arith, fewer-out j r)
fewer-out j (left_out r) = omega (arith, fewer-out j r)

pub no_more : (j : Job) (bs : List WithVerdict) → length (compacted j bs) ≤ length bs
unfolding compacted
no_more j bs = fewer-out j (each j bs)

-- without a filter it takes no more bytes
plain-least : (j : Job) {fs : List Fate} {bs : List WithVerdict} → Each j fs bs → Plain bs → length (records (output fs)) ≤ length (records (versions bs))
unfolding filter_map Option-elim records Plain
plain-least j over k = omega arith
plain-least j (stayed {kind = kind} {value = value} {a = a} {fs = fs} {bs = bs} q r) k =
    let e : item a kind value ≡ a.version = as_it_was a k.0 q in
    let l : length (record_of (leave j (item a kind value))) ≡ length (record_of a.version) = leave-length j (item a kind value) ∙ ap (λ (v : Version). length (record_of v)) e in
    omega (arith, l, length-append (record_of (leave j (item a kind value))) (records (output fs)), length-append (record_of a.version) (records (versions bs)), plain-least j r k.1)
plain-least j (left_out {a = a} {bs = bs} r) k = omega (arith, length-append (record_of a.version) (records (versions bs)), plain-least j r k.1)

pub no_longer : (j : Job) (vs : List Version) → length (encode (compacted j (unfiltered vs))) ≤ length (encode vs)
unfolding compacted unfiltered
no_longer j vs =
    let h = plain-least j (each j (with_verdicts (λ i. Keep) 0 vs)) (plain-asked 0 vs) in
    let e : versions (with_verdicts (λ i. Keep) 0 vs) ≡ vs = versions-asked (λ i. Keep) 0 vs in
    omega (arith, rw e at h, length-encode vs, length-encode (compacted j (unfiltered vs)))

-- what the filter puts in a record's place fits, if a replacement's value does
head-value : (a : WithVerdict) {kind : ValueType} {value : List ℕ} {b : Bool} → Heads a kind value b → Fits a.version → ShortValue a.verdict → (length value < 4294967296) × Bytes value
unfolding filter_item by_verdict pick version ShortValue
head-value a {kind} {value} {b} h f s = go (is_tombstone a.version.kind) refl a.verdict refl
  where
    by : (x : Version) (c : Bool) → filter_item a ≡ record { leaves = some x; reported = c } → (length x.value < 4294967296) × Bytes x.value → (length value < 4294967296) × Bytes value
    by x c e l =
        let g : item a kind value ≡ x = unfold Option-elim in ap (λ (f : Fate). Option-elim f.leaves x (λ y. y)) (sym h ∙ e) in
        let i : x.value ≡ value = sym (ap (λ (y : Version). y.value) g) in
        rw i at l

    go : (t : Bool) → is_tombstone a.version.kind ≡ t → (q : FilterVerdict) → a.verdict ≡ q → (length value < 4294967296) × Bytes value
    go true e q g = by a.version false (simp e) (f.value-fits, f.value-bytes)
    go false e Keep g = by a.version false (simp (e, g)) (f.value-fits, f.value-bytes)
    go false e Drop g = absurd (no-head (sym h ∙ simp (e, g)))
      where
        no-head : record { leaves = some (item a kind value); reported = b } ≡ dropped → ⊥
        no-head z = never (unfold is_kept dropped Option-elim in ap is_kept z)
    go false e (Replace k x) g = by (version a.version.key a.version.seqno k x) true (simp (e, g)) (rw g at s)

leave_fits : (j : Job) (v : Version) → Fits v → Fits (leave j v)
unfolding leave with_seqno
leave_fits j v f = record {
  keyed = f.keyed;
  key_fits = f.key_fits;
  key-bytes = f.key-bytes;
  seqno-fits = omega (arith, leave_low j v, f.seqno-fits);
  value-fits = f.value-fits;
  value-bytes = f.value-bytes;
}

pub output-fit : (j : Job) {fs : List Fate} {bs : List WithVerdict} → Each j fs bs → AllFit (versions bs) → AllShort bs → AllFit (output fs)
unfolding filter_map Option-elim AllFit AllShort
output-fit j over f s = tt
output-fit j (stayed {kind = kind} {value = value} {a = a} q r) f s =
    let v = head-value a q f.0 s.0 in
    let g : Fits (item a kind value) = record {
      keyed = f.0.keyed;
      key_fits = f.0.key_fits;
      key-bytes = f.0.key-bytes;
      seqno-fits = f.0.seqno-fits;
      value-fits = v.0;
      value-bytes = v.1;
    } in
    (leave_fits j (item a kind value) g, output-fit j r f.1 s.1)
output-fit j (left_out r) f s = output-fit j r f.1 s.1

-- The output is what a list can hold, if it is within the limit.
pub fine : (j : Job) (bs : List WithVerdict) → Fine (versions bs) → AllShort bs → length (encode (compacted j bs)) ≤ list_limit → Fine (compacted j bs)
fine j bs f s l = record {
  fit = unfold compacted in output-fit j (each j bs) f.fit s;
  in_order = in_order j bs f.in_order;
  small = l;
}
