-- Writing: what is still to be put, put at the place reached, makes the whole; each turn puts the first part of it.
use Rattle.std.specs.Prelude.{Ok}
use Prim.Native.Nat.{ℕ, zero, suc, ◌+◌, ◌-◌, ◌*◌, ◌≤◌, ◌<◌}
use mathlib.Core.Path.{◌≡◌, refl, sym, ap, ◌∙◌}
use mathlib.Core.List.{List, [], ◌∷◌, ◌++◌, map, filter_map, append-nil}
use mathlib.Core.Bool.{Bool, true, false, ◌&&◌, and-false}
use mathlib.Core.Option.{Option, none, some, Option-elim}
use native.Mathlib.Omega.{arith}
use native.Mathlib.Numerals.{add-one}
use Rattle.std.specs.Borrow.{Bor}
use Rattle.list.proofs.Parts.{part_length}
use borrow.Author.Tests.{lt-ltb, le-ltb}
use lib.Dec.{ltb}
use lib.ListN.{length, length-append}
use lib.Seq.{sets, length-sets}
use Rattle.list.specs.Limits.{header_size, record_size}
use Rattle.list.specs.Pick.{pick}
use Rattle.list.specs.Field.{le_bytes, words, words_in}
use Rattle.list.specs.Record.{read_at, key_of}
use Rattle.list.specs.Check.{check_list}
use Rattle.list.specs.declared.value_type.ValueType.{ValueType}
use Rattle.list.specs.Version.{Version, version, Bytes, with_seqno, record_of, records, encode, version_at}
use Rattle.list.specs.declared.record.Record.{Record}
use Rattle.list.proofs.Numbers.{sets-append}
use Rattle.list.proofs.Words.{length-words, words_append, room_word}
use Rattle.list.proofs.Whole.{inside}
use Rattle.list.proofs.Encode.{length-encode}
use Rattle.list.proofs.Places.{records-append}
use Rattle.compaction.specs.declared.stream.Job.{Job}
use Rattle.compaction.specs.Fate.{Fate, FilterVerdict, Drop, by_verdict, with_verdicts, filter_item, below, leave, dropped, fates}
use Rattle.compaction.specs.declared.filter.StreamFilterVerdict.{StreamFilterVerdict}
use Rattle.compaction.specs.declared.filter.StreamFilterVerdict.TheVariants as code
use Rattle.compaction.specs.Compact.{numbers, report, compacted}
use Rattle.compaction.specs.Turn.{meant, asked_by, verdict_for, ShortValue, length_by, Decided, turn, Told, told_by, turn_by, leaving, next_of}
use Rattle.compaction.proofs.Kept.{output, told}
use Rattle.compaction.proofs.Size.{leave-length}
use Rattle.compaction.proofs.Measuring.{replaced-long}
use Rattle.compaction.proofs.Pass.{asked_at, rest, fated, fates_from, fates-from, Held, first-held, first_rest, key_in, held-length, next-fates, versions-are, all_there}

-- the seqno of a kept record
module _ (j : Job) (n : ℕ) where
  pub l-plain : j.zeroing ≡ false → n ≡ pick (j.zeroing && ltb n j.threshold) 0 n
  unfolding pick
  l-plain e = simp e

  pub l-zero : j.zeroing ≡ true → n < j.threshold → 0 ≡ pick (j.zeroing && ltb n j.threshold) 0 n
  unfolding pick
  l-zero e h = simp (e, lt-ltb _ _ h)

  pub l-high : j.threshold ≤ n → n ≡ pick (j.zeroing && ltb n j.threshold) 0 n
  unfolding pick
  l-high h = simp (le-ltb _ _ h, and-false)

-- how long a record leaves
module _ (q : StreamFilterVerdict) (from : ℕ) (h : Record) where
  pub l-keep : q ≡ code.Keep → h.next - from ≡ length_by (meant q) from h
  unfolding length_by meant
  l-keep e = rw e

  pub l-drop : q ≡ code.Drop → 0 ≡ length_by (meant q) from h
  unfolding length_by meant
  l-drop e = rw e

  pub l-replace : (kind : ValueType) (value : Bor (List ℕ)) → q ≡ code.Replace kind value → record_size + h.klen + length value.now ≡ length_by (meant q) from h
  unfolding length_by meant
  l-replace kind value e = rw e

pub l-short : (q : StreamFilterVerdict) (kind : ValueType) (value : Bor (List ℕ)) → q ≡ code.Replace kind value → ShortValue (meant q) → length value.now < 4294967296
unfolding ShortValue meant
l-short q kind value e s = (rw e at s).0

-- what a turn puts, and the place behind it
abbrev pub Puts : List ℕ → ℕ → List ℕ → List ℕ → ℕ → Type 0
Puts t at a u to = (to ≡ at + length a) × (u ≡ sets t at a)

none-put : (at : ℕ) (t a : List ℕ) → a ≡ [] → Puts t at a t at
none-put at t a e = rw e (omega arith, refl)

-- into the output, as the record leaves
module _ (j : Job) where
  -- what leaves where something does
  one_kept : (f : Fate) (x : Version) → f.leaves ≡ some x → records (leaving j f) ≡ record_of (leave j x)
  unfolding leaving records Option-elim
  one_kept f x q = rw q (append-nil (record_of (leave j x)))

  module _ (s : List ℕ) (from : ℕ) (h : Record) (reads : read_at s from ≡ Ok h) (q : StreamFilterVerdict) where
    abbrev made : Fate
    made = by_verdict (meant q) (version_at s h)

    pub p-drop : (at : ℕ) (t : List ℕ) → q ≡ code.Drop → Puts t at (records (leaving j made)) t at
    p-drop at t e = none-put at t (records (leaving j made)) (unfold leaving records Option-elim by_verdict meant dropped in rw e)

    -- kept as it is
    module _ (e : q ≡ code.Keep) where
      as-kept : records (leaving j made) ≡ record_of (leave j (version_at s h))
      as-kept = one_kept made (version_at s h) (unfold by_verdict meant in rw e)

      put-length : length (records (leaving j made)) ≡ h.next - from
      put-length = ap length as-kept ∙ leave-length j (version_at s h) ∙ held-length s from h reads

      pub p-room : (at n : ℕ) → at + length (records (leaving j made)) ≤ n → at + record_size + h.klen + h.vlen ≤ n
      p-room at n f = omega (arith, put-length, inside s from h reads)

      pub p-next : (at n : ℕ) → at + length (records (leaving j made)) ≤ n → (from ≤ h.next) × (at + (h.next - from) ≤ n)
      p-next at n f = (omega (arith, inside s from h reads), omega (arith, put-length))

      pub p-kept : (at q : ℕ) (t u : List ℕ) → q ≡ pick (j.zeroing && ltb h.seqno j.threshold) 0 h.seqno
          → u ≡ sets t at (record_of (with_seqno q (version_at s h))) → Puts t at (records (leaving j made)) u (at + (h.next - from))
      unfolding leave below version_at
      p-kept at q t u e f =
          let y : record_of (with_seqno q (version_at s h)) ≡ records (leaving j made) = rw e (sym as-kept) in
          (omega (arith, put-length), f ∙ ap (sets t at) y)

    -- replaced
    module _ (kind : ValueType) (value : Bor (List ℕ)) (e : q ≡ code.Replace kind value) where
      abbrev new : Version
      new = version (version_at s h).key (version_at s h).seqno kind value.now

      as-new : records (leaving j made) ≡ record_of (leave j new)
      as-new = one_kept made new (unfold by_verdict meant in rw e)

      new-length : length (records (leaving j made)) ≡ record_size + h.klen + length value.now
      new-length = ap length as-new ∙ leave-length j new ∙ replaced-long s from h reads kind value.now

      pub r-room : (at m : ℕ) → at + length (records (leaving j made)) ≤ m → at + record_size + h.klen + length value.now ≤ m
      r-room at m f = omega (arith, new-length)

      pub r-write : (at m : ℕ) → at + length (records (leaving j made)) ≤ m → (key : List ℕ) → key ≡ key_of s h
          → at + record_size + length key + length value.now ≤ m
      unfolding key_of
      r-write at m f key k = omega (arith, new-length, ap length k, part_length s h.key h.klen (key_in s from h reads))

      pub r-new : (at q : ℕ) (key t u : List ℕ) → key ≡ key_of s h → q ≡ pick (j.zeroing && ltb h.seqno j.threshold) 0 h.seqno
          → u ≡ sets t at (record_of (version key q kind value.now)) → Puts t at (records (leaving j made)) u (at + record_size + h.klen + length value.now)
      unfolding leave below version_at version with_seqno
      r-new at q key t u k e f =
          let y : record_of (version key q kind value.now) ≡ records (leaving j made) = rw (k, e) (sym as-new) in
          (omega (arith, new-length), f ∙ ap (sets t at) y)

-- into the report, if the record is reported
module _ (i : ℕ) (b : Bool) where
  pub n_room : (e n : ℕ) → b ≡ true → e + length (numbers i (b ∷ [])) ≤ n → e < n
  unfolding numbers pick
  n_room e n d f = omega (arith, rw d at f)

  pub n-told : (e : ℕ) (t u : List ℕ) → b ≡ true → u ≡ sets t (4 * e) (le_bytes i 4)
      → (e + 1 ≡ e + length (numbers i (b ∷ []))) × (u ≡ sets t (4 * e) (words (numbers i (b ∷ []))))
  unfolding numbers pick words
  n-told e t u d f = rw d (omega arith, f ∙ ap (sets t (4 * e)) (sym (append-nil (le_bytes i 4))))

  pub n-untold : (e : ℕ) (t : List ℕ) → b ≡ false → (e ≡ e + length (numbers i (b ∷ []))) × (t ≡ sets t (4 * e) (words (numbers i (b ∷ []))))
  unfolding numbers pick words
  n-untold e t d = rw d (omega arith, refl)

-- a run of bytes that is being written: the rest fits, and put at the place reached it makes the whole
pub record Left (t : List ℕ) (at : ℕ) (more whole : List ℕ) : Type 0 where
  pub fits : at + length more ≤ length t
  pub makes : sets t at more ≡ whole

module _ (t : List ℕ) (at : ℕ) (more whole a b : List ℕ) (parts : more ≡ a ++ b) where
  first_fits : Left t at more whole → at + length a ≤ length t
  first_fits l = omega (arith, l.fits, ap length parts ∙ length-append a b)

  then-left : (u : List ℕ) (to : ℕ) → u ≡ sets t at a → to ≡ at + length a → Left t at more whole → Left u to b whole
  then-left u to e f l = record {
    fits = omega (arith, l.fits, ap length parts ∙ length-append a b, ap length e ∙ length-sets t at a);
    makes = rw (e, f) (sym (sets-append a b t at) ∙ ap (sets t at) (sym parts) ∙ l.makes);
  }

pub none_left : (t : List ℕ) (at : ℕ) (more whole : List ℕ) → more ≡ [] → Left t at more whole → t ≡ whole
none_left t at more whole e l = ap (sets t at) (sym e) ∙ l.makes

-- the first turn's part of the output and of the report, and the rest's
out-parts : (j : Job) (i : Fate) (d : Decided) (fs : List Fate) → records (output (fated j i d ∷ fs)) ≡ records (pick d.kept (leaving j i) []) ++ records (output fs)
unfolding fated filter_map Option-elim leaving pick
out-parts j i d fs = go d.kept i.leaves ∙ records-append _ (output fs)
  where
    go : (b : Bool) (o : Option Version) → records (Option-elim (pick b (Option-elim o none (λ h. some (leave j h))) none) (output fs) (λ w. w ∷ output fs))
        ≡ records (pick b (Option-elim o [] (λ h. leave j h ∷ [])) [] ++ output fs)
    go true none = refl
    go true (some h) = refl
    go false o = refl

-- by drop nothing leaves
told-leaves : (j : Job) (q : FilterVerdict) (d : Decided) (v : Version) → pick d.kept (leaving j (by_verdict q v)) [] ≡ leaving j (by_verdict (told_by q d).leaves v)
unfolding told_by
told-leaves j q d v = go d.kept
  where
    go : (b : Bool) → pick b (leaving j (by_verdict q v)) [] ≡ leaving j (by_verdict (pick b q Drop) v)
    go true = unfold pick in refl
    go false = unfold pick leaving by_verdict dropped Option-elim in refl

number-parts : (i : ℕ) (b : Bool) (bs : List Bool) → numbers i (b ∷ bs) ≡ numbers i (b ∷ []) ++ numbers (i + 1) bs
unfolding numbers pick
number-parts i true bs = rw add-one
number-parts i false bs = rw add-one

-- the same for a table, whose entries are four bytes each
entry-fits : (t : List ℕ) (e : ℕ) (xs more whole b : List ℕ) → more ≡ words xs ++ b → Left t (4 * e) more whole → e + length xs ≤ words_in t
entry-fits t e xs more whole b parts l =
    let f = first_fits t (4 * e) more whole (words xs) b parts l in
    room_word t (e + length xs) (omega (arith, length-words xs))

then-entries : (t u : List ℕ) (e e' : ℕ) (xs more whole b : List ℕ) → more ≡ words xs ++ b → u ≡ sets t (4 * e) (words xs) → e' ≡ e + length xs
    → Left t (4 * e) more whole → Left u (4 * e') b whole
then-entries t u e e' xs more whole b parts f g l = then-left t (4 * e) more whole (words xs) b parts u (4 * e') f (omega (arith, length-words xs)) l

-- one turn of the record held, number i
module _ (j : Job) (tail : Bool) (q : ℕ → FilterVerdict) (s : List ℕ) (from : ℕ) (h w : Record) (n i : ℕ) (r : Told)
    (here : Held s from h n) (more : 0 < n) (next : w ≡ next_of (n - 1) s h.next)
    (decided : r ≡ turn_by j tail (verdict_for h.kind (q i)) (version_at s h) (version_at s w)) where
  abbrev now-left : List Fate
  now-left = fates_from j tail (rest q i n s h)

  abbrev then-left-over : List Fate
  then-left-over = fates_from j r.tail (rest q (i + 1) (n - 1) s w)

  abbrev pub item-made : Fate
  item-made = by_verdict r.leaves (version_at s h)

  abbrev asked-made : Fate
  asked-made = filter_item (asked_at q i s h)

  abbrev d : Decided
  d = turn j tail asked-made (version_at s h) (version_at s w)

  told_is : r ≡ told_by (verdict_for h.kind (q i)) d
  unfolding turn_by filter_item verdict_for version_at
  told_is = decided

  fates-fall : now-left ≡ fated j asked-made d ∷ then-left-over
  unfolding told_by
  fates-fall = rw told_is (next-fates s from h w n (n - 1) here (omega arith) next q i j tail)

  leaves-same : pick d.kept (leaving j asked-made) [] ≡ leaving j item-made
  unfolding filter_item verdict_for version_at
  leaves-same = told-leaves j (verdict_for h.kind (q i)) d (version_at s h) ∙ ap (λ (x : Told). leaving j (by_verdict x.leaves (version_at s h))) (sym told_is)

  out-falls : records (output now-left) ≡ records (leaving j item-made) ++ records (output then-left-over)
  out-falls = ap (λ (fs : List Fate). records (output fs)) fates-fall ∙ out-parts j asked-made d _ ∙ ap (λ (vs : List Version). records vs ++ records (output then-left-over)) leaves-same

  told-falls : (m : ℕ) → numbers m (map told now-left) ≡ numbers m (r.reported ∷ []) ++ numbers (m + 1) (map told then-left-over)
  unfolding fated
  told-falls m =
      let e : d.reported ≡ r.reported = sym (ap (λ (x : Told). x.reported) told_is ∙ (unfold told_by in refl)) in
      ap (λ (fs : List Fate). numbers m (map told fs)) fates-fall ∙ number-parts m d.reported _ ∙ ap (λ (b : Bool). numbers m (b ∷ []) ++ numbers (m + 1) (map told then-left-over)) e

  words-fall : (m : ℕ) → words (numbers m (map told now-left)) ≡ words (numbers m (r.reported ∷ [])) ++ words (numbers (m + 1) (map told then-left-over))
  words-fall m = ap words (told-falls m) ∙ words_append (numbers m (r.reported ∷ [])) _

  -- the part of this turn fits, and then the rest is left
  pub out-fits : (out whole : List ℕ) (at : ℕ) → Left out at (records (output now-left)) whole → at + length (records (leaving j item-made)) ≤ length out
  out-fits out whole at l = first_fits out at _ whole (records (leaving j item-made)) _ out-falls l

  pub out-again : (out whole u : List ℕ) (at to : ℕ) → Puts out at (records (leaving j item-made)) u to
      → Left out at (records (output now-left)) whole → Left u to (records (output then-left-over)) whole
  out-again out whole u at to p l = then-left out at _ whole (records (leaving j item-made)) _ out-falls u to p.1 p.0 l

  pub told-fits : (table whole : List ℕ) (entry m : ℕ) → Left table (4 * entry) (words (numbers m (map told now-left))) whole → entry + length (numbers m (r.reported ∷ [])) ≤ words_in table
  told-fits table whole entry m l = entry-fits table entry _ _ whole _ (words-fall m) l

  pub told-again : (table whole u : List ℕ) (entry to m : ℕ) → u ≡ sets table (4 * entry) (words (numbers m (r.reported ∷ [])))
      → to ≡ entry + length (numbers m (r.reported ∷ [])) → Left table (4 * entry) (words (numbers m (map told now-left))) whole
      → Left u (4 * to) (words (numbers (m + 1) (map told then-left-over))) whole
  told-again table whole u entry to m e f l = then-entries table u entry to _ _ whole _ (words-fall m) e f l

-- an accepted list: at the start everything is left, at the end nothing
module _ (j : Job) (q : ℕ → FilterVerdict) (s : List ℕ) (n : ℕ) (b : Bytes s) (h : check_list s ≡ Ok n) (w : Record) (first : w ≡ next_of n s header_size) where
  all_rest : rest q 0 n s w ≡ asked_by q s
  unfolding asked_by
  all_rest = first_rest s header_size w q 0 n (all_there s n b h) first ∙ ap (with_verdicts q 0) (sym (versions-are s n b h))

  all-fates : fates_from j false (rest q 0 n s w) ≡ fates j (asked_by q s)
  all-fates = ap (fates_from j false) all_rest ∙ fates-from j (asked_by q s)

  pub start-held : Held s header_size w n
  start-held = first-held s header_size w n (all_there s n b h) first

  pub start-out : (o : List ℕ) → length (encode (compacted j (asked_by q s))) ≤ length o
      → Left o header_size (records (output (fates_from j false (rest q 0 n s w)))) (sets o header_size (records (compacted j (asked_by q s))))
  unfolding compacted
  start-out o f =
      let e : output (fates_from j false (rest q 0 n s w)) ≡ compacted j (asked_by q s) = ap output all-fates in
      rw e (record { fits = omega (arith, length-encode (compacted j (asked_by q s))); makes = refl })

  pub start-table : (o : List ℕ) → length (report j (asked_by q s)) ≤ words_in o
      → Left o (4 * 0) (words (numbers 0 (map told (fates_from j false (rest q 0 n s w))))) (sets o 0 (words (report j (asked_by q s))))
  unfolding report words_in
  start-table o f = rw all-fates (record { fits = omega (arith, length-words (report j (asked_by q s))); makes = refl })

module _ (j : Job) (tail : Bool) (q : ℕ → FilterVerdict) (i : ℕ) (s : List ℕ) (h : Record) (n : ℕ) (z : n ≤ 0) where
  nothing : rest q i n s h ≡ []
  unfolding rest
  nothing = go n z
    where
      go : (n : ℕ) → n ≤ 0 → rest q i n s h ≡ []
      go zero z = refl
      go (suc n) z = absurd (omega arith)

  pub out-over : records (output (fates_from j tail (rest q i n s h))) ≡ []
  unfolding filter_map records fates_from
  out-over = rw nothing

  pub words-over : (m : ℕ) → words (numbers m (map told (fates_from j tail (rest q i n s h)))) ≡ []
  unfolding fates_from numbers words
  words-over m = rw nothing
