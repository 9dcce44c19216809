-- The three figures: what is counted so far and what is left add up to the whole's, turn by turn.
use Rattle.std.specs.Prelude.{Ok}
use Prim.Native.Nat.{ℕ, zero, suc, ◌+◌, ◌-◌, ◌*◌, ◌≤◌, ◌<◌}
use mathlib.Core.Path.{◌≡◌, refl, sym, ap, ◌∙◌}
use mathlib.Core.List.{List, [], ◌∷◌, map, filter_map}
use mathlib.Core.Bool.{Bool, true, false, not}
use mathlib.Core.Option.{Option, none, some, Option-elim}
use native.Mathlib.Omega.{arith}
use mir.Val.{bool_byte}
use lib.ListN.{length, get_or, length-map, length-append}
use Rattle.list.specs.Pick.{pick}
use Rattle.list.specs.Limits.{header_size, record_size, list_limit, key_limit}
use Rattle.list.specs.Record.{read_at, key_of}
use Rattle.list.specs.Check.{check_list}
use Rattle.list.specs.Version.{Version, version, Bytes, record_of, records, AllFit, version_at, versions_of}
use Rattle.list.specs.declared.record.Record.{Record}
use Rattle.list.specs.declared.value_type.ValueType.{ValueType}
use Rattle.list.specs.declared.value_type.ValueType.TheVariants.{Value}
use Rattle.list.proofs.Accepted.{opened}
use Rattle.list.proofs.Fits.{length-record}
use Rattle.list.proofs.Whole.{inside}
use Rattle.list.proofs.Parts.{part_length}
use Rattle.list.proofs.Encode.{length-encode}
use Rattle.list.proofs.Meaning.{accepted-fine, accepted-count, accepted-few}
use Rattle.list.proofs.Tests.{never}
use Rattle.compaction.specs.declared.stream.Job.{Job}
use Rattle.compaction.specs.declared.stream.Compacted.{Compacted}
use Rattle.compaction.specs.Fate.{Fate, is_kept, FilterVerdict, Keep, Drop, Replace, by_verdict, WithVerdict, with_verdicts, filter_item, leave, dropped, fates}
use Rattle.compaction.specs.Compact.{numbers, kept, report, compacted}
use Rattle.compaction.specs.Read.{made}
use Rattle.compaction.specs.Compaction.{figures}
use Rattle.compaction.specs.Turn.{asked_by, verdict_for, ShortValue, drops, Decided, turn, Told, told_by, turn_by, length_by, next_of, counted}
use Rattle.compaction.proofs.Kept.{versions, versions-asked, output, told, each}
use Rattle.compaction.proofs.Size.{records-add, leave-length, output-fit, no_more}
use Rattle.compaction.proofs.Numbers.{one_each, output-is-kept}
use Rattle.compaction.proofs.Verdicts.{all_short, told-short, for-short}
use Rattle.compaction.proofs.Deciding.{kept_there, kept-asked}
use Rattle.compaction.proofs.Pass.{asked_at, rest, fated, fates_from, fates-from, Held, first-held, first_rest, held_reads, key_in, held-length, next-held, next-fates, versions-are, all_there}

pub record Sums (fs : List Fate) (f g : Compacted) : Type 0 where
  pub long : f.length + length (records (output fs)) ≡ g.length
  pub many : f.kept + length (output fs) ≡ g.kept
  pub noted : f.reported + length (numbers 0 (map told fs)) ≡ g.reported

-- a test as a number
pub one-if : (b : Bool) → bool_byte b ≡ pick b 1 0
unfolding pick
one-if true = refl
one-if false = refl

-- as many numbers from wherever they start
from-any : (m n : ℕ) (bs : List Bool) → length (numbers m bs) ≡ length (numbers n bs)
unfolding numbers pick
from-any m n [] = refl
from-any m n (true ∷ bs) = ap suc (from-any (suc m) (suc n) bs)
from-any m n (false ∷ bs) = from-any (suc m) (suc n) bs

pub as_many : (j : Job) (bs : List WithVerdict) → length (kept j bs) ≡ length (compacted j bs)
as_many j bs =
    let z : WithVerdict = record { version = record { key = []; seqno = 0; kind = Value; value = [] }; verdict = Keep } in
    sym (ap length (output-is-kept j bs z) ∙ length-map (kept j bs) (λ (n : ℕ). leave j (made (get_or bs n z))))

-- the figures after a turn that decided d, in which n bytes leave if the record is kept
unfoldable pub added : Compacted → Decided → ℕ → Compacted
added f d n = record { length = f.length + pick d.kept n 0; kept = f.kept + pick d.kept 1 0; reported = f.reported + pick d.reported 1 0 }

counted_is : (q : FilterVerdict) (d : Decided) (f : Compacted) (at : ℕ) (h : Record) → (d.kept ≡ true → drops q ≡ false) → counted f (told_by q d) (length_by (told_by q d).leaves at h) ≡ added f d (length_by q at h)
unfolding counted told_by added
counted_is q d f at h k = go d.kept refl
  where
    figure : ℕ → ℕ → Compacted
    figure n m = record { length = f.length + n; kept = f.kept + m; reported = f.reported + pick d.reported 1 0 }

    go : (b : Bool) → d.kept ≡ b → figure (length_by (pick b q Drop) at h) (pick (not (drops (pick b q Drop))) 1 0) ≡ figure (pick b (length_by q at h) 0) (pick b 1 0)
    go true e = unfold pick in ap (λ (x : Bool). figure (length_by q at h) (pick (not x) 1 0)) (k e)
    go false e = unfold pick length_by drops in refl

-- what a turn counts is what leaves of the record's place: n is how long that is
module _ (j : Job) (fs : List Fate) (i : Fate) (f g : Compacted) (n : ℕ) (size : (h : Version) → i.leaves ≡ some h → n ≡ length (record_of h)) where
  sums-turn : (r : Decided) → (r.kept ≡ true → is_kept i ≡ true) → Sums (fated j i r ∷ fs) f g → Sums fs (added f r n) g
  unfolding added fated filter_map numbers
  sums-turn r here s = record { long = long r.kept refl s.long; many = many r.kept refl s.many; noted = noted r.reported s.noted }
    where
      put : Option Version → Bool → List Version
      put o b = Option-elim (pick b (Option-elim o none (λ h. some (leave j h))) none) (output fs) (λ w. w ∷ output fs)

      long : (b : Bool) → r.kept ≡ b → f.length + length (records (put i.leaves b)) ≡ g.length → f.length + pick b n 0 + length (records (output fs)) ≡ g.length
      long false k e = unfold pick Option-elim in omega (arith, e)
      long true k e = go i.leaves refl e
        where
          go : (o : Option Version) → i.leaves ≡ o → f.length + length (records (put o true)) ≡ g.length → f.length + pick true n 0 + length (records (output fs)) ≡ g.length
          go (some h) q e = unfold pick Option-elim in omega (arith, e, records-add (leave j h) (output fs), leave-length j h, size h q)
          go none q e = never (sym (here k) ∙ (unfold is_kept Option-elim in rw q))

      many : (b : Bool) → r.kept ≡ b → f.kept + length (put i.leaves b) ≡ g.kept → f.kept + pick b 1 0 + length (output fs) ≡ g.kept
      many false k e = unfold pick Option-elim in omega (arith, e)
      many true k e = go i.leaves refl e
        where
          go : (o : Option Version) → i.leaves ≡ o → f.kept + length (put o true) ≡ g.kept → f.kept + pick true 1 0 + length (output fs) ≡ g.kept
          go (some h) q e = unfold pick Option-elim in omega (arith, e)
          go none q e = never (sym (here k) ∙ (unfold is_kept Option-elim in rw q))

      noted : (b : Bool) → f.reported + length (pick b (0 ∷ numbers 1 (map told fs)) (numbers 1 (map told fs))) ≡ g.reported
          → f.reported + pick b 1 0 + length (numbers 0 (map told fs)) ≡ g.reported
      noted true e = unfold pick in omega (arith, e, from-any 1 0 (map told fs))
      noted false e = unfold pick in omega (arith, e, from-any 1 0 (map told fs))

sums-start : (j : Job) (vs : List WithVerdict) → Sums (fates j vs) (record { length = header_size; kept = 0; reported = 0 }) (figures j vs)
unfolding figures compacted report
sums-start j vs = record {
  long = sym (length-encode (compacted j vs));
  many = omega (arith, as_many j vs);
  noted = omega arith;
}

same-figures : (f g : Compacted) → f.length ≡ g.length → f.kept ≡ g.kept → f.reported ≡ g.reported → f ≡ g
same-figures f g a b c =
    ap (λ (n : ℕ). record { length = n; kept = f.kept; reported = f.reported }) a
    ∙ ap (λ (n : ℕ). record { length = g.length; kept = n; reported = f.reported }) b
    ∙ ap (λ (n : ℕ). record { length = g.length; kept = g.kept; reported = n }) c

sums-end : (f g : Compacted) → Sums [] f g → f ≡ g
unfolding filter_map records numbers
sums-end f g s = same-figures f g (omega (arith, s.long)) (omega (arith, s.many)) (omega (arith, s.noted))

-- no more numbers than there are tests
few-numbers : (n : ℕ) (bs : List Bool) → length (numbers n bs) ≤ length bs
unfolding numbers pick
few-numbers n [] = omega arith
few-numbers n (true ∷ bs) = omega (arith, few-numbers (suc n) bs)
few-numbers n (false ∷ bs) = omega (arith, few-numbers (suc n) bs)

few-told : (j : Job) (vs : List WithVerdict) → length (report j vs) ≤ length vs
unfolding report
few-told j vs = omega (arith, few-numbers 0 (map told (fates j vs)), length-map (fates j vs) told, one_each j vs)

-- records of what a list can hold are no longer than this
longest : (vs : List Version) → AllFit vs → length (records vs) ≤ length vs * 8589934592
unfolding records AllFit key_limit record_size
longest [] a = omega arith
longest (v ∷ vs) a = omega (arith, longest vs a.1, length-append (record_of v) (records vs), length-record v, a.0.key_fits, a.0.value-fits)

-- a list accepted with n records, and verdicts on them
module _ (j : Job) (q : ℕ → FilterVerdict) (s : List ℕ) (n : ℕ) (b : Bytes s) (short : (i : ℕ) → i < n → ShortValue (q i)) (h : check_list s ≡ Ok n) where
  abbrev all : List WithVerdict
  all = asked_by q s

  versions-all : versions all ≡ versions_of s
  unfolding asked_by
  versions-all = versions-asked q 0 (versions_of s)

  count-all : length all ≡ n
  count-all = sym (length-map all (λ (a : WithVerdict). a.version)) ∙ ap length versions-all ∙ accepted-count s n b h

  fit_all : AllFit (compacted j all)
  unfolding asked_by compacted
  fit_all = output-fit j (each j all) (rw versions-all (accepted-fine s n b h).fit) (all_short q 0 (versions_of s) (λ k l. short k (omega (arith, accepted-count s n b h))))

  pub figures-small : ((figures j all).length ≤ 9 + 65535 * 8589934592) × ((figures j all).kept ≤ 65535) × ((figures j all).reported ≤ 65535)
  unfolding figures header_size
  figures-small =
      let m = accepted-few s n b h in (
        omega (arith, length-encode (compacted j all), longest (compacted j all) fit_all, no_more j all, count-all),
        omega (arith, as_many j all, no_more j all, count-all),
        omega (arith, few-told j all, count-all),
      )

  pub m-room : (fs : List Fate) (f : Compacted) (l : ℕ) → l < 8589934592 → Sums fs f (figures j all)
      → (f.length + l < 18446744073709551616) × (f.kept + 1 < 18446744073709551616) × (f.reported + 1 < 18446744073709551616)
  m-room fs f l small sums =
      let g = figures-small in
      (omega (arith, sums.long), omega (arith, sums.many), omega (arith, sums.noted))

  pub m-start : (w : Record) → w ≡ next_of n s header_size
      → Held s header_size w n × Sums (fates_from j false (rest q 0 n s w)) (record { length = header_size; kept = 0; reported = 0 }) (figures j all)
  unfolding asked_by
  m-start w e =
      let a = all_there s n b h in
      let r : rest q 0 n s w ≡ with_verdicts q 0 (versions_of s) = first_rest s header_size w q 0 n a e ∙ ap (with_verdicts q 0) (sym (versions-are s n b h)) in
      (first-held s header_size w n a e, rw (r, fates-from j (with_verdicts q 0 (versions_of s))) (sums-start j (with_verdicts q 0 (versions_of s))))

some_is : {x y : Version} → some x ≡ some y → x ≡ y
unfolding Option-elim
some_is {x} e = ap (λ (o : Option Version). Option-elim o x (λ z. z)) e

no-some : {x : Version} → none ≡ some x → ⊥
unfolding Option-elim
no-some e = never (sym (ap (λ (o : Option Version). Option-elim o false (λ z. true)) e))

-- how long what leaves is
module _ (s : List ℕ) (at : ℕ) (h : Record) (reads : read_at s at ≡ Ok h) where
  pub replaced-long : (kind : ValueType) (value : List ℕ)
      → length (record_of (version (version_at s h).key (version_at s h).seqno kind value)) ≡ record_size + h.klen + length value
  unfolding version version_at key_of
  replaced-long kind value =
      length-record (version (version_at s h).key (version_at s h).seqno kind value) ∙ omega (arith, part_length s h.key h.klen (key_in s at h reads))

  pub leaves-long : (q : FilterVerdict) → (x : Version) → (by_verdict q (version_at s h)).leaves ≡ some x → length_by q at h ≡ length (record_of x)
  unfolding by_verdict length_by dropped
  leaves-long Keep x e = sym (held-length s at h reads) ∙ ap (λ (v : Version). length (record_of v)) (some_is e)
  leaves-long Drop x e = absurd (no-some e)
  leaves-long (Replace kind value) x e = sym (replaced-long kind value) ∙ ap (λ (v : Version). length (record_of v)) (some_is e)

  -- and that it is less than this
  pub leaves-short : (q : FilterVerdict) → ShortValue q → length s ≤ list_limit → length_by q at h < 8589934592
  unfolding length_by ShortValue record_size list_limit
  leaves-short Keep l m = omega (arith, inside s at h reads)
  leaves-short Drop l m = omega arith
  leaves-short (Replace kind value) l m = omega (arith, l.0, key_in s at h reads)

-- a list accepted is within the limit
pub m-limit : (s : List ℕ) (n : ℕ) → check_list s ≡ Ok n → length s ≤ list_limit
m-limit s n h = (opened s n h).header.small

-- what leaves by a turn is short, if the verdict is
pub m-leaves : (j : Job) (tail : Bool) (old : ValueType) (q : FilterVerdict) (v w : Version) (r : Told) → ShortValue q → r ≡ turn_by j tail (verdict_for old q) v w → ShortValue r.leaves
unfolding turn_by
m-leaves j tail old q v w r short e = rw e (told-short (verdict_for old q) _ (for-short old q short))

pub m-klen : (s : List ℕ) (n at : ℕ) (h : Record) → check_list s ≡ Ok n → read_at s at ≡ Ok h → h.klen < 4294967296
unfolding list_limit
m-klen s n at h a r = omega (arith, m-limit s n a, key_in s at h r)

module _ (j : Job) (tail : Bool) (q : ℕ → FilterVerdict) (s : List ℕ) (at : ℕ) (h w : Record) (n i : ℕ) (f f' g : Compacted) (r : Told) where
  pub m-again : Held s at h n → 0 < n → w ≡ next_of (n - 1) s h.next
      → r ≡ turn_by j tail (verdict_for h.kind (q i)) (version_at s h) (version_at s w) → f' ≡ counted f r (length_by r.leaves at h)
      → Sums (fates_from j tail (rest q i n s h)) f g
      → Held s h.next w (n - 1) × Sums (fates_from j r.tail (rest q (i + 1) (n - 1) s w)) f' g
  unfolding told_by turn_by verdict_for filter_item version_at
  m-again here more next decided counts sums =
      let m : n ≡ suc (n - 1) = omega arith in
      let a : WithVerdict = asked_at q i s h in
      let p : FilterVerdict = verdict_for h.kind (q i) in
      let d : Decided = turn j tail (filter_item a) (version_at s h) (version_at s w) in
      let there : d.kept ≡ true → is_kept (filter_item a) ≡ true = λ k. kept_there j tail (filter_item a) (version_at s h) (version_at s w) k in
      let adds : f' ≡ added f d (length_by p at h) = counts ∙ rw decided (counted_is p d f at h (λ k. kept-asked p (version_at s h) (there k))) in
      let size : (x : Version) → (filter_item a).leaves ≡ some x → length_by p at h ≡ length (record_of x) = λ x e. leaves-long s at h (held_reads s at h n here more) p x e in
      let x : Sums (fated j (filter_item a) d ∷ fates_from j d.tail (rest q (i + 1) (n - 1) s w)) f g =
      rw (next-fates s at h w n (n - 1) here m next q i j tail) at sums in (
        next-held s at h w n (n - 1) here m next,
        rw (decided, adds) (sums-turn j _ (filter_item a) f g (length_by p at h) size d there x),
      )

pub m-end : (j : Job) (tail : Bool) (q : ℕ → FilterVerdict) (i : ℕ) (s : List ℕ) (h : Record) (n : ℕ) (f g : Compacted) → n ≤ 0 → Sums (fates_from j tail (rest q i n s h)) f g → f ≡ g
unfolding rest fates_from
m-end j tail q i s h zero f g z sums = sums-end f g sums
m-end j tail q i s h (suc n) f g z sums = absurd (omega arith)
