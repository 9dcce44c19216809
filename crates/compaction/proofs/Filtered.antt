-- What `compact_filtered` leaves, by its contract: demand 3 for each key whose verdicts are all keep, since the loop decides a key by its own records alone;
-- and with no verdict but keep it is `compact`, since the definitions are then the same.
use Rattle.std.specs.Prelude.{Ok, Err}
use Prim.Native.Nat.{ℕ, zero, suc, ◌+◌, ◌*◌, ◌≤◌, ◌<◌}
use mathlib.Core.Path.{◌≡◌, refl, sym, ap, ap₂, ◌∙◌}
use mathlib.Core.List.{List, [], ◌∷◌, map, Memᴰ}
use mathlib.Core.Bool.{Bool, true, false, ◌&&◌}
use mathlib.Core.Option.{none, some}
use mathlib.Core.Logic.{◌⊎◌, ◌↔◌}
use native.Mathlib.Omega.{arith}
use contract.Lifetimes.{Lfts}
use borrow.Author.Tests.{le-ltb, eq-eqb, ne_eqb}
use lib.Dec.{eqb}
use lib.ListN.{length, take, drop, get_or, length-map}
use Rattle.list.specs.Limits.{list_limit}
use Rattle.list.specs.Pick.{pick, on_result}
use Rattle.list.specs.ValueType.{is_tombstone}
use Rattle.list.specs.Check.{check_list}
use Rattle.list.specs.Version.{Version, Bytes, encode, Fine, versions_of}
use Rattle.list.specs.PointRead.{point_read}
use Rattle.list.specs.declared.refusal.Refusal.{Refusal}
use Rattle.list.specs.Check.{Verdict}
use Rattle.list.proofs.Meaning.{accepted-fine, accepted-count}
use Rattle.list.proofs.Tests.{never}
use Rattle.compaction.specs.declared.stream.Job.{Job}
use Rattle.compaction.specs.Compact.{numbers, kept, report, compacted}
use Rattle.compaction.specs.Fate.{Fate, FilterVerdict, Keep, Drop, Replace, by_verdict, WithVerdict, with_verdicts, unfiltered, filter_item, dropped, head_fate, leave, fates}
use Rattle.compaction.specs.Filter.{verdicts_in, are_verdicts, verdict_at}
use Rattle.compaction.specs.Compaction.{answered, Compaction, limited, answer_to, filtered, filtered_to, written, output_at, noted, report_at}
use Rattle.compaction.specs.Calls.{Call, FilteredCall}
use Rattle.compaction.specs.Read.{reads_as, is_newest, droppable, words_from, times, AllKeep, made}
use Rattle.compaction.proofs.stream.compact_filtered.Reads as reads
use Rattle.compaction.proofs.Done.{Done, done-filtered}
use Rattle.compaction.proofs.Kept.{versions, versions-asked, told, gone, AllShort}
use Rattle.compaction.proofs.Verdicts.{all_short, verdict-short}
use Rattle.compaction.proofs.Loop.{fate_if, tailed, loop, loop-is, fate_of}
use Rattle.compaction.proofs.Numbers.{in_kept, fewer-kept}
use Rattle.compaction.proofs.Lower.{kept-at-lower}
use Rattle.compaction.proofs.Size.{no_more, no_longer}
use Rattle.compaction.proofs.Measuring.{as_many}
use Rattle.compaction.proofs.Compacts as compacts
use Rattle.list.specs.Refusal.{refuse}

-- Every call of `compact_filtered` is one of those spoken of, by its contract.
pub calls : (κs : Lfts 5) (a : _) (r : _) (x : _) → reads.Post κs a r x
    → FilteredCall a.1.0 a.1.1.0.now a.1.1.1.0.now a.0.now a.1.1.1.1.0.now a.1.1.1.1.1.0.now x.1.1.1.1.0.now x.1.1.1.1.1.0.now r
calls κs a r x p = record { answers = p.0; writes = p.1.0; reports = p.1.1.0; bytes = p.1.1.1.0; verdict-bytes = p.1.1.1.1.0; value-bytes = p.1.1.1.1.1 }

-- A refused call changes nothing that was lent.
pub refused-changes-nothing : (j : Job) (q values s out table out' table' : List ℕ) (k : Refusal) (l n : ℕ)
    → FilteredCall j q values s out table out' table' (refuse k l n) → (out' ≡ out) × (table' ≡ table)
unfolding written noted
refused-changes-nothing j q values s out table out' table' k l n c = (c.writes, c.reports)

-- with no verdict but keep, the records asked are those of no filter
keep-asked : (q : ℕ → FilterVerdict) (i : ℕ) (vs : List Version) → ((n : ℕ) → n < i + length vs → q n ≡ Keep) → with_verdicts q i vs ≡ with_verdicts (λ i. Keep) i vs
unfolding with_verdicts
keep-asked q i [] h = refl
keep-asked q i (v ∷ vs) h = ap₂ (λ (x : FilterVerdict) (xs : List WithVerdict). record { version = v; verdict = x } ∷ xs) (h i (omega arith)) (keep-asked q (suc i) vs (λ n l. h n (omega arith)))

module _ (j : Job) (q values s out table : List ℕ) (count : ℕ) (b : Bytes s) (accepted : check_list s ≡ Ok count)
    (good : (eqb (verdicts_in q) count && are_verdicts count q values) ≡ true) (keep : (i : ℕ) → i < count → verdict_at q values i ≡ Keep) where
  unasked : filtered q values s ≡ unfiltered (versions_of s)
  unfolding filtered unfiltered
  unasked = keep-asked (verdict_at q values) 0 (versions_of s) (λ n l. keep n (omega (arith, accepted-count s count b accepted)))

  keeps-answer : filtered_to j q values s out table ≡ answer_to j s out table
  unfolding filtered_to answer_to on_result pick limited
  keeps-answer =
      rw (accepted, good, unasked) (simp (le-ltb list_limit (length (encode (compacted j (unfiltered (versions_of s))))) (omega (arith, no_longer j (versions_of s), (accepted-fine s count b accepted).small))))

  keeps_output : (r : Compaction) → written r j (filtered q values s) out ≡ output_at r j s out
  unfolding output_at
  keeps_output r = ap (λ (bs : List WithVerdict). written r j bs out) unasked

  keeps-report : (r : Compaction) → noted r j (filtered q values s) table ≡ report_at r j s table
  unfolding report_at
  keeps-report r = ap (λ (bs : List WithVerdict). noted r j bs table) unasked

-- No verdict but keep: the call's answer, output and report are those of `compact`, so all that is said of its calls holds of this one.
pub keeps : (j : Job) (q values s out table out' table' : List ℕ) (r : Compaction) → FilteredCall j q values s out table out' table' r
    → ((count : ℕ) → check_list s ≡ Ok count → ((eqb (verdicts_in q) count && are_verdicts count q values) ≡ true) × ((i : ℕ) → i < count → verdict_at q values i ≡ Keep))
    → Call j s out table out' table' r
keeps j q values s out table out' table' r c h = go (check_list s) refl
  where
    go : (v : Verdict) → check_list s ≡ v → Call j s out table out' table' r
    go (Ok count) e =
        let k = h count e in
        record {
          answers = c.answers ∙ keeps-answer j q values s out table count c.bytes e k.0 k.1;
          writes = c.writes ∙ keeps_output j q values s out table count c.bytes e k.0 k.1 r;
          reports = c.reports ∙ keeps-report j q values s out table count c.bytes e k.0 k.1 r;
          bytes = c.bytes;
        }
    go (Err f) e =
        let g : r ≡ Err f = c.answers ∙ (unfold filtered_to on_result in rw e) in
        record {
          answers = g ∙ (unfold answer_to on_result in rw e);
          writes = c.writes ∙ rw g (unfold output_at written in refl);
          reports = c.reports ∙ rw g (unfold report_at noted in refl);
          bytes = c.bytes;
        }

-- A record that is no tombstone and whose verdict is drop or replace is reported, whether it is asked or drained.
drop-told : (j : Job) (t : Bool) (a : WithVerdict) (us : List Version) → is_tombstone a.version.kind ≡ false → (a.verdict ≡ Keep → ⊥) → told (fate_if j t a us) ≡ true
unfolding fate_if head_fate filter_item pick
drop-told j true a us live n = unfold dropped in refl
drop-told j false a us live n = go a.verdict refl
  where
    go : (v : FilterVerdict) → a.verdict ≡ v → (by_verdict (pick (is_tombstone a.version.kind) Keep a.verdict) a.version).reported ≡ true
    go Keep e = absurd (n e)
    go Drop e = unfold by_verdict dropped pick in simp (live, e)
    go (Replace kind value) e = unfold by_verdict pick in simp (live, e)

loop-told : (j : Job) (t : Bool) (a : WithVerdict) (bs : List WithVerdict) (z : WithVerdict) (n : ℕ) → n < suc (length bs) → is_tombstone (get_or (a ∷ bs) n z).version.kind ≡ false
    → ((get_or (a ∷ bs) n z).verdict ≡ Keep → ⊥) → told (get_or (loop j t a bs) n (gone false)) ≡ true
unfolding loop
loop-told j t a [] z zero l live k = drop-told j t a [] live k
loop-told j t a [] z (suc n) l live k = absurd (omega arith)
loop-told j t a (b ∷ bs) z zero l live k = drop-told j t a _ live k
loop-told j t a (b ∷ bs) z (suc n) l live k = loop-told j (tailed j t a b) b bs z n (omega arith) live k

all_told : (j : Job) (bs : List WithVerdict) (z : WithVerdict) (n : ℕ) → n < length bs → is_tombstone (get_or bs n z).version.kind ≡ false → ((get_or bs n z).verdict ≡ Keep → ⊥) → told (fate_of j bs n) ≡ true
unfolding fate_of
all_told j [] z n l live k = absurd (omega arith)
all_told j (a ∷ bs) z n l live k = rw (← (loop-is j a bs)) (loop-told j false a bs z n l live k)

none_before : (m : ℕ) (bs : List Bool) (n : ℕ) → n < m → times n (numbers m bs) ≡ 0
unfolding numbers times pick
none_before m [] n l = refl
none_before m (true ∷ bs) n l = rw (ne_eqb m n (λ e. omega arith)) (none_before (suc m) bs n (omega arith))
none_before m (false ∷ bs) n l = none_before (suc m) bs n (omega arith)

once : (m : ℕ) (bs : List Bool) (k : ℕ) → get_or bs k false ≡ true → times (m + k) (numbers m bs) ≡ 1
unfolding numbers times pick
once m [] k e = never (sym e)
once m (true ∷ bs) zero e = rw (eq-eqb m (m + 0) (omega arith)) (ap suc (none_before (suc m) bs (m + 0) (omega arith)))
once m (false ∷ bs) zero e = never (sym e)
once m (true ∷ bs) (suc k) e =
    let f : m + suc k ≡ suc m + k = omega arith in
    rw (ne_eqb m (m + suc k) (λ z. omega arith)) (ap (λ (x : ℕ). times x (numbers (suc m) bs)) f ∙ once (suc m) bs k e)
once m (false ∷ bs) (suc k) e =
    let f : m + suc k ≡ suc m + k = omega arith in
    ap (λ (x : ℕ). times x (numbers (suc m) bs)) f ∙ once (suc m) bs k e

told-test : (fs : List Fate) (n : ℕ) → get_or (map told fs) n false ≡ told (get_or fs n (gone false))
told-test [] n = refl
told-test (f ∷ fs) zero = refl
told-test (f ∷ fs) (suc n) = told-test fs n

-- A call that answered n bytes, k records kept and t reported.
module _ (j : Job) (q values s out table out' table' : List ℕ) (n k t : ℕ) (call : FilteredCall j q values s out table out' table' (answered n k t)) where
  abbrev bs : List WithVerdict
  bs = filtered q values s

  so : Done j bs s out table out' table' n k t
  so = (done-filtered j q values s out table n k t out' table' call).0

  is : versions bs ≡ versions_of s
  unfolding filtered
  is = versions-asked (verdict_at q values) 0 (versions_of s)

  fine-in : Fine (versions bs)
  fine-in = rw is (accepted-fine s so.count call.bytes so.accepted)

  short : AllShort bs
  unfolding filtered
  short = go
    where
      go : AllShort (with_verdicts (verdict_at q values) 0 (versions_of s))
      go = all_short (verdict_at q values) 0 (versions_of s) (λ k l. verdict-short q values call.verdict-bytes call.value-bytes k)

  small : length (encode (compacted j bs)) ≤ list_limit
  small = (done-filtered j q values s out table n k t out' table' call).1

  -- The output is itself an accepted list, whatever the verdicts and the flags, and holds what the definition says. Zeroing makes no two versions of a key equal:
  -- a version below T that leaves is the last of its key to leave, since the next is below T too and starts the tail.
  pub output-accepted : check_list (take n out') ≡ Ok k
  output-accepted = compacts.output-accepted j bs s out table out' table' n k t so fine-in short small

  pub output-holds : versions_of (take n out') ≡ compacted j bs
  output-holds = compacts.output-holds j bs s out table out' table' n k t so fine-in short small

  pub report-holds : words_from 0 t table' ≡ report j bs
  report-holds = compacts.report-holds j bs s out table out' table' n k t so fine-in short small

  -- Its records are those of the kept numbers, in order: what the filter made of each, unchanged but for a zeroed seqno.
  pub output-is-the-kept : (other : WithVerdict) → versions_of (take n out') ≡ map (λ (i : ℕ). leave j (made (get_or bs i other))) (kept j bs)
  output-is-the-kept = compacts.output-is-the-kept j bs s out table out' table' n k t so fine-in short small

  -- A record that is no tombstone and whose verdict is drop or replace stands in the report exactly once.
  pub reported-once : (other : WithVerdict) (i : ℕ) → i < length bs → is_tombstone (get_or bs i other).version.kind ≡ false → ((get_or bs i other).verdict ≡ Keep → ⊥) → times i (words_from 0 t table') ≡ 1
  unfolding report
  reported-once other i l live v =
      let e : i ≡ 0 + i = omega arith in
      rw report-holds (ap (λ (x : ℕ). times x (report j bs)) e ∙ once 0 (map told (fates j bs)) i (told-test (fates j bs) i ∙ (unfold fate_of in all_told j bs other i l live v)))

  -- Of a key whose verdicts are all keep, exactly the versions below T that are not their key's newest are reported, and they are gone.
  pub dropped-exactly : (other : Version) (i : ℕ) → AllKeep (get_or (versions_of s) i other).key bs
      → Memᴰ i (words_from 0 t table') ↔ ((i < length (versions_of s)) × (droppable j (versions_of s) (get_or (versions_of s) i other) ≡ true))
  dropped-exactly other i =
      let r = compacts.dropped-exactly j bs s out table out' table' n k t so fine-in short small other i in
      rw is at r

  pub dropped-is-gone : (other : WithVerdict) (i : ℕ) → (get_or bs i other).verdict ≡ Keep → Memᴰ i (words_from 0 t table') → Memᴰ i (kept j bs) → ⊥
  dropped-is-gone = compacts.dropped-is-gone j bs s out table out' table' n k t so fine-in short small

  -- A read of such a key whose visible version was its newest, or at or above T, answers with the same kind and value as before.
  pub reads-stay : (key : List ℕ) → AllKeep key bs → (snapshot i : ℕ) (x : Version) → point_read key snapshot (versions_of s) ≡ some (i, x)
      → (is_newest (versions_of s) x ≡ true) ⊎ (j.threshold ≤ x.seqno)
      → reads_as (point_read key snapshot (versions_of (take n out'))) ≡ reads_as (point_read key snapshot (versions_of s))
  reads-stay key keep snapshot i x =
      let r = compacts.reads-stay j bs s out table out' table' n k t so fine-in short small key keep snapshot i x in
      rw is at r

  -- A read of any key that saw no version still sees none, if seqnos are not zeroed or the snapshot is not below T.
  pub none-appears : (key : List ℕ) (snapshot : ℕ) → (j.zeroing ≡ false) ⊎ (j.threshold ≤ snapshot)
      → point_read key snapshot (versions_of s) ≡ none → point_read key snapshot (versions_of (take n out')) ≡ none
  none-appears key snapshot =
      let r = compacts.none-appears j bs s out table out' table' n k t so fine-in short small key snapshot in
      rw is at r

  -- No more records than the input has.
  pub no-more-records : k ≤ length (versions_of s)
  no-more-records = omega (arith, so.kept-is, as_many j bs, no_more j bs, length-map bs (λ (a : WithVerdict). a.version), ap length is)

  -- Bytes and entries past what is written stay.
  pub rest-stays-there : (drop n out' ≡ drop n out) × (drop (4 * t) table' ≡ drop (4 * t) table)
  rest-stays-there = compacts.rest-stays-there j bs s out table out' table' n k t so fine-in short small

-- Raising the threshold with the same flags and verdicts never brings a record back, of any key: what is kept at the higher is kept at the lower, and no more records are.
pub higher-keeps-less : (j j' : Job) (q values s : List ℕ) → j.threshold ≤ j'.threshold → j.evict ≡ j'.evict → j.zeroing ≡ j'.zeroing
    → (out table out₁ table₁ : List ℕ) (n k t : ℕ) → FilteredCall j q values s out table out₁ table₁ (answered n k t)
    → (out' table' out₂ table₂ : List ℕ) (n' k' t' : ℕ) → FilteredCall j' q values s out' table' out₂ table₂ (answered n' k' t')
    → ((i : ℕ) → Memᴰ i (kept j' (filtered q values s)) → Memᴰ i (kept j (filtered q values s))) × (k' ≤ k)
higher-keeps-less j j' q values s up evicts zeroes out table out₁ table₁ n k t c out' table' out₂ table₂ n' k' t' c' =
    let a = (done-filtered j q values s out table n k t out₁ table₁ c).0.kept-is in
    let b = (done-filtered j' q values s out' table' n' k' t' out₂ table₂ c').0.kept-is in
    let bs : List WithVerdict = filtered q values s in
    let lower = kept-at-lower j j' up evicts bs in
    (λ i m. (in_kept j bs i).1 (lower i ((in_kept j' bs i).0 m)), omega (arith, a, b, fewer-kept j j' bs lower))
