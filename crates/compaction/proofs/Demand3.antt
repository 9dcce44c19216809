-- Demand 3, sentence by sentence, of any call that meets the public contract of `compact`: no verdict but keep, so what is said of a key whose verdicts are all keep is said of every key.
use Rattle.std.specs.Prelude.{Ok}
use Prim.Native.Nat.{ℕ, zero, suc, ◌*◌, ◌≤◌, ◌<◌}
use mathlib.Core.Path.{◌≡◌, refl, sym, ap, ap₂, ◌∙◌}
use mathlib.Core.List.{List, [], ◌∷◌, map, Memᴰ}
use mathlib.Core.Bool.{true, false}
use mathlib.Core.Option.{none, some, Option-elim}
use mathlib.Core.Logic.{◌⊎◌, ◌↔◌}
use native.Mathlib.Omega.{arith}
use contract.Lifetimes.{Lfts}
use lib.ListN.{length, take, drop, get_or, length-map}
use Rattle.list.specs.Limits.{list_limit}
use Rattle.list.specs.Check.{check_list}
use Rattle.list.specs.Version.{Version, encode, Fine, versions_of}
use Rattle.list.specs.PointRead.{point_read}
use Rattle.list.specs.declared.refusal.Refusal.{Refusal}
use Rattle.list.specs.declared.value_type.ValueType.TheVariants.{Value}
use Rattle.list.proofs.Meaning.{accepted-encode, accepted-fine}
use Rattle.compaction.specs.declared.stream.Job.{Job}
use Rattle.compaction.specs.Compact.{kept, report, compacted}
use Rattle.compaction.specs.Fate.{Keep, WithVerdict, with_verdicts, unfiltered, leave}
use Rattle.compaction.specs.Compaction.{answered, written, output_at, noted, report_at}
use Rattle.compaction.specs.Calls.{Call}
use Rattle.compaction.specs.Read.{reads_as, is_newest, droppable, words_from, AllKeep, made}
use Rattle.compaction.proofs.stream.compact.Reads as reads
use Rattle.compaction.proofs.Done.{Done, done}
use Rattle.compaction.proofs.Kept.{versions, versions-asked, keeps, Plain, plain-asked, AllShort, short-asked}
use Rattle.compaction.proofs.AllKeep.{plain-holds}
use Rattle.compaction.proofs.Numbers.{in_kept, fewer-kept}
use Rattle.compaction.proofs.Lower.{kept-at-lower}
use Rattle.compaction.proofs.Size.{no_more, no_longer}
use Rattle.compaction.proofs.Identity.{same-list, no-report}
use Rattle.compaction.proofs.Measuring.{as_many}
use Rattle.compaction.proofs.Compacts as compacts
use Rattle.list.specs.Refusal.{refuse}

-- Every call of `compact` is one of those that the sentences speak of, by its contract.
pub calls : (κs : Lfts 3) (a : _) (r : _) (x : _) → reads.Post κs a r x
    → Call a.1.0 a.0.now a.1.1.0.now a.1.1.1.0.now x.1.1.0.now x.1.1.1.0.now r
calls κs a r x p = record { answers = p.0; writes = p.1.0; reports = p.1.1.0; bytes = p.1.1.1 }

-- A refused call changes nothing that was lent.
pub refused-changes-nothing : (j : Job) (s out table out' table' : List ℕ) (k : Refusal) (l n : ℕ)
    → Call j s out table out' table' (refuse k l n) → (out' ≡ out) × (table' ≡ table)
unfolding output_at report_at written noted
refused-changes-nothing j s out table out' table' k l n c = (c.writes, c.reports)

-- without a filter
module _ (vs : List Version) where
  the-versions : versions (unfiltered vs) ≡ vs
  unfolding unfiltered
  the-versions = versions-asked (λ i. Keep) 0 vs

  all_plain : Plain (unfiltered vs)
  unfolding unfiltered
  all_plain = plain-asked 0 vs

  all-kept : (key : List ℕ) → AllKeep key (unfiltered vs)
  all-kept key = plain-holds (λ k. Unit {0}) (unfiltered vs) all_plain key tt

keep_at : (z : WithVerdict) → z.verdict ≡ Keep → (bs : List WithVerdict) → Plain bs → (n : ℕ) → (get_or bs n z).verdict ≡ Keep
unfolding Plain
keep_at z e [] p n = e
keep_at z e (b ∷ bs) p zero = p.0
keep_at z e (b ∷ bs) p (suc n) = keep_at z e bs p.1 n

made-keep : (v : Version) → made (record { version = v; verdict = Keep }) ≡ v
unfolding made Option-elim
made-keep v = rw (keeps (record { version = v; verdict = Keep }) refl)

made_plain : (other : Version) (i : ℕ) (vs : List Version) (n : ℕ) → made (get_or (with_verdicts (λ i. Keep) i vs) n (record { version = other; verdict = Keep })) ≡ get_or vs n other
unfolding with_verdicts
made_plain other i [] n = made-keep other
made_plain other i (v ∷ vs) zero = made-keep v
made_plain other i (v ∷ vs) (suc n) = made_plain other (suc i) vs n

-- A call on the list s that answered n bytes, k records kept and t reported. The output is the first n bytes of its buffer, the report the first t entries of its table.
module _ (j : Job) (s out table out' table' : List ℕ) (n k t : ℕ) (call : Call j s out table out' table' (answered n k t)) where
  abbrev bs : List WithVerdict
  bs = unfiltered (versions_of s)

  so : Done j bs s out table out' table' n k t
  so = done j s out table n k t out' table' call

  is : versions bs ≡ versions_of s
  is = the-versions (versions_of s)

  fine-in : Fine (versions bs)
  fine-in = rw is (accepted-fine s so.count call.bytes so.accepted)

  short : AllShort bs
  unfolding unfiltered
  short = short-asked 0 (versions_of s)

  small : length (encode (compacted j bs)) ≤ list_limit
  small = omega (arith, no_longer j (versions_of s), (accepted-fine s so.count call.bytes so.accepted).small)

  -- The output is itself an accepted list, and holds what the definition says.
  pub output-accepted : check_list (take n out') ≡ Ok k
  output-accepted = compacts.output-accepted j bs s out table out' table' n k t so fine-in short small

  pub output-holds : versions_of (take n out') ≡ compacted j bs
  output-holds = compacts.output-holds j bs s out table out' table' n k t so fine-in short small

  -- Its records are those of the kept numbers, in order, unchanged but for a zeroed seqno.
  pub output-is-the-kept : (other : Version) → versions_of (take n out') ≡ map (λ (i : ℕ). leave j (get_or (versions_of s) i other)) (kept j bs)
  unfolding unfiltered
  output-is-the-kept other =
      compacts.output-is-the-kept j bs s out table out' table' n k t so fine-in short small (record { version = other; verdict = Keep })
      ∙ same (kept j bs)
    where
      same : (is : List ℕ) → map (λ (i : ℕ). leave j (made (get_or bs i (record { version = other; verdict = Keep })))) is ≡ map (λ (i : ℕ). leave j (get_or (versions_of s) i other)) is
      same [] = refl
      same (i ∷ is) = ap₂ ◌∷◌ (ap (leave j) (made_plain other 0 (versions_of s) i)) (same is)

  pub report-holds : words_from 0 t table' ≡ report j bs
  report-holds = compacts.report-holds j bs s out table out' table' n k t so fine-in short small

  -- Dropped are exactly the versions below T that are not their key's newest.
  pub dropped-exactly : (other : Version) (i : ℕ) → Memᴰ i (words_from 0 t table')
      ↔ ((i < length (versions_of s)) × (droppable j (versions_of s) (get_or (versions_of s) i other) ≡ true))
  dropped-exactly other i =
      let r = compacts.dropped-exactly j bs s out table out' table' n k t so fine-in short small other i (all-kept (versions_of s) _) in
      rw is at r

  -- What is dropped is gone: no number is both reported and kept.
  pub dropped-is-gone : (i : ℕ) → Memᴰ i (words_from 0 t table') → Memᴰ i (kept j bs) → ⊥
  dropped-is-gone i =
      let z : WithVerdict = record { version = record { key = []; seqno = 0; kind = Value; value = [] }; verdict = Keep } in
      compacts.dropped-is-gone j bs s out table out' table' n k t so fine-in short small z i (keep_at z refl bs (all_plain (versions_of s)) i)

  -- A read whose visible version was its key's newest, or at or above T, answers with the same kind and value as before.
  pub reads-stay : (key : List ℕ) (snapshot i : ℕ) (x : Version) → point_read key snapshot (versions_of s) ≡ some (i, x)
      → (is_newest (versions_of s) x ≡ true) ⊎ (j.threshold ≤ x.seqno)
      → reads_as (point_read key snapshot (versions_of (take n out'))) ≡ reads_as (point_read key snapshot (versions_of s))
  reads-stay key snapshot i x =
      let r = compacts.reads-stay j bs s out table out' table' n k t so fine-in short small key (all-kept (versions_of s) key) snapshot i x in
      rw is at r

  -- A read that saw no version still sees none, if seqnos are not zeroed or the snapshot is not below T.
  pub none-appears : (key : List ℕ) (snapshot : ℕ) → (j.zeroing ≡ false) ⊎ (j.threshold ≤ snapshot)
      → point_read key snapshot (versions_of s) ≡ none → point_read key snapshot (versions_of (take n out')) ≡ none
  none-appears key snapshot =
      let r = compacts.none-appears j bs s out table out' table' n k t so fine-in short small key snapshot in
      rw is at r

  -- The output has no more records than the list, and takes no more bytes.
  pub output-no-longer : (k ≤ length (versions_of s)) × (n ≤ length s)
  output-no-longer = (
    omega (arith, so.kept-is, as_many j bs, no_more j bs, length-map bs (λ (a : WithVerdict). a.version), ap length is),
    omega (arith, so.length-is, no_longer j (versions_of s), ap length (accepted-encode s so.count call.bytes so.accepted)),
  )

  -- Bytes and entries past what is written stay.
  pub rest-stays-there : (drop n out' ≡ drop n out) × (drop (4 * t) table' ≡ drop (4 * t) table)
  rest-stays-there = compacts.rest-stays-there j bs s out table out' table' n k t so fine-in short small

  -- With threshold 0 and no eviction the output is the list, byte for byte, and nothing is reported.
  pub zero-is-identity : j.threshold ≡ 0 → j.evict ≡ false → (take n out' ≡ s) × (t ≡ 0)
  zero-is-identity z e = (
    compacts.output-is j bs s out table out' table' n k t so fine-in short small ∙ ap encode (same-list j z e (versions_of s)) ∙ sym (accepted-encode s so.count call.bytes so.accepted),
    so.told_is ∙ ap length (no-report j z e (versions_of s)),
  )

-- Raising the threshold with the same flags never brings a record back: what is kept at the higher is kept at the lower, and no more records are.
pub higher-keeps-less : (j j' : Job) (s : List ℕ) → j.threshold ≤ j'.threshold → j.evict ≡ j'.evict → j.zeroing ≡ j'.zeroing
    → (out table out₁ table₁ : List ℕ) (n k t : ℕ) → Call j s out table out₁ table₁ (answered n k t)
    → (out' table' out₂ table₂ : List ℕ) (n' k' t' : ℕ) → Call j' s out' table' out₂ table₂ (answered n' k' t')
    → ((i : ℕ) → Memᴰ i (kept j' (unfiltered (versions_of s))) → Memᴰ i (kept j (unfiltered (versions_of s)))) × (k' ≤ k)
higher-keeps-less j j' s up evicts zeroes out table out₁ table₁ n k t c out' table' out₂ table₂ n' k' t' c' =
    let a = (done j s out table n k t out₁ table₁ c).kept-is in
    let b = (done j' s out' table' n' k' t' out₂ table₂ c').kept-is in
    let us : List WithVerdict = unfiltered (versions_of s) in
    let lower = kept-at-lower j j' up evicts us in
    (λ i m. (in_kept j us i).1 (lower i ((in_kept j' us i).0 m)), omega (arith, a, b, fewer-kept j j' us lower))
