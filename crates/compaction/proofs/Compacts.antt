-- What is left after a call on a list whose records bs were asked: the laws over versions, carried to the bytes by the list library's two-level law.
use Rattle.std.specs.Prelude.{Ok}
use Prim.Native.Nat.{ℕ, zero, suc, ◌*◌, ◌≤◌, ◌<◌}
use mathlib.Core.Path.{◌≡◌, sym, ap, ◌∙◌}
use mathlib.Core.List.{List, [], ◌∷◌, ◌++◌, map, Memᴰ}
use mathlib.Core.Bool.{true, false}
use mathlib.Core.Option.{none, some}
use mathlib.Core.Logic.{◌⊎◌, ◌↔◌}
use native.Mathlib.Omega.{arith}
use lib.ListN.{length, take, drop, get_or, length-map}
use Rattle.list.specs.Limits.{list_limit}
use Rattle.list.specs.Field.{words}
use Rattle.list.specs.Check.{check_list}
use Rattle.list.specs.Version.{Version, encode, Fine, versions_of}
use Rattle.list.specs.PointRead.{point_read}
use Rattle.list.proofs.Tests.{never}
use Rattle.list.proofs.Words.{length-words}
use Rattle.list.proofs.Encode.{encode-accepted, versions-encode, fine-few}
use Rattle.list.proofs.Buffers.{put_first, first-is, rest-stays}
use Rattle.compaction.specs.declared.stream.Job.{Job}
use Rattle.compaction.specs.Compact.{kept, report, compacted}
use Rattle.compaction.specs.Fate.{Fate, WithVerdict, Keep, leave, fates}
use Rattle.compaction.specs.Read.{reads_as, is_newest, droppable, words_from, AllKeep, made}
use Rattle.compaction.proofs.Kept.{versions, told, gone, AllShort}
use Rattle.compaction.proofs.Done.{Done}
use Rattle.compaction.proofs.Buffers.{read_back, numbers-low}
use Rattle.compaction.proofs.Dropping.{reported-exactly, agrees_at}
use Rattle.compaction.proofs.Numbers.{one_each, in-report, reported-not-kept, output-is-kept}
use Rattle.compaction.proofs.Reading.{reads_same, reads_nothing}
use Rattle.compaction.proofs.Size.{fine}
use Rattle.compaction.proofs.Measuring.{as_many}
use Rattle.compaction.proofs.Loop.{fate_of}

-- a fate that is told is one of those there
told-inside : (fs : List Fate) (i : ℕ) → told (get_or fs i (gone false)) ≡ true → i < length fs
told-inside [] i e = never (sym e)
told-inside (f ∷ fs) zero e = omega arith
told-inside (f ∷ fs) (suc i) e = omega (arith, told-inside fs i e)

module _ (j : Job) (bs : List WithVerdict) (s out table out' table' : List ℕ) (n k t : ℕ) (so : Done j bs s out table out' table' n k t)
    (fine-in : Fine (versions bs)) (short : AllShort bs) (small : length (encode (compacted j bs)) ≤ list_limit) where
  fine-out : Fine (compacted j bs)
  fine-out = fine j bs fine-in short small

  pub output-is : take n out' ≡ encode (compacted j bs)
  output-is = ap (take n) so.output ∙ first-is out (encode (compacted j bs)) (omega (arith, so)) n so.length-is

  -- The output is itself an accepted list, and holds what the definition says.
  pub output-accepted : check_list (take n out') ≡ Ok k
  output-accepted = ap check_list output-is ∙ encode-accepted (compacted j bs) fine-out ∙ ap Ok (sym (so.kept-is ∙ as_many j bs))

  pub output-holds : versions_of (take n out') ≡ compacted j bs
  output-holds = ap versions_of output-is ∙ versions-encode (compacted j bs) fine-out

  -- Its records are those of the kept numbers, in order: what the filter made of each, unchanged but for a zeroed seqno.
  pub output-is-the-kept : (other : WithVerdict) → versions_of (take n out') ≡ map (λ (i : ℕ). leave j (made (get_or bs i other))) (kept j bs)
  output-is-the-kept other = output-holds ∙ output-is-kept j bs other

  table_is : table' ≡ words (report j bs) ++ drop (length (words (report j bs))) table
  table_is = so.told ∙ put_first table (words (report j bs)) (omega (arith, so, length-words (report j bs)))

  few-numbers : (i : ℕ) → get_or (report j bs) i 0 < 4294967296
  unfolding report
  few-numbers i =
      omega (arith, numbers-low 0 (map told (fates j bs)) i, length-map (fates j bs) told, one_each j bs, length-map bs (λ (a : WithVerdict). a.version), fine-few (versions bs) fine-in)

  pub report-holds : words_from 0 t table' ≡ report j bs
  report-holds = ap (words_from 0 t) table_is ∙ read_back (report j bs) _ few-numbers t 0 (omega (arith, so))

  -- Of a key whose verdicts are all keep, exactly the versions below T that are not their key's newest are reported ..
  pub dropped-exactly : (other : Version) (i : ℕ) → AllKeep (get_or (versions bs) i other).key bs
      → Memᴰ i (words_from 0 t table') ↔ ((i < length (versions bs)) × (droppable j (versions bs) (get_or (versions bs) i other) ≡ true))
  unfolding fate_of
  dropped-exactly other i keep =
      let a = agrees_at (λ k. AllKeep k bs) (droppable j (versions bs)) (fates j bs) bs (one_each j bs) (reported-exactly j (λ k. AllKeep k bs) bs fine-in.in_order (λ k m. m)) other i in
      let many : length (versions bs) ≡ length bs = length-map bs (λ (a : WithVerdict). a.version) in
      let r = in-report j bs i in
      let there : told (get_or (fates j bs) i (gone false)) ≡ true → i < length (versions bs) = λ h. omega (arith, told-inside (fates j bs) i h, one_each j bs, many) in
      rw report-holds (λ m. (there (r.0 m), sym (a (omega (arith, there (r.0 m), many)) keep) ∙ r.0 m), λ h. r.1 (a (omega (arith, h.0, many)) keep ∙ h.1))

  -- .. and what is reported of them is gone: no number is both reported and kept.
  pub dropped-is-gone : (other : WithVerdict) (i : ℕ) → (get_or bs i other).verdict ≡ Keep → Memᴰ i (words_from 0 t table') → Memᴰ i (kept j bs) → ⊥
  dropped-is-gone other i keep m = reported-not-kept j bs other i keep (rw report-holds at m)

  -- A read of such a key whose visible version was its newest, or at or above T, answers with the same kind and value as before.
  pub reads-stay : (key : List ℕ) → AllKeep key bs → (snapshot i : ℕ) (x : Version) → point_read key snapshot (versions bs) ≡ some (i, x)
      → (is_newest (versions bs) x ≡ true) ⊎ (j.threshold ≤ x.seqno)
      → reads_as (point_read key snapshot (versions_of (take n out'))) ≡ reads_as (point_read key snapshot (versions bs))
  reads-stay key keep snapshot i x v a = rw output-holds (reads_same j bs fine-in.in_order key keep snapshot i x v a)

  -- A read that saw no version still sees none, if seqnos are not zeroed or the snapshot is not below T.
  pub none-appears : (key : List ℕ) (snapshot : ℕ) → (j.zeroing ≡ false) ⊎ (j.threshold ≤ snapshot)
      → point_read key snapshot (versions bs) ≡ none → point_read key snapshot (versions_of (take n out')) ≡ none
  none-appears key snapshot c v = rw output-holds (reads_nothing j bs key snapshot c v)

  -- Bytes and entries past what is written stay.
  pub rest-stays-there : (drop n out' ≡ drop n out) × (drop (4 * t) table' ≡ drop (4 * t) table)
  rest-stays-there = (
    ap (drop n) so.output ∙ rest-stays out (encode (compacted j bs)) (omega (arith, so)) n so.length-is,
    ap (drop (4 * t)) so.told
        ∙ rest-stays table (words (report j bs)) (omega (arith, so, length-words (report j bs))) (4 * t) (omega (arith, so, length-words (report j bs))),
  )
