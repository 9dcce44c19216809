-- What compaction answers and leaves: by the figures measured, and by header and records written one behind the other.
use Rattle.std.specs.Prelude.{Ok, Err}
use Prim.Native.Nat.{ℕ, ◌≤◌, ◌<◌}
use mathlib.Core.Path.{◌≡◌, refl, sym, ap, ◌∙◌}
use mathlib.Core.List.{List, ◌++◌}
use mathlib.Core.Bool.{Bool, true, false, ◌&&◌}
use native.Mathlib.Omega.{arith}
use borrow.Author.Tests.{lt-ltb, le-ltb}
use lib.Dec.{eqb}
use lib.ListN.{length}
use lib.Seq.{sets}
use Rattle.list.specs.Limits.{header_size, list_limit}
use Rattle.list.specs.Pick.{pick, on_result}
use Rattle.list.specs.Field.{le_bytes, words, words_in}
use Rattle.list.specs.Check.{mark, check_list}
use Rattle.list.specs.Version.{Bytes, records, header, encode, versions_of}
use Rattle.list.specs.declared.refusal.Refused.{Refused}
use Rattle.list.specs.declared.refusal.Refusal.TheVariants.{TooLarge, NoRoom, BadVerdict}
use Rattle.list.specs.Check.{Verdict}
use Rattle.list.proofs.Numbers.{then-put}
use Rattle.list.proofs.Encode.{length-header, length-encode}
use Rattle.list.proofs.Meaning.{accepted-fine}
use Rattle.compaction.specs.declared.stream.Job.{Job}
use Rattle.compaction.specs.declared.stream.Compacted.{Compacted}
use Rattle.compaction.specs.Fate.{Keep, WithVerdict, unfiltered}
use Rattle.compaction.specs.Filter.{verdicts_in, are_verdicts, verdict_at}
use Rattle.compaction.specs.Compact.{kept, report, compacted}
use Rattle.compaction.specs.Compaction.{figures, Compaction, measured, limited, answer_to, filtered, filtered_to, written, output_at, noted, report_at}
use Rattle.compaction.specs.Turn.{asked_by}
use Rattle.compaction.proofs.Size.{no_longer}
use Rattle.compaction.proofs.Measuring.{as_many}
use Rattle.list.specs.Refusal.{refuse}

-- a refused compaction changes nothing
unchanged : (r : Compaction) (f : Refused) (j : Job) (bs : List WithVerdict) (out table : List ℕ) → r ≡ Err f → (out ≡ written r j bs out) × (table ≡ noted r j bs table)
unfolding written noted
unchanged r f j bs out table e = rw e (refl, refl)

-- what comes of the records bs, within the limit or not
abbrev Comes : Job → List WithVerdict → List ℕ → List ℕ → Compaction → List ℕ → List ℕ → Type 0
Comes j bs out table r u t = (r ≡ limited j bs (length out) (words_in table)) × ((u ≡ written r j bs out) × (t ≡ noted r j bs table))

module _ (j : Job) (bs : List WithVerdict) (out table : List ℕ) (f : Compacted) (m : f ≡ figures j bs) where
  long : f.length ≡ length (encode (compacted j bs))
  unfolding figures
  long = ap (λ (g : Compacted). g.length) m

  many : f.kept ≡ length (kept j bs)
  unfolding figures
  many = ap (λ (g : Compacted). g.kept) m

  told : f.reported ≡ length (report j bs)
  unfolding figures
  told = ap (λ (g : Compacted). g.reported) m

  pub a-large : (r : Compaction) → list_limit < f.length → r ≡ refuse TooLarge 0 0 → Comes j bs out table r out table
  unfolding limited pick
  a-large r h e = (e ∙ simp (lt-ltb list_limit (length (encode (compacted j bs))) (omega (arith, long))), unchanged r _ j bs out table e)

  module _ (small : f.length ≤ list_limit) where
    pub a-output : (r : Compaction) → length out < f.length → r ≡ refuse NoRoom 0 0 → Comes j bs out table r out table
    unfolding limited measured pick
    a-output r h e = (
      e ∙ simp (le-ltb list_limit (length (encode (compacted j bs))) (omega (arith, long)), lt-ltb (length out) (length (encode (compacted j bs))) (omega (arith, long))),
      unchanged r _ j bs out table e,
    )

    pub a-report : (r : Compaction) (n : ℕ) → n ≡ words_in table → f.length ≤ length out → n < f.reported → r ≡ refuse NoRoom 0 1 → Comes j bs out table r out table
    unfolding limited measured pick
    a-report r n w h g e = (
      e ∙ simp (le-ltb list_limit (length (encode (compacted j bs))) (omega (arith, long)), le-ltb (length out) (length (encode (compacted j bs))) (omega (arith, long)), lt-ltb (words_in table) (length (report j bs)) (omega (arith, told))),
      unchanged r _ j bs out table e,
    )

    pub a-header : f.length ≤ length out → header_size ≤ length out
    a-header h = omega (arith, long, length-encode (compacted j bs))

    module _ (h : f.length ≤ length out) (z : ℕ) (w : z ≡ words_in table) (g : f.reported ≤ z) where
      pub a-room : (n : ℕ) → n ≡ length out → (length (encode (compacted j bs)) ≤ n) × (length (report j bs) ≤ words_in table)
      a-room n e = (omega (arith, long), omega (arith, told))

      reaches : Ok f ≡ limited j bs (length out) (words_in table)
      unfolding limited measured pick
      reaches =
          rw m
          (simp (le-ltb list_limit (length (encode (compacted j bs))) (omega (arith, long)), le-ltb (length out) (length (encode (compacted j bs))) (omega (arith, long)), le-ltb (words_in table) (length (report j bs)) (omega (arith, told))))

      puts-all : (u v : List ℕ) → u ≡ sets out 0 (header f.kept) → v ≡ sets u header_size (records (compacted j bs)) → v ≡ sets out 0 (encode (compacted j bs))
      unfolding encode header mark le_bytes
      puts-all u v a b =
          b ∙ then-put out u (header f.kept) (records (compacted j bs)) 0 header_size a (sym (length-header f.kept))
          ∙ ap (λ (n : ℕ). sets out 0 (header n ++ records (compacted j bs))) (many ∙ as_many j bs)

      pub a-done : (u v t : List ℕ) → u ≡ sets out 0 (header f.kept) → v ≡ sets u header_size (records (compacted j bs)) → t ≡ sets table 0 (words (report j bs))
          → Comes j bs out table (Ok f) v t
      unfolding written noted
      a-done u v t a b c = (reaches, (puts-all u v a b, c))

-- what a compaction answers and leaves, and that it was lent bytes
abbrev pub Answers : Job → List ℕ → List ℕ → List ℕ → Compaction → List ℕ → List ℕ → Type 0
Answers j s out table r u t = (r ≡ answer_to j s out table) × ((u ≡ output_at r j s out) × ((t ≡ report_at r j s table) × Bytes s))

-- without a filter the limit is never passed
module _ (j : Job) (s : List ℕ) where
  unlimited : (n : ℕ) → Bytes s → check_list s ≡ Ok n → (x y : ℕ) → limited j (unfiltered (versions_of s)) x y ≡ measured j (unfiltered (versions_of s)) x y
  unfolding limited pick
  unlimited n b a x y =
      simp (le-ltb list_limit (length (encode (compacted j (unfiltered (versions_of s))))) (omega (arith, no_longer j (versions_of s), (accepted-fine s n b a).small)))

-- by the checker's verdict
module _ (j : Job) (s out table : List ℕ) (v : Verdict) (checked : (v ≡ check_list s) × Bytes s) where
  pub a-refused : (f : Refused) → v ≡ Err f → Answers j s out table (Err f) out table
  unfolding answer_to output_at report_at on_result
  a-refused f e = let w = unchanged (Err f) f j (unfiltered (versions_of s)) out table refl in (rw (sym checked.0 ∙ e), (w.0, (w.1, checked.1)))

  pub a-accepted : (n : ℕ) (r : Compaction) (u w : List ℕ) → v ≡ Ok n → Comes j (asked_by (λ i. Keep) s) out table r u w → Answers j s out table r u w
  unfolding answer_to output_at report_at on_result asked_by unfiltered
  a-accepted n r u w e f =
      let a : check_list s ≡ Ok n = sym checked.0 ∙ e in
      (rw a (f.0 ∙ (unfold unfiltered in unlimited j s n checked.1 a _ _)), (f.1.0, (f.1.1, checked.1)))

-- the same with a filter
abbrev pub Filters : Job → List ℕ → List ℕ → List ℕ → List ℕ → List ℕ → Compaction → List ℕ → List ℕ → Type 0
Filters j t values s out table r u w =
    (r ≡ filtered_to j t values s out table) × ((u ≡ written r j (filtered t values s) out) × ((w ≡ noted r j (filtered t values s) table) × (Bytes s × (Bytes t × Bytes values))))

module _ (j : Job) (t values s out table : List ℕ) (v : Verdict) (checked : (v ≡ check_list s) × Bytes s) (bt : Bytes t) (bv : Bytes values) where
  pub f-refused : (f : Refused) → v ≡ Err f → Filters j t values s out table (Err f) out table
  unfolding filtered_to on_result
  f-refused f e = let w = unchanged (Err f) f j (filtered t values s) out table refl in (rw (sym checked.0 ∙ e), (w.0, (w.1, (checked.1, (bt, bv)))))

  module _ (n : ℕ) (e : v ≡ Ok n) (g : Bool) (judged : g ≡ (eqb (verdicts_in t) n && are_verdicts n t values)) where
    pub f-none : (r : Compaction) → g ≡ false → r ≡ refuse BadVerdict 0 0 → Filters j t values s out table r out table
    unfolding filtered_to on_result pick
    f-none r f i =
        let w = unchanged r _ j (filtered t values s) out table i in
        (i ∙ rw (sym checked.0 ∙ e, sym judged ∙ f), (w.0, (w.1, (checked.1, (bt, bv)))))

    pub f-done : (r : Compaction) (u w : List ℕ) → g ≡ true → Comes j (asked_by (verdict_at t values) s) out table r u w → Filters j t values s out table r u w
    unfolding filtered_to on_result pick asked_by filtered
    f-done r u w f c = (rw (sym checked.0 ∙ e, sym judged ∙ f) c.0, (c.1.0, (c.1.1, (checked.1, (bt, bv)))))
