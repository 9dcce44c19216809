-- A call that was not refused: the list was accepted, there was room, and the buffers hold what the definitions say; read off the contract's equations.
use Rattle.std.specs.Prelude.{Ok, Err}
use Prim.Native.Nat.{ℕ, ◌*◌, ◌≤◌}
use mathlib.Core.Path.{◌≡◌, refl, ap}
use mathlib.Core.List.{List, [], ◌∷◌}
use mathlib.Core.Bool.{Bool, true, false, ◌&&◌}
use native.Mathlib.Omega.{arith}
use borrow.Author.Tests.{ltb-false}
use lib.Dec.{ltb, eqb}
use lib.ListN.{length, get_or}
use lib.Seq.{sets}
use Rattle.list.specs.Limits.{list_limit}
use Rattle.list.specs.Pick.{pick, on_result}
use Rattle.list.specs.Field.{words, words_in}
use Rattle.list.specs.Check.{check_list}
use Rattle.list.specs.Version.{encode, versions_of}
use Rattle.list.specs.declared.refusal.Refused.{Refused}
use Rattle.list.specs.declared.refusal.Refusal.TheVariants.{TooLarge, NoRoom, BadVerdict}
use Rattle.list.specs.Check.{Verdict}
use Rattle.compaction.specs.declared.stream.Job.{Job}
use Rattle.compaction.specs.Fate.{WithVerdict, unfiltered}
use Rattle.compaction.specs.Filter.{verdicts_in, are_verdicts}
use Rattle.compaction.specs.Compact.{kept, report, compacted}
use Rattle.compaction.specs.Compaction.{Compaction, answered, figures, measured, limited, answer_to, filtered, filtered_to, written, output_at, noted, report_at}
use Rattle.compaction.specs.Calls.{Call, FilteredCall}
use Rattle.list.specs.Refusal.{refuse}

-- What is true of such a call on the list s, bs being its versions with their verdicts: with output length n, k records kept and t reported.
pub record Done (j : Job) (bs : List WithVerdict) (s out table out' table' : List ℕ) (n k t : ℕ) : Type 0 where
  pub count : ℕ
  pub accepted : check_list s ≡ Ok count
  pub length-is : n ≡ length (encode (compacted j bs))
  pub kept-is : k ≡ length (kept j bs)
  pub told_is : t ≡ length (report j bs)
  pub out-room : n ≤ length out
  pub table-room : 4 * t ≤ length table
  pub output : out' ≡ sets out 0 (encode (compacted j bs))
  pub told : table' ≡ sets table 0 (words (report j bs))

-- the numbers of an answer
abbrev numbers : Compaction → List ℕ
numbers (Ok f) = f.length ∷ f.kept ∷ f.reported ∷ []
numbers (Err f) = []

not-refused : {A : Type 0} {n k t : ℕ} {f : Refused} → answered n k t ≡ Err f → A
not-refused p = let z : ◌≡◌ {A = ℕ} 3 0 = ap (λ x. length (numbers x)) p in absurd (omega arith)

module _ (j : Job) (bs : List WithVerdict) (out table : List ℕ) (n k t : ℕ) where
  record Room : Type 0 where
    long : n ≡ length (encode (compacted j bs))
    many : k ≡ length (kept j bs)
    told : t ≡ length (report j bs)
    out-room : n ≤ length out
    table-room : t ≤ words_in table

  room : answered n k t ≡ measured j bs (length out) (words_in table) → Room
  unfolding measured figures pick
  room e = go (ltb (length out) (length (encode (compacted j bs)))) refl (ltb (words_in table) (length (report j bs))) refl e
    where
      go : (a : Bool) → ltb (length out) (length (encode (compacted j bs))) ≡ a → (b : Bool) → ltb (words_in table) (length (report j bs)) ≡ b
          → answered n k t ≡ pick a (refuse NoRoom 0 0)
          (pick b (refuse NoRoom 0 1) (Ok (figures j bs)))
          → Room
      go true p b q e = not-refused e
      go false p true q e = not-refused e
      go false p false q e =
          let f : answered n k t ≡ Ok (figures j bs) = e in
          let g = ap numbers f in
          let long : n ≡ length (encode (compacted j bs)) = ap (λ x. get_or x 0 0) g in
          let told : t ≡ length (report j bs) = ap (λ x. get_or x 2 0) g in
          let h : length (encode (compacted j bs)) ≤ length out = ltb-false _ _ p in
          let i : length (report j bs) ≤ words_in table = ltb-false _ _ q in
          record { long = long; many = ap (λ x. get_or x 1 0) g; told = told; out-room = omega arith; table-room = omega arith }

  within : answered n k t ≡ limited j bs (length out) (words_in table) → (length (encode (compacted j bs)) ≤ list_limit) × (answered n k t ≡ measured j bs (length out) (words_in table))
  unfolding limited pick
  within e = go (ltb list_limit (length (encode (compacted j bs)))) refl e
    where
      go : (a : Bool) → ltb list_limit (length (encode (compacted j bs))) ≡ a → answered n k t ≡ pick a (refuse TooLarge 0 0) (measured j bs (length out) (words_in table))
          → (length (encode (compacted j bs)) ≤ list_limit) × (answered n k t ≡ measured j bs (length out) (words_in table))
      go true p e = not-refused e
      go false p e = (ltb-false _ _ p, e)

  all_done : (s out' table' : List ℕ) (c : ℕ) → check_list s ≡ Ok c → Room → out' ≡ written (answered n k t) j bs out → table' ≡ noted (answered n k t) j bs table
      → Done j bs s out table out' table' n k t
  unfolding written noted words_in
  all_done s out' table' c a r w u = record {
    count = c;
    accepted = a;
    length-is = r.long;
    kept-is = r.many;
    told_is = r.told;
    out-room = r.out-room;
    table-room = omega (arith, r.table-room);
    output = w;
    told = u;
  }

module _ (j : Job) (s out table : List ℕ) (n k t : ℕ) (out' table' : List ℕ) where
  pub done : Call j s out table out' table' (answered n k t) → Done j (unfiltered (versions_of s)) s out table out' table' n k t
  unfolding answer_to output_at report_at on_result
  done c = go (check_list s) refl c.answers
    where
      go : (v : Verdict) → check_list s ≡ v → answered n k t ≡ on_result v (λ count. measured j (unfiltered (versions_of s)) (length out) (words_in table)) Err
          → Done j (unfiltered (versions_of s)) s out table out' table' n k t
      go (Ok m) p e = all_done j (unfiltered (versions_of s)) out table n k t s out' table' m p (room j (unfiltered (versions_of s)) out table n k t e) c.writes c.reports
      go (Err f) p e = not-refused e

-- with a filter, the verdicts were good and the output is within the limit
module _ (j : Job) (q values s out table : List ℕ) (n k t : ℕ) (out' table' : List ℕ) where
  pub done-filtered : FilteredCall j q values s out table out' table' (answered n k t)
      → Done j (filtered q values s) s out table out' table' n k t × (length (encode (compacted j (filtered q values s))) ≤ list_limit)
  unfolding filtered_to on_result pick
  done-filtered c = go (check_list s) refl c.answers
    where
      by : (m : ℕ) → check_list s ≡ Ok m → (g : Bool)
          → answered n k t ≡ pick g (limited j (filtered q values s) (length out) (words_in table)) (refuse BadVerdict 0 0)
          → Done j (filtered q values s) s out table out' table' n k t × (length (encode (compacted j (filtered q values s))) ≤ list_limit)
      by m p true e =
          let w = within j (filtered q values s) out table n k t e in
          (all_done j (filtered q values s) out table n k t s out' table' m p (room j (filtered q values s) out table n k t w.1) c.writes c.reports, w.0)
      by m p false e = not-refused e

      go : (v : Verdict) → check_list s ≡ v
          → answered n k t ≡ on_result v (λ count. pick (eqb (verdicts_in q) count && are_verdicts count q values) (limited j (filtered q values s) (length out) (words_in table)) (refuse BadVerdict 0 0)) Err
          → Done j (filtered q values s) s out table out' table' n k t × (length (encode (compacted j (filtered q values s))) ≤ list_limit)
      go (Ok m) p e = by m p (eqb (verdicts_in q) m && are_verdicts m q values) e
      go (Err f) p e = not-refused e
