-- Each record of an encoded list stands behind those before it, and reads there as its version.
use Rattle.std.specs.Prelude.{Ok}
use Prim.Native.Nat.{ℕ, zero, suc, ◌+◌, ◌-◌, ◌<◌}
use mathlib.Core.Path.{◌≡◌, refl, sym, ap, ◌∙◌}
use mathlib.Core.List.{List, [], ◌∷◌, ◌++◌, append_assoc}
use native.Mathlib.Omega.{arith}
use lib.ListN.{length, take, drop, get_or, length-append, length-drop}
use lib.Seq.{split_at}
use Rattle.list.specs.Limits.{header_size, record_size}
use Rattle.list.specs.Record.{read_at}
use Rattle.list.specs.Version.{Version, record_of, records, encode, Fits, AllFit, Fine, version_at}
use Rattle.list.proofs.Numbers.{after}
use Rattle.list.proofs.Fits.{record_for, reads, holds, length-record}
use Rattle.list.proofs.Encode.{records-stand}

-- where the i-th record starts
unfoldable pub start_of : List Version → ℕ → ℕ
start_of vs i = header_size + length (records (take i vs))

pub records-append : (vs ws : List Version) → records (vs ++ ws) ≡ records vs ++ records ws
unfolding records
records-append [] ws = refl
records-append (v ∷ vs) ws = rw (records-append vs ws) (sym (append_assoc (record_of v) (records vs) (records ws)))

pub fit_at_lem : (vs : List Version) (i : ℕ) (d : Version) → AllFit vs → i < length vs → Fits (get_or vs i d)
unfolding AllFit
fit_at_lem [] i d f h = absurd (omega arith)
fit_at_lem (v ∷ vs) zero d f h = f.0
fit_at_lem (v ∷ vs) (suc i) d f h = fit_at_lem vs i d f.1 (omega arith)

pub records-one : (v : Version) (vs : List Version) → records (v ∷ vs) ≡ record_of v ++ records vs
unfolding records
records-one v vs = refl

-- the i-th record stands at its start
pub stands_at : (vs : List Version) (i : ℕ) (d : Version) → i < length vs
    → drop (start_of vs i) (encode vs) ≡ record_of (get_or vs i d) ++ records (drop (suc i) vs)
unfolding start_of
stands_at vs i d h =
    let e : records vs ≡ records (take i vs) ++ records (get_or vs i d ∷ drop (suc i) vs)
    = ap records (split_at vs i d h) ∙ records-append (take i vs) (get_or vs i d ∷ drop (suc i) vs) in
    after (encode vs) (records (take i vs)) _ header_size (length (records (take i vs))) refl (records-stand vs ∙ e) _ refl
    ∙ records-one (get_or vs i d) (drop (suc i) vs)

module _ (vs : List Version) (f : Fine vs) (i : ℕ) (h : i < length vs) (d : Version) where
  -- the record there reads whole
  pub reads_at : read_at (encode vs) (start_of vs i) ≡ Ok (record_for (start_of vs i) (get_or vs i d))
  reads_at = reads (encode vs) _ (start_of vs i) (get_or vs i d) (fit_at_lem vs i d f.fit h) (stands_at vs i d h)

  -- and holds the i-th version
  pub holds_at : version_at (encode vs) (record_for (start_of vs i) (get_or vs i d)) ≡ get_or vs i d
  holds_at = holds (encode vs) _ (start_of vs i) (get_or vs i d) (fit_at_lem vs i d f.fit h) (stands_at vs i d h)

pub start-in : (vs : List Version) (i : ℕ) (d : Version) → i < length vs → start_of vs i < length (encode vs)
unfolding record_size
start-in vs i d h =
    let a : length (drop (start_of vs i) (encode vs)) ≡ length (encode vs) - start_of vs i = length-drop (start_of vs i) (encode vs) in
    let b = ap length (stands_at vs i d h) ∙ length-append (record_of (get_or vs i d)) _ in
    let c = length-record (get_or vs i d) in
    omega arith
