-- An accepted list's records follow each other to its end, because the checker goes on only from a record that is whole and in order.
use Rattle.std.specs.Prelude.{Ok, Err, Result}
use Prim.Native.Nat.{ℕ, zero, suc, ◌+◌, ◌*◌, ◌≤◌}
use mathlib.Core.Path.{◌≡◌, refl, sym, ap, ◌∙◌, subst}
use mathlib.Core.List.{List}
use mathlib.Core.Bool.{Bool, true, false}
use native.Mathlib.Omega.{arith}
use borrow.Author.Tests.{eqb-true, eqb-false, ltb-false}
use lib.Dec.{eqb}
use lib.ListN.{length, take}
use Rattle.list.specs.Limits.{header_size, record_size, list_limit}
use Rattle.list.specs.Field.{le_at}
use Rattle.list.specs.Record.{no_record}
use Rattle.list.specs.Check.{next_at, check_from, mark, count_in, check_header, check_list}
use Rattle.list.proofs.Tests.{never}
use Rattle.list.proofs.Picks.{by-pick}
use Rattle.list.proofs.Strict.{told-one}
use Rattle.list.proofs.Whole.{inside}
use Rattle.list.proofs.Header.{list-no, list-yes}
use Rattle.list.proofs.Checking.{next-rises, ends, trails, stops, goes_on}
use Rattle.list.specs.declared.refusal.Refusal.{Refusal}
use Rattle.list.specs.declared.record.Record.{Record}
use Rattle.list.specs.Record.{Read}
use Rattle.list.specs.Check.{Verdict}
use Rattle.list.specs.Pick.{on_result}
use Rattle.list.specs.Refusal.{refuse}

pub refused-accepted : {A : Type 0} {k : Refusal} {l r c : ℕ} → refuse k l r ≡ Ok c → A
unfolding on_result
refused-accepted p = never (ap (λ v. on_result v (λ c. false) (λ _. true)) p)

pub same_count : {v : Verdict} {b c : ℕ} → v ≡ Ok b → v ≡ Ok c → c ≡ b
unfolding on_result
same_count p q = ap (λ v. on_result v (λ c. c) (λ _. 0)) (sym q ∙ p)

-- a turn of an accepted list
pub record Turn (n : ℕ) (s : List ℕ) (at : ℕ) (p : Record) (done c : ℕ) : Type 0 where
  pub e : Record
  pub next : next_at s p at ≡ Ok e
  pub rest : check_from n s e.next e (done + 1) ≡ Ok c

pub turn : (n : ℕ) (s : List ℕ) (at : ℕ) (p : Record) (done c : ℕ) → check_from (suc n) s at p done ≡ Ok c → Turn n s at p done c
turn n s at p done c h = go (next_at s p at) refl
  where
    go : (x : Read) → next_at s p at ≡ x → Turn n s at p done c
    go (Ok e) r = record { e = e; next = r; rest = sym (goes_on s at p done (suc n) n refl e r) ∙ h }
    go (Err k) r = refused-accepted (sym (stops s at p done (suc n) n refl k r) ∙ h)

-- its end is its last record's end
pub ended : (s : List ℕ) (at : ℕ) (p : Record) (done c : ℕ) → check_from 0 s at p done ≡ Ok c → (c ≡ done) × (at ≡ length s)
ended s at p done c h = go (eqb at (length s)) refl
  where
    go : (b : Bool) → eqb at (length s) ≡ b → (c ≡ done) × (at ≡ length s)
    go true e = (same_count (ends s at p done (eqb-true _ _ e)) h, eqb-true _ _ e)
    go false e = refused-accepted (sym (trails s at p done (eqb-false _ _ e)) ∙ h)

-- how many records it has, and what they take at the least
pub counted : (n : ℕ) (s : List ℕ) (at : ℕ) (p : Record) (done c : ℕ) → check_from n s at p done ≡ Ok c → (c ≡ done + n) × (at + record_size * n ≤ length s)
unfolding record_size
counted zero s at p done c h = let e = ended s at p done c h in (omega arith, omega arith)
counted (suc n) s at p done c h =
    let t = turn n s at p done c h in
    let i = inside s at t.e (next-rises s p at t.e t.next).reads in
    let r = counted n s t.e.next t.e (done + 1) c t.rest in
    (omega arith, omega arith)

-- what its header is
pub record Header (s : List ℕ) : Type 0 where
  pub small : length s ≤ list_limit
  pub long : header_size ≤ length s
  pub marked : take 3 s ≡ mark
  pub version : le_at s 3 2 ≡ 1

data Headed (s : List ℕ) : Result ℕ Refusal → Type 0 where
  no_header : {why : Refusal} → Headed s (Err why)
  a-header : Header s → Headed s (Ok (count_in s))

headed : (s : List ℕ) → Headed s (check_header s)
unfolding check_header
headed s =
    by-pick (Headed s) _ _ _ (λ _. no_header)
    (λ a. by-pick (Headed s) _ _ _ (λ _. no_header)
    (λ b. by-pick (Headed s) _ _ _
    (λ m. by-pick (Headed s) _ _ _
    (λ v. a-header (record { small = ltb-false _ _ a; long = ltb-false _ _ b; marked = told-one _ _ m; version = eqb-true _ _ v }))
    (λ _. no_header))
    (λ _. no_header)))

header_is : (s : List ℕ) (n : ℕ) → Headed s (Ok n) → Header s × (count_in s ≡ n)
header_is s n (a-header h) = (h, refl)

pub header_of : (s : List ℕ) (n : ℕ) → check_header s ≡ Ok n → Header s × (count_in s ≡ n)
header_of s n h = header_is s n (subst (Headed s) h (headed s))

pub record Opened (s : List ℕ) (c : ℕ) : Type 0 where
  pub header : Header s
  pub rest : check_from (count_in s) s header_size no_record 0 ≡ Ok c

pub opened : (s : List ℕ) (c : ℕ) → check_list s ≡ Ok c → Opened s c
opened s c h = go (check_header s) refl
  where
    go : (v : Result ℕ Refusal) → check_header s ≡ v → Opened s c
    go (Ok n) e = let o = header_of s n e in record { header = o.0; rest = rw o.1 (list-yes s _ refl n e _ refl ∙ h) }
    go (Err why) e = refused-accepted (list-no s _ refl why e ∙ h)

-- a header, and for each record what it has beside key and value
pub few : (s : List ℕ) (c : ℕ) → check_list s ≡ Ok c → header_size + record_size * c ≤ length s
unfolding record_size
few s c h = let e = counted (count_in s) s header_size no_record 0 c (opened s c h).rest in omega arith

-- a list is judged to have as many records as its header says
pub header-count : (s : List ℕ) (c : ℕ) → check_list s ≡ Ok c → count_in s ≡ c
header-count s c h = let e = counted (count_in s) s header_size no_record 0 c (opened s c h).rest in omega arith
