-- Accepted bytes are the encoding of the versions that they hold, both ways, because writing undoes reading record by record: the law between the two levels.
use Rattle.std.specs.Prelude.{Ok}
use Prim.Native.Nat.{ℕ, zero, suc, ◌+◌, ◌≤◌}
use mathlib.Core.Path.{◌≡◌, refl, sym, ap, ap₂, ◌∙◌}
use mathlib.Core.List.{List, ◌++◌, append_assoc, map}
use native.Mathlib.Omega.{arith}
use lib.ListN.{length, take, drop, drop_of_length-le}
use Rattle.list.specs.Limits.{header_size}
use Rattle.list.specs.Field.{le_at, le_bytes}
use Rattle.list.specs.Record.{no_record}
use Rattle.list.specs.Check.{check_from, count_in, check_list}
use Rattle.list.specs.Version.{Version, record_of, records, header, encode, Bytes, AllFit, Above, InOrder, Fine, version_at, records_at, versions_of}
use Rattle.list.proofs.Numbers.{cut, le_write}
use Rattle.list.proofs.Ordered.{above-in-order}
use Rattle.list.proofs.Checking.{next-rises}
use Rattle.list.proofs.Accepted.{turn, ended, counted, opened}
use Rattle.list.proofs.Restores.{read_fits, read-stands}
use Rattle.list.proofs.Encode.{order_is, fine-few, versions-encode, encode-accepted}
use Rattle.list.specs.declared.record.Record.{Record}
use Rattle.list.specs.Pick.{on_result}

-- the versions of n records from at
abbrev held : ℕ → List ℕ → ℕ → List Version
held n s at = map (version_at s) (records_at n s at)

-- what n accepted records hold
record Held (n : ℕ) (s : List ℕ) (at : ℕ) (p : Record) : Type 0 where
  stand : drop at s ≡ records (held n s at)
  fit : AllFit (held n s at)
  above : Above (version_at s p) (held n s at)
  all : length (held n s at) ≡ n

holds-all : (n : ℕ) (s : List ℕ) (at : ℕ) (p : Record) (done c : ℕ) → Bytes s → check_from n s at p done ≡ Ok c → Held n s at p
unfolding records_at on_result records AllFit Above
holds-all zero s at p done c b h =
    let l = ended s at p done c h in
    let k : length s ≤ at = omega arith in
    record { stand = drop_of_length-le s k; fit = tt; above = tt; all = refl }
holds-all (suc n) s at p done c b h =
    let t = turn n s at p done c h in
    let r = next-rises s p at t.e t.next in
    let i = holds-all n s t.e.next t.e (done + 1) c b t.rest in
    record {
      stand = rw r.reads (read-stands s b at t.e r.reads ∙ ap (λ (l : List ℕ). record_of (version_at s t.e) ++ l) i.stand);
      fit = rw r.reads (read_fits s b at t.e r.reads, i.fit);
      above = rw r.reads (sym (order_is s p t.e) ∙ r.rises, i.above);
      all = rw r.reads (ap suc i.all);
    }

-- bytes to versions
module _ (s : List ℕ) (n : ℕ) (b : Bytes s) (h : check_list s ≡ Ok n) where
  all_held : Held (count_in s) s header_size no_record
  all_held = holds-all (count_in s) s header_size no_record 0 n b (opened s n h).rest

  pub accepted-count : length (versions_of s) ≡ n
  unfolding versions_of
  accepted-count =
      let a = counted (count_in s) s header_size no_record 0 n (opened s n h).rest in
      let l = all_held.all in
      omega arith

  pub accepted-encode : s ≡ encode (versions_of s)
  unfolding count_in header_size versions_of encode header
  accepted-encode =
      let o = (opened s n h).header in
      let vs = held (count_in s) s header_size in
      let l : length vs ≡ count_in s = all_held.all in
      let a0 : s ≡ take 3 s ++ drop 3 s = cut s 0 3 3 refl in
      let a1 : drop 3 s ≡ le_bytes (le_at s 3 2) 2 ++ drop 5 s = le_write 2 s 3 5 refl b (omega (arith, o.long)) in
      let a2 : drop 5 s ≡ le_bytes (count_in s) 4 ++ drop 9 s = le_write 4 s 5 9 refl b o.long in
      let c1 : drop 3 s ≡ le_bytes 1 2 ++ drop 5 s = rw o.version at a1 in
      let c2 : drop 5 s ≡ le_bytes (length vs) 4 ++ records vs = rw l (a2 ∙ ap (λ (x : List ℕ). le_bytes (count_in s) 4 ++ x) all_held.stand) in
      a0 ∙ ap₂ ◌++◌ o.marked (c1 ∙ ap (λ (x : List ℕ). le_bytes 1 2 ++ x) c2)
      ∙ simp append_assoc refl

  fit_all : AllFit (versions_of s)
  unfolding versions_of
  fit_all = all_held.fit

  order-all : InOrder (versions_of s)
  unfolding versions_of
  order-all = above-in-order _ _ all_held.above

  pub accepted-fine : Fine (versions_of s)
  accepted-fine =
      record {
        fit = fit_all;
        in_order = order-all;
        small = rw (← accepted-encode) (opened s n h).header.small;
      }

  -- at most 65,535 records
  pub accepted-few : n ≤ 65535
  accepted-few = let a = fine-few (versions_of s) accepted-fine in let l = accepted-count in omega arith

  -- one meaning
  pub accepted-once : (vs : List Version) → Fine vs → s ≡ encode vs → vs ≡ versions_of s
  accepted-once vs f e = sym (versions-encode vs f) ∙ ap versions_of (sym e)

-- the law in one: bytes are accepted with n records exactly when they are the encoding of n fine versions
pub accepted-is : (s : List ℕ) (n : ℕ) → Bytes s → check_list s ≡ Ok n → (vs : List Version) × (s ≡ encode vs) × Fine vs × (length vs ≡ n)
accepted-is s n b h = (versions_of s, accepted-encode s n b h, accepted-fine s n b h, accepted-count s n b h)

pub is-accepted : (s : List ℕ) (n : ℕ) → (vs : List Version) × (s ≡ encode vs) × Fine vs × (length vs ≡ n) → check_list s ≡ Ok n
is-accepted s n x = ap check_list x.1 ∙ encode-accepted x.0 x.2 ∙ ap Ok x.3
