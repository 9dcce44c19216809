-- The loop over the lists is its definition, turn by turn, and an accepted bundle has every list accepted, since it goes on only from an accepted one.
use Rattle.std.specs.Prelude.{Ok, Err, MatchResult}
use Prim.Native.Nat.{ℕ, zero, suc, ◌+◌, ◌-◌, ◌≤◌, ◌<◌}
use mathlib.Core.Path.{◌≡◌, refl, sym, ap, ◌∙◌, subst}
use mathlib.Core.List.{List}
use native.Mathlib.Omega.{arith}
use native.Mathlib.Nat.{add-zero, zero-add}
use borrow.Author.Tests.{le-leb, lt-ltb, le-ltb, eq-eqb, ne_eqb, ltb-false, eqb-true}
use lib.Dec.{leb}
use lib.ListN.{length}
use Rattle.list.specs.Limits.{header_size, record_size}
use Rattle.list.specs.Pick.{pick, on_result}
use Rattle.list.specs.Field.{words_in, word_at}
use Rattle.list.specs.Check.{count_in, check_list}
use Rattle.list.proofs.Picks.{by-pick}
use Rattle.list.proofs.Accepted.{refused-accepted, same_count, few, header-count}
use Rattle.bundle.specs.Bundle.{bundle_limit, start_at, list_at, judge_from, judge_bundle}
use Rattle.bundle.specs.Index.{count_at}
use Rattle.bundle.specs.Look.{base_at, lengths_cover, covers}
use Rattle.bundle.proofs.Starts.{start-next, base-next, list-in, list_length}
use Rattle.bundle.proofs.Looking.{headed-all}
use Rattle.list.specs.declared.refusal.Refusal.{Refusal}
use Rattle.list.specs.declared.refusal.Refused.{Refused}
use Rattle.list.specs.declared.refusal.Refusal.TheVariants.{Excess, TooLarge}
use Rattle.list.specs.Check.{Verdict}
use Rattle.list.specs.Refusal.{refuse}

module _ (b lens : List ℕ) (k n m total : ℕ) (more : n ≡ suc m) where
  pub goes_on : (c : ℕ) → check_list (list_at b lens k) ≡ Ok c → judge_from n b lens k total ≡ judge_from m b lens (k + 1) (total + c)
  unfolding judge_from on_result
  goes_on c h = rw more (rw h)

  pub stops : (f : Refused) → check_list (list_at b lens k) ≡ Err f → judge_from n b lens k total ≡ refuse f.refusal k f.«record»
  unfolding judge_from on_result
  stops f h = rw more (rw h)

pub ends : (b lens : List ℕ) (k n total : ℕ) → n ≡ 0 → judge_from n b lens k total ≡ Ok total
unfolding judge_from
ends b lens k n total e = rw e

-- a verdict of which an error alone was mapped
pub same-ok : (v : Verdict) (n : ℕ) → MatchResult v (λ x. ◌≡◌ {A = Verdict} (Ok n) (Ok x)) (λ _. ⊥) → v ≡ Ok n
same-ok (Ok x) n m = sym m
same-ok (Err e) n m = absurd m

pub mapped-err : (v : Verdict) (f : Refused) (Q : Refused → Type 0) → MatchResult v (λ x. ◌≡◌ {A = Verdict} (Err f) (Ok x)) Q → (e : Refused) × (v ≡ Err e) × Q e
mapped-err (Ok x) f Q m = refused-accepted m
mapped-err (Err e) f Q m = (e, refl, m)

-- one list judged
module _ (b lens : List ℕ) (k : ℕ) (s : List ℕ) (p : s ≡ list_at b lens k) (v : Verdict) (e : v ≡ check_list s) where
  here : check_list (list_at b lens k) ≡ v
  here = sym (e ∙ ap check_list p)

  pub list-few : (n : ℕ) → start_at lens n ≡ length b → k < n → (c : ℕ) → v ≡ Ok c → (start_at lens k + c ≤ start_at lens (k + 1)) × (start_at lens (k + 1) ≤ length b)
  unfolding header_size record_size
  list-few n h l c f =
      let m = few (list_at b lens k) c (here ∙ f) in
      let i = list-in lens k n l in
      (omega (arith, list_length b lens k n h l, start-next lens k), omega (arith, start-next lens k))

  -- a turn: w is what the whole comes to
  module _ (n total : ℕ) (more : k < n) (w : Verdict) (i : judge_from (n - k) b lens k total ≡ w) where
    pub judge-on : (c : ℕ) → v ≡ Ok c → judge_from (n - (k + 1)) b lens (k + 1) (total + c) ≡ w
    judge-on c f = sym (goes_on b lens k (n - k) (n - (k + 1)) total (omega arith) c (here ∙ f)) ∙ i

    pub judge-stops : (f : Refused) → v ≡ Err f → refuse f.refusal k f.«record» ≡ w
    judge-stops f q = sym (stops b lens k (n - k) (n - (k + 1)) total (omega arith) f (here ∙ q)) ∙ i

-- the tests before the lists, n being their number
module _ (b lens : List ℕ) (n : ℕ) (a : n ≡ words_in lens) where
  pub too_many : bundle_limit < n → refuse TooLarge 0 0 ≡ judge_bundle b lens
  unfolding judge_bundle pick
  too_many h = rw (← a) (simp (lt-ltb _ _ h))

  module _ (h : n ≤ bundle_limit) (end : ℕ) (e : end ≡ start_at lens (words_in lens)) where
    pub bad_sum : (end ≡ length b → ⊥) → refuse Excess 0 0 ≡ judge_bundle b lens
    unfolding judge_bundle pick
    bad_sum q = rw (← e, ← a) (simp (le-ltb _ _ h, ne_eqb end (length b) q))

    pub in-turn : end ≡ length b → (v : Verdict) → v ≡ judge_from (words_in lens) b lens 0 0 → v ≡ judge_bundle b lens
    unfolding judge_bundle pick
    in-turn q v g = g ∙ rw (← e, ← a) (simp (le-ltb _ _ h, eq-eqb end (length b) q))

-- what an accepted bundle's lists are
module _ (b lens : List ℕ) where
  counted : (k c : ℕ) → check_list (list_at b lens k) ≡ Ok c → count_at b lens k ≡ c
  unfolding count_in count_at
  counted k c h = header-count (list_at b lens k) c h

  pub record Turn (n k total c : ℕ) : Type 0 where
    pub held : ℕ
    pub judged : check_list (list_at b lens k) ≡ Ok held
    pub rest : judge_from n b lens (k + 1) (total + held) ≡ Ok c

  turn : (n k total c : ℕ) → judge_from (suc n) b lens k total ≡ Ok c → Turn n k total c
  turn n k total c h = go (check_list (list_at b lens k)) refl
    where
      go : (v : Verdict) → check_list (list_at b lens k) ≡ v → Turn n k total c
      go (Ok m) e = record { held = m; judged = e; rest = sym (goes_on b lens k (suc n) n total refl m e) ∙ h }
      go (Err f) e = refused-accepted (sym (stops b lens k (suc n) n total refl f e) ∙ h)

  -- list k + i is accepted, with the count of its header
  each-accepted : (n k total c : ℕ) → judge_from n b lens k total ≡ Ok c → (i : ℕ) → i < n
      → check_list (list_at b lens (k + i)) ≡ Ok (count_at b lens (k + i))
  each-accepted zero k total c h i l = absurd (omega arith)
  each-accepted (suc n) k total c h zero l =
      let t = turn n k total c h in
      rw (add-zero k) (t.judged ∙ ap Ok (sym (counted k t.held t.judged)))
  each-accepted (suc n) k total c h (suc i) l =
      let t = turn n k total c h in
      let e : k + suc i ≡ k + 1 + i = omega arith in
      rw e (each-accepted n (k + 1) (total + t.held) c t.rest i (omega arith))

  -- the total is the counts of all headers
  all-counted : (n k total c : ℕ) → judge_from n b lens k total ≡ Ok c → total + base_at b lens (k + n) ≡ c + base_at b lens k
  all-counted zero k total c h =
      let e = same_count (ends b lens k 0 total refl) h in
      rw (add-zero k) (omega arith)
  all-counted (suc n) k total c h =
      let t = turn n k total c h in
      let e : k + suc n ≡ k + 1 + n = omega arith in
      let r = all-counted n (k + 1) (total + t.held) c t.rest in
      let m = counted k t.held t.judged in
      rw e (omega (arith, base-next b lens k))

data Judged (b lens : List ℕ) : Verdict → Type 0 where
  no-bundle : {why : Refusal} {l r : ℕ} → Judged b lens (refuse why l r)
  a-bundle : {v : Verdict} → words_in lens ≤ bundle_limit → start_at lens (words_in lens) ≡ length b → judge_from (words_in lens) b lens 0 0 ≡ v → Judged b lens v

judged : (b lens : List ℕ) → Judged b lens (judge_bundle b lens)
unfolding judge_bundle
judged b lens =
    by-pick (Judged b lens) _ _ _ (λ _. no-bundle)
    (λ p. by-pick (Judged b lens) _ _ _ (λ q. a-bundle (ltb-false _ _ p) (eqb-true _ _ q) refl) (λ _. no-bundle))

-- what an accepted bundle is
pub record Good (b lens : List ℕ) (c : ℕ) : Type 0 where
  pub few-lists : words_in lens ≤ bundle_limit
  pub add-up : start_at lens (words_in lens) ≡ length b
  pub each : (k : ℕ) → k < words_in lens → check_list (list_at b lens k) ≡ Ok (count_at b lens k)
  pub total : base_at b lens (words_in lens) ≡ c

take-apart : (b lens : List ℕ) (c : ℕ) → Judged b lens (Ok c) → Good b lens c
unfolding base_at
take-apart b lens c (a-bundle f s e) =
    record {
      few-lists = f;
      add-up = s;
      each = λ k h. rw (zero-add k) at (each-accepted b lens (words_in lens) 0 0 c e k h);
      total = let r = all-counted b lens (words_in lens) 0 0 c e in let z = ap (base_at b lens) (zero-add (words_in lens)) in omega arith;
    }

pub good : (b lens : List ℕ) (c : ℕ) → judge_bundle b lens ≡ Ok c → Good b lens c
good b lens c h = take-apart b lens c (subst (Judged b lens) h (judged b lens))

-- an accepted bundle's lengths cover it, so an index does that has room for its records
pub judged-covers : (b lens t : List ℕ) (c : ℕ) → judge_bundle b lens ≡ Ok c → covers b lens t ≡ leb c (words_in t)
unfolding covers lengths_cover header_size record_size
judged-covers b lens t c h =
    let g = good b lens c h in
    let headers : (k : ℕ) → k < words_in lens → header_size ≤ word_at lens k =
    λ k l. omega (arith, few (list_at b lens k) (count_at b lens k) (g.each k l), list_length b lens k (words_in lens) g.add-up l) in
    rw g.total (simp (le-leb _ _ g.few-lists, headed-all (words_in lens) lens headers, eq-eqb _ _ g.add-up))
