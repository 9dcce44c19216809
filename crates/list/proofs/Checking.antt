-- The checker's loop is its definition, turn by turn: what is left to judge comes to the same verdict as the whole.
use Rattle.std.specs.Prelude.{Ok, Err}
use Prim.Native.Nat.{ℕ, suc, ◌+◌, ◌-◌, ◌≤◌, ◌<◌}
use mathlib.Core.Path.{◌≡◌, refl, sym, ap, ◌∙◌}
use mathlib.Core.List.{List}
use mathlib.Core.Bool.{true, false}
use native.Mathlib.Omega.{arith}
use borrow.Author.Tests.{eq-eqb, ne_eqb}
use lib.ListN.{length}
use Rattle.list.specs.Pick.{pick, on_result}
use Rattle.list.specs.Order.{is_less}
use Rattle.list.specs.Record.{read_at}
use Rattle.list.specs.Check.{order, next_at, check_from}
use Rattle.list.proofs.Tests.{never}
use Rattle.std.specs.declared.cmp.Ordering.{Ordering}
use Rattle.std.specs.declared.cmp.Ordering.TheVariants.{Less, Equal, Greater}
use Rattle.list.specs.declared.refusal.Refusal.{Refusal}
use Rattle.list.specs.declared.refusal.Refusal.TheVariants.{Disorder, Excess}
use Rattle.list.specs.declared.record.Record.{Record}
use Rattle.list.specs.Record.{Read}
use Rattle.list.specs.Check.{Verdict}
use Rattle.list.specs.Refusal.{refuse}

-- the next record, by what reading it answered
module _ (s : List ℕ) (p : Record) (at : ℕ) (r : Read) (a : r ≡ read_at s at) where
  pub next-broken : (k : Refusal) → r ≡ Err k → r ≡ next_at s p at
  unfolding next_at on_result
  next-broken k b = b ∙ rw (← a, b)

  module _ (e : Record) (b : r ≡ Ok e) (o : Ordering) (f : o ≡ order s p e) where
    pub next-less : o ≡ Less → Ok e ≡ next_at s p at
    unfolding next_at on_result pick is_less
    next-less g = rw (← a, b, ← f, g)

    pub next-equal : o ≡ Equal → Err Disorder ≡ next_at s p at
    unfolding next_at on_result pick is_less
    next-equal g = rw (← a, b, ← f, g)

    pub next-greater : o ≡ Greater → Err Disorder ≡ next_at s p at
    unfolding next_at on_result pick is_less
    next-greater g = rw (← a, b, ← f, g)

-- a next record is whole and above the one before it
pub record Rises (s : List ℕ) (p : Record) (at : ℕ) (e : Record) : Type 0 where
  pub reads : read_at s at ≡ Ok e
  pub rises : order s p e ≡ Less

pub broken-whole : {A : Type 0} {k : Refusal} {e : Record} → Err k ≡ Ok e → A
unfolding on_result
broken-whole p = never (ap (λ r. on_result r (λ e. false) (λ k. true)) p)

same-record : {r : Read} {d e : Record} → Ok d ≡ r → r ≡ Ok e → d ≡ e
unfolding on_result
same-record {d = d} p q = ap (λ r. on_result r (λ e. e) (λ k. d)) (p ∙ q)

pub next-rises : (s : List ℕ) (p : Record) (at : ℕ) (e : Record) → next_at s p at ≡ Ok e → Rises s p at e
next-rises s p at e h = go (read_at s at) refl
  where
    by_order : (d : Record) → read_at s at ≡ Ok d → (o : Ordering) → order s p d ≡ o → Rises s p at e
    by_order d r Less f =
        let q : d ≡ e = same-record (next-less s p at _ refl d r _ refl f) h in
        record { reads = r ∙ ap Ok q; rises = ap (order s p) (sym q) ∙ f }
    by_order d r Equal f = broken-whole (next-equal s p at _ refl d r _ refl f ∙ h)
    by_order d r Greater f = broken-whole (next-greater s p at _ refl d r _ refl f ∙ h)

    go : (x : Read) → read_at s at ≡ x → Rises s p at e
    go (Ok d) r = by_order d r (order s p d) refl
    go (Err k) r = broken-whole (sym r ∙ next-broken s p at _ refl k r ∙ h)

module _ (s : List ℕ) (at : ℕ) (p : Record) (done : ℕ) where
  pub ends : at ≡ length s → check_from 0 s at p done ≡ Ok done
  unfolding check_from pick
  ends h = simp (eq-eqb _ _ h)

  pub trails : (at ≡ length s → ⊥) → check_from 0 s at p done ≡ refuse Excess 0 done
  unfolding check_from pick
  trails h = simp (ne_eqb _ _ h)

  module _ (n m : ℕ) (more : n ≡ suc m) where
    pub stops : (k : Refusal) → next_at s p at ≡ Err k → check_from n s at p done ≡ refuse k 0 done
    unfolding check_from on_result
    stops k h = rw more (rw h)

    pub goes_on : (e : Record) → next_at s p at ≡ Ok e → check_from n s at p done ≡ check_from m s e.next e (done + 1)
    unfolding check_from on_result
    goes_on e h = rw more (rw h)

-- the same as the loop asks it: v is what the whole comes to, n the records left
module _ (s : List ℕ) (at : ℕ) (p : Record) (done n : ℕ) (v : Verdict) where
  pub t-ends : at ≡ length s → n ≤ 0 → check_from n s at p done ≡ v → Ok done ≡ v
  t-ends h z i = let e : n ≡ 0 = omega arith in sym (ends s at p done h) ∙ (rw e at i)

  pub t-trails : (at ≡ length s → ⊥) → n ≤ 0 → check_from n s at p done ≡ v → refuse Excess 0 done ≡ v
  t-trails h z i = let e : n ≡ 0 = omega arith in sym (trails s at p done h) ∙ (rw e at i)

  module _ (r : Read) (a : r ≡ next_at s p at) (more : 0 < n) where
    pub t-stops : (k : Refusal) → r ≡ Err k → check_from n s at p done ≡ v → refuse k 0 done ≡ v
    t-stops k b i = sym (stops s at p done n (n - 1) (omega arith) k (sym a ∙ b)) ∙ i

    pub t-on : (e : Record) → r ≡ Ok e → check_from n s at p done ≡ v → check_from (n - 1) s e.next e (done + 1) ≡ v
    t-on e b i = sym (goes_on s at p done n (n - 1) (omega arith) e (sym a ∙ b)) ∙ i
