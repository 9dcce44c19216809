-- What a bundle's layout says, and where there is none.
use mathlib.Core.Path.{◌≡◌, sym, ap, ◌∙◌}
use mathlib.Core.Bool.{false}
use Prim.Native.Nat.{ℕ, ◌≤◌, ◌<◌}
use Rattle.std.specs.Prelude.{Option, Some, None, Result, Ok, Err, IfSome, is_some, ok_or}
use Rattle.std.specs.Result.{result_ok, result_err}
use Rattle.std.proofs.lemmas.Option.{same_Some, none-some}
use Rattle.list.specs.Field.{words_in}
use Rattle.list.specs.declared.refusal.Refusal.{Refusal}
use Rattle.list.specs.declared.refusal.Refusal.TheVariants.{Unfit}
use Rattle.bundle.specs.Bundle.{bundle_limit}
use Rattle.bundle.specs.Look.{covers}
use Rattle.bundle.specs.declared.layout.Layout.{Layout}
use Rattle.bundle.specs.Private.{span_at}
use Rattle.bundle.specs.declared.look.Bundle.{Bundle}
use Rattle.bundle.specs.declared.look.Span.{Span}
use Rattle.bundle.proofs.Fences.{Fenced, fenced}
use Rattle.bundle.proofs.Looking.{few-lists}

pub few : (l : Layout) → words_in l.bundle.lengths.now ≤ bundle_limit
few l = few-lists _ _ _ l.covered

pub laid-at : (l : Layout) (k : ℕ) → k < words_in l.bundle.lengths.now → (s : Span) → s ≡ span_at l.bundle.bytes.now l.bundle.lengths.now k
    → Fenced l.bundle.bytes.now l.bundle.lengths.now l.bundle.index.now k s
laid-at l = fenced _ _ _ l.covered

module _ (b : Bundle) (o : Option Layout) (covering : is_some o ≡ covers b.bytes.now b.lengths.now b.index.now) (same : IfSome o (λ l. l.bundle ≡ b))
    (r : Result Layout Refusal) (asked : r ≡ ok_or o Unfit) where
  pub not-laid : (e : Refusal) → r ≡ Err e → (e ≡ Unfit) × (covers b.bytes.now b.lengths.now b.index.now ≡ false)
  not-laid e q = go o (sym q ∙ asked) covering
    where
      go : (o : Option Layout) → Err e ≡ ok_or o Unfit → is_some o ≡ covers b.bytes.now b.lengths.now b.index.now → (e ≡ Unfit) × (covers b.bytes.now b.lengths.now b.index.now ≡ false)
      go None p k = (same_Some _ _ (ap result_err p), sym k)
      go (Some l) p k = absurd (none-some l (ap result_ok p))

  pub laid-out : (l : Layout) → r ≡ Ok l → l.bundle ≡ b
  laid-out l q = go o (sym q ∙ asked) same
    where
      go : (o : Option Layout) → Ok l ≡ ok_or o Unfit → IfSome o (λ m. m.bundle ≡ b) → l.bundle ≡ b
      go None p s = absurd (none-some l (ap result_ok (sym p)))
      go (Some m) p s = ap (λ (x : Layout). x.bundle) (same_Some l m (ap result_ok p)) ∙ s
