-- Each answer about an image is read off its versions, or is its refusal, because the one pass counts what they hold.
use Rattle.std.specs.Prelude.{Result, Ok, Err, Some, None, eqb}
use Rattle.std.specs.Result.{IsErrAnd}
use Rattle.std.proofs.lemmas.Result.{err_from_is_err_and}
use Prim.Native.Nat.{ℕ}
use mathlib.Core.Path.{◌≡◌, sym, ap, ◌∙◌}
use mathlib.Core.List.{List}
use borrow.Author.Tests.{eq-eqb, ne_eqb}
use lib.ListN.{length}
use Rattle.list.specs.Pick.{pick, on_result}
use Rattle.list.specs.Version.{Version}
use Rattle.list.specs.declared.refusal.Refused.{Refused}
use Rattle.memtable.specs.Figures.{size_of, highest_of}
use Rattle.memtable.specs.Image.{Image}
use Rattle.memtable.specs.Answers.{size, len, is_empty, highest_seqno}

-- what a `?` returns: the error, as it was converted
pub exits : {A E : Type 0} (r : Result A E) (e : E) → IsErrAnd r (λ y. y ≡ e) → r ≡ Err e
exits r e h = let p = err_from_is_err_and r h in p.1 ∙ ap Err p.2

module _ (i : Image) (f : Refused) (e : Err f ≡ i) where
  pub size-refused : Err f ≡ size i
  unfolding size on_result
  size-refused = rw (← e)

  pub len-refused : Err f ≡ len i
  unfolding len on_result
  len-refused = rw (← e)

  pub empty-refused : Err f ≡ is_empty i
  unfolding is_empty on_result
  empty-refused = rw (← e)

  pub highest-refused : Err f ≡ highest_seqno i
  unfolding highest_seqno on_result
  highest-refused = rw (← e)

module _ (i : Image) (vs : List Version) (e : i ≡ Ok vs) where
  pub size_is : (n : ℕ) → n ≡ size_of vs → Ok n ≡ size i
  unfolding size on_result
  size_is n h = rw (e, h)

  pub len_is : (n : ℕ) → n ≡ length vs → Ok n ≡ len i
  unfolding len on_result
  len_is n h = rw (e, h)

-- c is the number of versions held
module _ (i : Image) (vs : List Version) (e : i ≡ Ok vs) (c : ℕ) (f : c ≡ length vs) where
  pub empty_is : Ok (eqb c 0) ≡ is_empty i
  unfolding is_empty on_result
  empty_is = rw (e, f)

  pub has-none : c ≡ 0 → Ok None ≡ highest_seqno i
  unfolding highest_seqno on_result pick
  has-none h = rw e (simp (eq-eqb (length vs) 0 (sym f ∙ h)))

  pub has_some : (c ≡ 0 → ⊥) → (n : ℕ) → n ≡ highest_of vs → Ok (Some n) ≡ highest_seqno i
  unfolding highest_seqno on_result pick
  has_some h n g = rw (e, g) (simp (ne_eqb (length vs) 0 (λ z. h (f ∙ z))))
