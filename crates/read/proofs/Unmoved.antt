-- A step that gives nothing, or is refused, leaves the cursor as it was given, on any bytes and any cursor, because only a found entry comes with another.
use Prim.Native.Nat.{ℕ}
use mathlib.Core.Path.{◌≡◌, refl, sym, ap, ◌∙◌}
use mathlib.Core.List.{List}
use Rattle.std.specs.Prelude.{Some, None, Ok, Err, is_ok}
use Rattle.std.specs.Result.{result_ok}
use Rattle.std.proofs.lemmas.Option.{same_Some, none-some}
use Rattle.list.proofs.Tests.{never}
use Rattle.list.specs.declared.refusal.Refused.{Refused}
use Rattle.read.specs.Cursor.{stepped_of, step_in}
use Rattle.merge.specs.Merge.{Reply, Nothing, Found, Torn}
use Rattle.merge.specs.declared.ends.Ends.{Ends}
use Rattle.read.specs.Mvcc.{Entry}
use Rattle.read.specs.declared.cursor.Cursor.{Cursor}
use Rattle.read.specs.declared.cursor.Entry as code
use Rattle.merge.specs.declared.ends.End.{End}

still : (o : Reply (Entry Ends)) (c : Cursor) → ((x : code.Entry) → (stepped_of o c).step ≡ Ok (Some x) → ⊥) → (stepped_of o c).cursor ≡ c
unfolding stepped_of
still Nothing c n = refl
still (Found x) c n = absurd (n _ refl)
still Torn c n = refl

module _ (e : End) (b lens t : List ℕ) (c : Cursor) where
  pub not-found-stays : ((x : code.Entry) → (step_in e b lens t c).step ≡ Ok (Some x) → ⊥) → (step_in e b lens t c).cursor ≡ c
  unfolding step_in
  not-found-stays n = still _ c n

  pub nothing-stays : (step_in e b lens t c).step ≡ Ok None → (step_in e b lens t c).cursor ≡ c
  nothing-stays q = not-found-stays (λ x z. none-some x (same_Some _ _ (ap result_ok (sym q ∙ z))))

  pub refused-stays : (f : Refused) → (step_in e b lens t c).step ≡ Err f → (step_in e b lens t c).cursor ≡ c
  refused-stays f q = not-found-stays (λ x z. never (sym (ap is_ok (sym q ∙ z))))
