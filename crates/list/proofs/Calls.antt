-- The law between the two levels, of any call of `check_list`: it accepts with n records exactly the encodings of n fine versions, because what is lent to it are bytes.
use Rattle.std.specs.Prelude.{Ok}
use Prim.Native.Nat.{ℕ}
use mathlib.Core.Path.{◌≡◌, sym, ◌∙◌}
use mathlib.Core.List.{List}
use mathlib.Core.Logic.{◌↔◌}
use contract.Lifetimes.{Lfts}
use lib.ListN.{length}
use Rattle.list.specs.Version.{Version, encode, Fine}
use Rattle.list.proofs.checker.check_list.Reads as reads
use Rattle.list.proofs.Meaning.{accepted-is, is-accepted}

pub check-accepts : (κs : Lfts 1) (a : _) (r : _) (x : _) → reads.Post κs a r x
    → (n : ℕ) → (r ≡ Ok n) ↔ ((vs : List Version) × (a.0.now ≡ encode vs) × Fine vs × (length vs ≡ n))
check-accepts κs a r x p n = (λ e. accepted-is _ n p.1 (sym p.0 ∙ e), λ v. p.0 ∙ is-accepted _ n v)
