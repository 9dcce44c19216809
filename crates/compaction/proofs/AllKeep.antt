-- Keys whose verdicts are all keep, P naming some of them: the verdict on a record of such a key is keep, and of the rest of the list the same holds.
use Prim.Native.Nat.{ℕ}
use mathlib.Core.Path.{◌≡◌, refl}
use mathlib.Core.List.{List, [], ◌∷◌}
use Rattle.list.proofs.OfKey.{is_key}
use Rattle.compaction.specs.Fate.{WithVerdict, Keep}
use Rattle.compaction.specs.Read.{AllKeep}
use Rattle.compaction.proofs.Kept.{Plain}

abbrev pub Holds : (List ℕ → Type 0) → List WithVerdict → Type 0
Holds P bs = (k : List ℕ) → P k → AllKeep k bs

pub keep-here : (P : List ℕ → Type 0) (a : WithVerdict) (bs : List WithVerdict) → Holds P (a ∷ bs) → P a.version.key → a.verdict ≡ Keep
unfolding AllKeep
keep-here P a bs h p = (h a.version.key p).0 (is_key a.version.key a.version refl)

pub keep-on : (P : List ℕ → Type 0) (a : WithVerdict) (bs : List WithVerdict) → Holds P (a ∷ bs) → Holds P bs
unfolding AllKeep
keep-on P a bs h k p = (h k p).1

-- where every verdict is keep, those on any key are
pub plain-holds : (P : List ℕ → Type 0) (bs : List WithVerdict) → Plain bs → Holds P bs
unfolding AllKeep Plain
plain-holds P [] a k p = tt
plain-holds P (b ∷ bs) a k p = (λ e. a.0, plain-holds P bs a.1 k p)
