-- Calls, one after the other, as demand 2 speaks of them. Each says what the call's contract promises, and nothing more.
use Rattle.std.specs.Prelude.{ℕ, ◌≡◌, List, [], ◌∷◌, Bool, Ok}
use Rattle.list.specs.Version.{Bytes}
use Rattle.bundle.specs.Index.{open_bundle, indexed}
use Rattle.read.specs.Bounds.{Bound}
use Rattle.read.specs.Cursor.{Step, step_in}
use Rattle.read.specs.Start.{start_in}
use Rattle.read.specs.Parts.{fit_at, value_at, key_at}
use Rattle.read.specs.declared.cursor.Cursor.{Cursor}
use Rattle.merge.specs.declared.ends.End.{End}

-- An opening that accepted the bundle b with the lengths lens, and left the index t where another was given.
pub record Opened (b lens t : List ℕ) : Type 0 where
  pub given : List ℕ
  pub count : ℕ
  pub accepted : open_bundle b lens given ≡ Ok count
  pub filled : t ≡ indexed (open_bundle b lens given) b lens given
  pub bytes : Bytes b

-- A start within the bounds lo and hi at a snapshot, which was not refused and gave the cursor c.
unfoldable pub Starts : List ℕ → List ℕ → List ℕ → Bound → Bound → ℕ → Cursor → Type 0
Starts b lens t lo hi snapshot c = start_in b lens t lo hi snapshot ≡ record { outcome = Ok tt; cursor = c }

-- A step at one end of the cursor c, which answered s and left the cursor d.
pub record OneStep (b lens t : List ℕ) (end : End) (c : Cursor) (s : Step) (d : Cursor) : Type 0 where
  pub answers : s ≡ (step_in end b lens t c).step
  pub gives : d ≡ (step_in end b lens t c).cursor

-- Steps at these ends and their answers, the first on the cursor c, each later one on the cursor that the one before left.
pub data Steps (b lens t : List ℕ) : Cursor → List End → List Step → Type 0 where
  no_more : {c : Cursor} → Steps b lens t c [] []
  then : {end : End} {c d : Cursor} {s : Step} {ends : List End} {ss : List Step}
      → OneStep b lens t end c s d → Steps b lens t d ends ss → Steps b lens t c (end ∷ ends) (s ∷ ss)

-- Calls of `value`, `key` and `is_fit` at record i of list k: the two parts, and the yes or no.
pub record Asked (b lens t : List ℕ) (k i : ℕ) (value key : List ℕ) (fit : Bool) : Type 0 where
  pub value-is : value ≡ value_at b lens t k i
  pub key-is : key ≡ key_at b lens t k i
  pub fit_is : fit ≡ fit_at b lens t k i
