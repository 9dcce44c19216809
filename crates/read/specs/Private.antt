-- Only private contracts and proofs cite these: a reader needs none of them.
use Rattle.std.specs.Prelude.{ℕ, zero, suc, ◌<◌, ◌≡◌, List, Bool, true, false, not, ◌&&◌, ◌||◌, ltb, eqb, get_or, Option, None, Some, Result, Ok, Err, is_some, is_none}
use Rattle.std.proofs.Math.Option as math
use Rattle.list.specs.Pick.{pick}
use Rattle.list.specs.Field.{words_in}
use Rattle.bundle.specs.Index.{count_at}
use Rattle.merge.specs.Placed.{Placed}
use Rattle.merge.specs.Merge.{Found}
use Rattle.merge.specs.Plain.{Head, left, ahead, plain}
use Rattle.merge.specs.declared.ends.Ends.{Ends}
use Rattle.merge.specs.Reader.{reader}
use Rattle.merge.specs.Private.{Fitting, placed_at, head_of, twins}
use Rattle.merge.specs.declared.ends.End.{End}
use Rattle.merge.specs.declared.seen.Seen.{Seen}
use Rattle.merge.specs.declared.head.Torn.{Torn}
use Rattle.read.specs.Bounds.{Bound, from_lower, to_upper}
use Rattle.read.specs.Entries.{visible}
use Rattle.read.specs.Mvcc.{counts, Entry, settle, drain}
use Rattle.read.specs.declared.mvcc_stream.Drained.{Drained}

-- What the code holds of a key: its entry, if it has one yet.
unfoldable pub held_of : Option Seen → math.Option Placed
held_of None = math.none
held_of (Some x) = math.some (placed_at x)

-- An entry that was found, and the ends past its key.
unfoldable pub entry_at : Ends → Seen → Entry Ends
entry_at c x = record { version = placed_at x; rest = c }

-- Whether a source is the one to be asked, if there is one.
unfoldable pub is_asked : Option ℕ → ℕ → Bool
is_asked None k = false
is_asked (Some j) k = eqb k j

-- A key is over and has an entry: one is held, and no source is to be asked.
unfoldable pub is_over : Drained → Bool
is_over r = is_some r.held && is_none r.asks

-- The record x is next, whether or not with a twin, and of the entry's key, if an entry is held.
pub record Led (b lens t : List ℕ) (e : End) (c : Ends) (held : Option Seen) (x : Seen) (twin : Bool) : Type 0 where
  pub fits : Fitting (words_in lens) (count_at b lens) c
  pub leads : ahead (words_in lens) e (reader b lens t) c ≡ Found (head_of x)
  pub twin-is : twin ≡ twins (words_in lens) e (reader b lens t) c
  pub of-key : counts (held_of held) (placed_at x) ≡ false

-- What is next has the entry's key, if an entry is held and what is next isn't in a source that is to be asked.
unfoldable pub Sure : (b lens t : List ℕ) → End → math.Option Placed → Ends → Option ℕ → Type 0
Sure b lens t e h c asks = (x : Head) → ahead (words_in lens) e (reader b lens t) c ≡ Found x → is_asked asks x.source ≡ false → counts h x.placed ≡ false

-- Records of a key were passed, from the ends c to the ends d: what the definition makes of the rest is what it made of the whole.
pub record Drains (b lens t : List ℕ) (e : End) (snapshot : ℕ) (held : Option Seen) (c : Ends) (r : Drained) (d : Ends) : Type 0 where
  pub fits : Fitting (words_in lens) (count_at b lens) d
  pub falls : left (words_in lens) d < left (words_in lens) c
  pub goes : pick (is_over r) (settle (held_of r.held) d)
      (drain (left (words_in lens) d) (plain (words_in lens) (reader b lens t)) e (visible snapshot) (held_of r.held) d)
      ≡ drain (left (words_in lens) c) (plain (words_in lens) (reader b lens t)) e (visible snapshot) (held_of held) c
  pub sure : is_over r ≡ false → Sure b lens t e (held_of r.held) d r.asks

-- The ends of the first m sources are 0, but for those below first.
unfoldable pub empty_to : ℕ → ℕ → List ℕ → List ℕ → Bool
empty_to zero first f g = true
empty_to (suc m) first f g = (ltb m first || (eqb (get_or f m 0) 0 && eqb (get_or g m 0) 0)) && empty_to m first f g

-- The start of one source in the shape of its loop: m records are still to be read, from record i on; f is the first that the lower bound admits (i where
-- none is yet), b is just past the last that the upper admits (0 where none is yet). The source's two ends; or one of its records isn't whole.
unfoldable pub scan : ℕ → (ℕ → math.Option Placed) → Bound → Bound → ℕ → ℕ → ℕ → Result (ℕ × ℕ) Torn
scan zero look lo hi i f b = Ok (f, pick (ltb b f) f b)
scan (suc m) look lo hi i f b =
    math.Option-elim (look i) (Err (record {}))
    (λ x. scan m look lo hi (suc i) (pick (eqb f i && not (from_lower lo x.version.key)) (suc i) f) (pick (to_upper hi x.version.key) (suc i) b))
