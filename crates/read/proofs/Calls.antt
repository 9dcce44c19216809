-- DEMAND 2, of real calls: after an opening and a start any mix of steps yields each key in range once, with its newest version, and key and value are that version's; each call enters by its public contract.
use Rattle.std.specs.Prelude.{Result, Ok, is_ok}
use Prim.Native.Nat.{ℕ}
use mathlib.Core.Path.{◌≡◌, refl, sym, ap, ap₂, ◌∙◌}
use mathlib.Core.List.{List, [], ◌∷◌, map, Memᴰ}
use mathlib.Core.Bool.{Bool, true, false}
use mathlib.Core.Option.{Option, Option-elim, none, some}
use Rattle.list.specs.Pick.{pick, on_result}
use Rattle.list.specs.Refusal.{refuse}
use Rattle.list.specs.declared.refusal.Refused.{Refused}
use Rattle.list.proofs.Tests.{never}
use Rattle.list.specs.declared.refusal.Refusal.TheVariants.{LongKey, Unfit}
use Rattle.bundle.specs.Lists.{lists_of}
use Rattle.bundle.proofs.open.Reads as open-reads
use Rattle.merge.specs.Placed.{Placed}
use Rattle.merge.specs.Merged.{everything}
use Rattle.merge.specs.declared.ends.Ends.{Ends}
use Rattle.merge.specs.declared.ends.End.{End}
use Rattle.merge.specs.declared.ends.End.TheVariants.{Front, Back}
use Rattle.read.specs.Bounds.{Bound, bound_of}
use Rattle.read.specs.Entries.{entries}
use Rattle.read.specs.Demand.{Yields}
use Rattle.read.specs.Cursor.{Step, Stepped, ends_of, step_in}
use Rattle.read.specs.Start.{overlong, begun, refused_start, begin_in, start_in}
use Rattle.read.specs.Parts.{fit_at, key_at, value_at}
use Rattle.read.specs.TwoEnds.{taking, step_for}
use Rattle.read.specs.Calls.{Opened, Starts, OneStep, Steps, no_more, then, Asked}
use Rattle.read.specs.declared.begin.Started.{Started}
use Rattle.read.specs.declared.cursor.Cursor.{Cursor}
use Rattle.read.proofs.begin.start.Reads as start-contract
use Rattle.read.proofs.cursor.Cursor.front.Reads as front_reads
use Rattle.read.proofs.cursor.Cursor.back.Reads as back-reads
use Rattle.read.proofs.place.is_fit.Reads as fit-reads
use Rattle.read.proofs.place.value.Reads as value-reads
use Rattle.read.proofs.place.key.Reads as key_reads
use Rattle.read.proofs.Facts.{once, entry-answers, answer-entry}
use Rattle.read.proofs.Opened.{index, lists-ordered}
use Rattle.read.proofs.Read.{Stands, left_of, step-takes, start-reads, entry-fit, entry_key, entry_value}

-- a call of each function is one of those that the theorem speaks of
pub opens : (κs : _) (a : _) (r : _) (x : _) → open-reads.Post κs a r x → (n : ℕ) → r ≡ Ok n → Opened a.0.now a.1.0.now x.1.1.0.now
opens κs a r x p n e = record { given = a.1.1.0.now; count = n; accepted = sym p.0 ∙ e; filled = p.1.0; bytes = p.1.1 }

pub starts : (κs : _) (a : _) (r : _) (x : _) → start-contract.Post κs a r x → r.outcome ≡ Ok tt
    → Starts a.0.bytes.now a.0.lengths.now a.0.index.now (bound_of a.1.0.lower) (bound_of a.1.0.upper) a.1.1.0 r.cursor
unfolding Starts
starts κs a r x p e = sym p ∙ ap (λ (o : Result (Unit {0}) Refused). record { outcome = o; cursor = r.cursor }) e

pub front : (κs : _) (a : _) (r : _) (x : _) → front_reads.Post κs a r x → OneStep a.1.0.bytes.now a.1.0.lengths.now a.1.0.index.now Front a.0.now r x.0.now
front κs a r x p = record { answers = p.0; gives = p.1 }

pub back : (κs : _) (a : _) (r : _) (x : _) → back-reads.Post κs a r x → OneStep a.1.0.bytes.now a.1.0.lengths.now a.1.0.index.now Back a.0.now r x.0.now
back κs a r x p = record { answers = p.0; gives = p.1 }

-- so is a step by value, which gives the cursor that a step on a copy leaves
pub by_value : (b lens t : List ℕ) (end : End) (c : Cursor) (r : Stepped) → r ≡ step_in end b lens t c → OneStep b lens t end c r.step r.cursor
by_value b lens t end c r p = record { answers = ap (λ (x : Stepped). x.step) p; gives = ap (λ (x : Stepped). x.cursor) p }

-- each part handed out, and the yes or no, is one that `Asked` speaks of
pub value : (κs : _) (a : _) (r : _) (x : _) → value-reads.Post κs a r x → r.now ≡ value_at a.0.bytes.now a.0.lengths.now a.0.index.now a.1.0 a.1.1.0
value κs a r x p = p.0

pub key : (κs : _) (a : _) (r : _) (x : _) → key_reads.Post κs a r x → r.now ≡ key_at a.0.bytes.now a.0.lengths.now a.0.index.now a.1.0 a.1.1.0
key κs a r x p = p.0

pub is-fit : (κs : _) (a : _) (r : _) (x : _) → fit-reads.Post κs a r x → r ≡ fit_at a.0.bytes.now a.0.lengths.now a.0.index.now a.1.0 a.1.1.0
is-fit κs a r x p = p

-- a start that was not refused had bounds that are not too long
begun-short : (o : Option Ends) (p q : Bool) (snapshot : ℕ)
    → (on_result (Option-elim o (refuse Unfit 0 0) (λ c. pick p (refuse LongKey 0 0) (pick q (refuse LongKey 0 0) (Ok c)))) (λ c. begun c snapshot) (λ why. refused_start why snapshot)).outcome ≡ Ok tt
    → (p ≡ false) × (q ≡ false)
unfolding Option-elim pick on_result refused_start
begun-short (some c) false false snapshot e = (refl, refl)
begun-short (some c) false true snapshot e = never (sym (ap is_ok e))
begun-short (some c) true q snapshot e = never (sym (ap is_ok e))
begun-short none p q snapshot e = never (sym (ap is_ok e))

short-bounds : (b lens t : List ℕ) (lo hi : Bound) (snapshot : ℕ) (c : Cursor) → Starts b lens t lo hi snapshot c → (overlong lo ≡ false) × (overlong hi ≡ false)
unfolding Starts start_in begin_in
short-bounds b lens t lo hi snapshot c e = begun-short _ _ _ _ (ap (λ (r : Started). r.outcome) e)

-- any mix of steps takes from the two ends of what is left of the first one's cursor
module _ (b lens t : List ℕ) (o : Opened b lens t) where
  abbrev left : Cursor → List Placed
  left c = left_of b lens o.given o.count o.bytes o.accepted c

  mix : (c : Cursor) → Stands b lens o.given o.count o.bytes o.accepted c → (ends : List End) (ss : List Step) → Steps b lens t c ends ss → ss ≡ map step_for (taking ends (left c))
  unfolding taking
  mix c f [] [] no_more = refl
  mix c f (end ∷ ends) (s ∷ ss) (then {d = d} p more) =
      let w = step-takes b lens o.given o.count o.bytes o.accepted end c f in
      let x : d ≡ (step_in end b lens (index b lens o.given o.count o.bytes o.accepted) c).cursor = p.gives ∙ ap (λ y. (step_in end b lens y c).cursor) o.filled in
      ap₂ ◌∷◌ (p.answers ∙ ap (λ y. (step_in end b lens y c).step) o.filled ∙ w.0)
      (mix d (rw x w.2) ends ss more ∙ ap (λ l. map step_for (taking ends l)) (ap left x ∙ w.1))
  mix c f [] (s ∷ ss) x3 = elim x3 [ ]
  mix c f (end ∷ ends) [] x4 = elim x4 [ ]

-- from a start, of the entries
takes : (b lens t : List ℕ) → Opened b lens t → (lo hi : Bound) (snapshot : ℕ) (c : Cursor) → Starts b lens t lo hi snapshot c
    → (ends : List End) (ss : List Step) → Steps b lens t c ends ss → ss ≡ map step_for (taking ends (entries (lists_of b lens) lo hi snapshot))
unfolding Starts begun ends_of
takes b lens t o lo hi snapshot c s ends ss m =
    let u = short-bounds b lens t lo hi snapshot c s in
    let w = start-reads b lens o.given o.count o.bytes o.accepted lo hi snapshot u.0 u.1 in
    let same : c ≡ record { front = w.0.front; back = w.0.back; snapshot = snapshot }
    = ap (λ (r : Started). r.cursor) (sym s ∙ ap (λ x. start_in b lens x lo hi snapshot) o.filled ∙ w.1) in
    mix b lens t o c (rw same w.2) ends ss m ∙ ap (λ l. map step_for (taking ends l)) (rw same w.3)

-- these are what the demand asks for
yields : (b lens t : List ℕ) → Opened b lens t → (lo hi : Bound) (snapshot : ℕ) → Yields (lists_of b lens) lo hi snapshot (entries (lists_of b lens) lo hi snapshot)
yields b lens t o lo hi snapshot =
    let i = lists-ordered b lens o.given o.count o.bytes o.accepted in
    record { once = once (lists_of b lens) i lo hi snapshot; answers = entry-answers (lists_of b lens) i lo hi snapshot; all = answer-entry (lists_of b lens) i lo hi snapshot }

-- the parts at the place of a version of the bundle are its value and its key, and the place is fit
parts : (b lens t : List ℕ) → Opened b lens t → (e : Placed) → Memᴰ e (everything (lists_of b lens))
    → (value key : List ℕ) (fit : Bool) → Asked b lens t e.list e.number value key fit
    → (value ≡ e.version.value) × (key ≡ e.version.key) × (fit ≡ true)
parts b lens t o e m value key fit a = (
  a.value-is ∙ ap (λ x. value_at b lens x e.list e.number) o.filled ∙ entry_value b lens o.given o.count o.bytes o.accepted e m,
  a.key-is ∙ ap (λ x. key_at b lens x e.list e.number) o.filled ∙ entry_key b lens o.given o.count o.bytes o.accepted e m,
  a.fit_is ∙ ap (λ x. fit_at b lens x e.list e.number) o.filled ∙ entry-fit b lens o.given o.count o.bytes o.accepted e m,
)

-- From either end and in any mix of steps, a read yields each key in range once, with its newest version strictly below the snapshot, tombstoned keys left out; and key and value asked of an entry's place are its version's.
pub demand-2 : (b lens t : List ℕ) → Opened b lens t → (lo hi : Bound) (snapshot : ℕ) (c : Cursor) → Starts b lens t lo hi snapshot c
    → (es : List Placed) × Yields (lists_of b lens) lo hi snapshot es
    × ((ends : List End) (ss : List Step) → Steps b lens t c ends ss → ss ≡ map step_for (taking ends es))
    × ((e : Placed) → Memᴰ e es → (value key : List ℕ) (fit : Bool) → Asked b lens t e.list e.number value key fit
    → (value ≡ e.version.value) × (key ≡ e.version.key) × (fit ≡ true))
demand-2 b lens t o lo hi snapshot c s =
    let y = yields b lens t o lo hi snapshot in
    (entries (lists_of b lens) lo hi snapshot, y, takes b lens t o lo hi snapshot c s, λ e m. parts b lens t o e (y.answers e m).newest.listed)
