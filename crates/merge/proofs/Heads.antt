-- A source's next record, read by the code, is what the definition reads: its parts lie in the bundle where they lie in the list, behind the list's start.
use mathlib.Core.List.{List}
use mathlib.Core.Bool.{Bool, true, false, cond}
use lib.Dec.{leb, ltb}
use lib.ListN.{length, take, drop, get_or, length-take}
use mathlib.Core.Path.{refl, sym, ap, ap₂, ◌≡◌, ◌∙◌}
use native.Mathlib.Omega.{arith}
use lib.Seq.{get_or-drop, take-length}
use Rattle.std.proofs.lemmas.List.{drop-drop, length-drop}
use Prim.Native.Nat.{ℕ, zero, suc, ◌*◌, ◌+◌, ◌-◌, ◌≤◌}
use Rattle.std.specs.Prelude.{Ok, Err, Some, None}
use Rattle.std.proofs.lemmas.Option.{none-some}
use Rattle.list.proofs.Checking.{broken-whole}
use Rattle.list.specs.declared.refusal.Refusal.{Refusal}
use Rattle.list.specs.declared.refusal.Refusal.TheVariants.{Truncated}
use Rattle.list.specs.declared.record.Record.{Record}
use Rattle.list.specs.Record.{Read, whole_at, key_of, value_of}
use Rattle.list.specs.Version.{version_at}
use Rattle.list.specs.Field.{le_at, word_at}
use Rattle.list.specs.Pick.{pick, on_result}
use Rattle.list.specs.Private.{rest_size, record_at, kind_at, version_by}
use Rattle.list.proofs.Behind.{part_by}
use Rattle.list.proofs.Whole.{whole-inside}
use Rattle.list.specs.Limits.{record_size}
use Rattle.bundle.specs.Look.{place_in}
use Rattle.bundle.specs.declared.look.Bundle.{Bundle}
use Rattle.bundle.specs.declared.look.Span.{Span}
use mathlib.Core.Option.{Option, Option-elim, none, some}
use Rattle.merge.specs.Placed.{Placed}
use Rattle.merge.specs.Merge.{Nothing, Found, Torn}
use Rattle.merge.specs.Private.{look_by, next_by, place_at}
use Rattle.merge.specs.declared.ends.End.{End}
use Rattle.merge.specs.declared.ends.Left.{Left}

-- the bytes from a place on, as the code takes them
abbrev rest : List ℕ → ℕ → List ℕ
rest b m = take (length b - m) (drop m b)

rest-is : (b : List ℕ) (m : ℕ) → rest b m ≡ drop m b
rest-is b m = rw (← length-drop m b) (take-length (drop m b))

-- a version whose key stands first in what is left of some bytes
le-behind : (b : List ℕ) (m n at : ℕ) → le_at (drop m b) at n ≡ le_at b (m + at) n
unfolding le_at
le-behind b m zero at = refl
le-behind b m (suc n) at =
    let e : m + (at + 1) ≡ m + at + 1 = omega arith in
    ap₂ (λ x y. x + 256 * y) (get_or-drop m b at 0) (le-behind b m n (at + 1) ∙ ap (λ j. le_at b j n) e)

version-behind : (b : List ℕ) (m k : ℕ) → version_by (drop m b) 0 k ≡ version_by b m k
unfolding version_by version_at record_at kind_at key_of value_of
version-behind b m k =
    let at : (n : ℕ) → m + (0 + k + n) ≡ m + k + n = λ n. omega arith in
    let start : m + (0 + k) ≡ m + k = omega arith in
    let seqno : le_at (drop m b) (0 + k) 8 ≡ le_at b (m + k) 8 = le-behind b m 8 (0 + k) ∙ ap (λ j. le_at b j 8) start in
    let size : le_at (drop m b) (0 + k + 9) 4 ≡ le_at b (m + k + 9) 4 = le-behind b m 4 (0 + k + 9) ∙ ap (λ j. le_at b j 4) (at 9) in
    let tag : get_or (drop m b) (0 + k + 8) 0 ≡ get_or b (m + k + 8) 0 = get_or-drop m b (0 + k + 8) 0 ∙ ap (λ j. get_or b j 0) (at 8) in
    let value : drop (0 + k + 13) (drop m b) ≡ drop (m + k + 13) b = drop-drop (0 + k + 13) m b ∙ ap (λ j. drop j b) (at 13) in
    rw (seqno, size, tag, value) refl

pub place-whole : (b : List ℕ) (start len at : ℕ) (e : Record) → place_in b start len at ≡ Ok e → whole_at (take len (drop start b)) (at - start) ≡ Ok e
unfolding place_in
place-whole b start len at e h = go (leb start at) h
  where
    go : (t : Bool) → pick t (whole_at (take len (drop start b)) (at - start)) (Err Truncated) ≡ Ok e → whole_at (take len (drop start b)) (at - start) ≡ Ok e
    go true p = unfold pick in p
    go false p = unfold pick in broken-whole p

-- record i of list k, which lies at a span
module _ (b : Bundle) (s : Span) (k i : ℕ) (r : Read) (read : r ≡ place_in b.bytes.now s.start (s.end - s.start) (word_at b.index.now (s.base + i))) where
  pub read-torn : (why : Refusal) → r ≡ Err why → look_by b s k i ≡ none
  unfolding look_by on_result
  read-torn why e = rw (sym read ∙ e)

  module _ (e : Record) (whole : r ≡ Ok e) (lies : (s.start ≤ s.end) × (s.end ≤ length b.bytes.now)) where
    reads_whole : whole_at (take (s.end - s.start) (drop s.start b.bytes.now)) (word_at b.index.now (s.base + i) - s.start) ≡ Ok e
    reads_whole = place-whole b.bytes.now s.start (s.end - s.start) _ e (sym read ∙ whole)

    fits : s.start + (s.end - s.start) ≤ length b.bytes.now
    fits = omega (arith, lies.0, lies.1)

    pub parts-inside : s.start + e.key + e.klen + rest_size ≤ s.end
    unfolding record_size
    parts-inside =
        let w = whole-inside (take (s.end - s.start) (drop s.start b.bytes.now)) _ e reads_whole in
        omega (arith, length-take (s.end - s.start) (drop s.start b.bytes.now), w.key-at, w.next-at, w.next-in, lies.0)

    pub rest-holds : e.klen + rest_size ≤ length (rest b.bytes.now (s.start + e.key))
    rest-holds = rw rest-is (omega (arith, parts-inside, lies.1, length-drop (s.start + e.key) b.bytes.now))

    pub read-found : look_by b s k i ≡ some (record { version = version_by (rest b.bytes.now (s.start + e.key)) 0 e.klen; list = k; number = i })
    unfolding look_by on_result
    read-found =
        rw (sym read ∙ whole, rest-is, version-behind b.bytes.now (s.start + e.key) e.klen)
        (ap some (ap (λ v. record { version = v; list = k; number = i }) (part_by b.bytes.now s.start (s.end - s.start) _ e reads_whole fits)))

-- what a source has next, by whether it has any left and by what is read there
module _ (e : End) (look : ℕ → Option Placed) (k : ℕ) (left : Left) where
  pub next-nothing : ltb left.front left.back ≡ false → Nothing ≡ next_by e look k left
  unfolding next_by pick
  next-nothing h = rw h

  module _ (h : ltb left.front left.back ≡ true) (i : ℕ) (q : i ≡ place_at e left) where
    pub next-torn : look i ≡ none → Torn ≡ next_by e look k left
    unfolding next_by pick Option-elim
    next-torn l = rw (h, ← q, l)

    pub next-found : (x : Placed) → look i ≡ some x → Found (record { source = k; placed = x }) ≡ next_by e look k left
    unfolding next_by pick Option-elim
    next-found x l = rw (h, ← q, l)

pub cond_none : {A : Type 0} (t : Bool) (x : A) → cond t (Some x) None ≡ None → t ≡ false
cond_none true x p = absurd (none-some x (sym p))
cond_none false x p = refl
