-- The turns of the code of the start: what each record makes of the rest of the definition is what was left of it, and so with each source.
use native.Mathlib.Numerals.{add-one}
use lib.ListN.{take, drop, length, length-take, length-drop, set}
use native.Mathlib.Omega.{arith}
use mathlib.Core.List.{List, ◌∷◌, []}
use mathlib.Core.Bool.{not, ◌&&◌, ◌||◌, Bool, true, false}
use mathlib.Core.Option.{Option, Option-elim, none, some}
use lib.Dec.{ltb, eqb}
use borrow.Author.Tests.{lt-ltb, le-ltb}
use mathlib.Core.Path.{refl, sym, ap, ap₂, ◌≡◌, ◌∙◌, subst}
use Prim.Native.Nat.{ℕ, suc, ◌-◌, ◌<◌, zero, ◌+◌, ◌≤◌, max}
use Rattle.std.specs.Prelude.{Result, Ok, Err, is_ok}
use Rattle.std.specs.Result.{result_ok}
use Rattle.std.proofs.lemmas.Option.{same_Some}
use Rattle.list.specs.declared.refusal.Refused.{Refused}
use Rattle.list.specs.declared.refusal.Refusal.{Refusal}
use Rattle.list.specs.declared.refusal.Refusal.TheVariants.{LongKey, Unfit}
use Rattle.list.specs.declared.record.Record.{Record}
use Rattle.list.specs.Refusal.{refused, refuse}
use Rattle.list.specs.Record.{Read, key_of}
use Rattle.list.specs.Version.{version_at}
use Rattle.list.specs.Check.{count_in}
use Rattle.list.proofs.Whole.{whole-inside}
use Rattle.list.specs.Limits.{header_size}
use Rattle.list.specs.Field.{words_in, word_at}
use Rattle.list.specs.Pick.{pick, on_result}
use Rattle.list.proofs.Tests.{never}
use Rattle.list.proofs.Strict.{Three, eq, gt, lt, three}
use Rattle.bundle.specs.Bundle.{list_at}
use Rattle.bundle.specs.Index.{count_at}
use Rattle.bundle.specs.Look.{covers, place_in}
use Rattle.bundle.specs.declared.look.Span.{Span}
use Rattle.merge.specs.Placed.{Placed}
use Rattle.merge.specs.declared.ends.Ends.{Ends}
use Rattle.merge.specs.declared.head.Torn.{Torn}
use Rattle.merge.specs.Reader.{reader}
use Rattle.bundle.proofs.Fences.{Fenced}
use Rattle.merge.proofs.Heads.{place-whole}
use Rattle.read.specs.Bounds.{Bound, from_lower, to_upper}
use Rattle.read.specs.Start.{recorded, first_from, end_to, with_ends, start_to, nothing_left, overlong, begin_in}
use Rattle.read.specs.Private.{scan}
use Rattle.read.proofs.Scanning.{ends_for, scanned}
use Rattle.read.proofs.Stretch.{end_is, first-in, last-in}

-- the larger of two, by a test
larger : (l f : ℕ) → max l f ≡ pick (ltb l f) f l
unfolding pick
larger l f = go (three l f)
  where
    go : Three l f → max l f ≡ pick (ltb l f) f l
    go (lt h) = rw (lt-ltb l f h) (omega arith)
    go (eq h) = let m : f ≤ l = omega arith in rw (le-ltb l f m) (omega arith)
    go (gt h) = let m : f ≤ l = omega arith in rw (le-ltb l f m) (omega arith)

-- one source's records, read in turn
module _ (look : ℕ → Option Placed) (lo hi : Bound) where
  scan-some : (m d i f l : ℕ) (w : Placed) → m ≡ suc d → look i ≡ some w
      → scan m look lo hi i f l ≡ scan d look lo hi (suc i) (pick (eqb f i && not (from_lower lo w.version.key)) (suc i) f) (pick (to_upper hi w.version.key) (suc i) l)
  unfolding scan Option-elim
  scan-some m d i f l w e q = rw (e, q)

  scan-none : (m d i f l : ℕ) → m ≡ suc d → look i ≡ none → scan m look lo hi i f l ≡ Err (record {})
  unfolding scan Option-elim
  scan-none m d i f l e q = rw (e, q)

  pub scan-over : (m i f l : ℕ) (v : Result (ℕ × ℕ) Torn) → m ≡ 0 → scan m look lo hi i f l ≡ v → (b : ℕ) → b ≡ max l f → Ok (f, b) ≡ v
  unfolding scan
  scan-over m i f l v z inv b e = ap (λ x. Ok (f, x)) (e ∙ larger l f) ∙ (rw z at inv)

-- how a list is laid out
module _ (b lens t : List ℕ) (k : ℕ) (s : Span) (fen : Fenced b lens t k s) where
  -- how many records a list has, by its header
  pub scan-count : (n : ℕ) → n ≡ count_in (take (s.end - s.start) (drop s.start b)) → n ≡ count_at b lens k
  unfolding count_at
  scan-count n e = e ∙ ap count_in fen.list

  pub scan-room : header_size ≤ length (take (s.end - s.start) (drop s.start b))
  scan-room = omega (arith, length-take (s.end - s.start) (drop s.start b), length-drop s.start b, fen.headed, fen.inside)

module _ (b lens t : List ℕ) (k : ℕ) (s : Span) (fen : Fenced b lens t k s) (i : ℕ) (r : Read) (says : r ≡ place_in b s.start (s.end - s.start) (word_at t (s.base + i))) where
  -- a record's key lies in its list
  pub scan-key : (e : Record) → r ≡ Ok e → e.key + e.klen ≤ length (take (s.end - s.start) (drop s.start b))
  scan-key e q = (whole-inside (take (s.end - s.start) (drop s.start b)) _ e (place-whole b s.start (s.end - s.start) _ e (sym says ∙ q))).key_in

  module _ (lo hi : Bound) (m f l : ℕ) (v : Result (ℕ × ℕ) Torn) (more : i < m) (inv : scan (m - i) (reader b lens t k) lo hi i f l ≡ v) where
    -- a record isn't whole
    pub scan-torn : (why : Refusal) → r ≡ Err why → Err (record {}) ≡ v
    unfolding reader on_result
    scan-torn why z =
        let looked : reader b lens t k i ≡ none = rw (sym (says ∙ fen.looks i) ∙ z) in
        sym (scan-none (reader b lens t k) lo hi (m - i) (m - i - 1) i f l (omega arith) looked) ∙ inv

    -- a record more
    pub scan-goes : (e : Record) → r ≡ Ok e → (key : List ℕ) → key ≡ key_of (take (s.end - s.start) (drop s.start b)) e → (f' l' : ℕ)
        → f' ≡ pick (eqb f i && not (from_lower lo key)) (suc i) f
        → l' ≡ pick (to_upper hi key) (suc i) l
        → scan (m - (i + 1)) (reader b lens t k) lo hi (i + 1) f' l' ≡ v
    unfolding reader on_result version_at
    scan-goes e q key o f' l' p x =
        let n : m - (i + 1) ≡ m - i - 1 = omega arith in
        let a : key ≡ key_of (list_at b lens k) e = o ∙ ap (λ y. key_of y e) fen.list in
        let looked : reader b lens t k i ≡ some (record { version = version_at (list_at b lens k) e; list = k; number = i }) = rw (sym (says ∙ fen.looks i) ∙ q) in
        rw (n, p, x, a, add-one) (sym (scan-some (reader b lens t k) lo hi (m - i) (m - i - 1) i f l (record { version = version_at (list_at b lens k) e; list = k; number = i }) (omega arith) looked) ∙ inv)

-- as many versions as records were read
data Long (m : ℕ) : Option (List Placed) → Type 0 where
  long : {vs : List Placed} → length vs ≡ m → Long m (some vs)
  torn : Long m none

recorded-long : (m : ℕ) (look : ℕ → Option Placed) (i : ℕ) → Long m (recorded m look i)
unfolding recorded
recorded-long zero look i = long {vs = []} refl
recorded-long (suc m) look i = go (look i) (recorded m look (suc i)) (recorded-long m look (suc i))
  where
    go : (l : Option Placed) (r : Option (List Placed)) → Long m r → Long (suc m) (Option-elim l none (λ x. Option-elim r none (λ xs. some (x ∷ xs))))
    go (some v) (some vs) (long e) = unfold Option-elim in long {vs = v ∷ vs} (ap suc e)
    go (some v) none torn = unfold Option-elim in torn
    go none r l = unfold Option-elim in torn

-- the ends of a source, and what they make of the cursor's
data Ended (lo hi : Bound) (m : ℕ) (r : Option (List Placed)) : Result (ℕ × ℕ) Torn → Type 0 where
  ended : {f b : ℕ} (vs : List Placed) → r ≡ some vs → f ≡ first_from lo vs → b ≡ end_to lo hi vs → f ≤ m → b ≤ m → Ended lo hi m r (Ok (f, b))
  broke : r ≡ none → Ended lo hi m r (Err (record {}))

ended_so : (lo hi : Bound) (m : ℕ) (r : Option (List Placed)) → Long m r → Ended lo hi m r (ends_for lo hi r)
ended_so lo hi m (some vs) (long e) = unfold ends_for in
    ended {f = first_from lo vs} {b = end_to lo hi vs} vs refl refl refl (omega (arith, first-in lo vs)) (omega (arith, first-in lo vs, last-in hi vs, end_is lo hi vs))
ended_so lo hi m none torn = unfold ends_for in broke refl

module _ (count : ℕ → ℕ) (look : ℕ → ℕ → Option Placed) (lo hi : Bound) (c : Ends) where
  pub start_none : start_to 0 count look lo hi c ≡ some c
  unfolding start_to
  start_none = refl

  start-ends : (k : ℕ) (d : Ends) → start_to k count look lo hi c ≡ some d → (vs : List Placed) → recorded (count k) (look k) 0 ≡ some vs
      → start_to (k + 1) count look lo hi c ≡ some (with_ends d k (first_from lo vs) (end_to lo hi vs))
  unfolding start_to Option-elim
  start-ends k d e vs h = rw (add-one, e, h)

  start-torn : (k : ℕ) (d : Ends) → start_to k count look lo hi c ≡ some d → recorded (count k) (look k) 0 ≡ none → start_to (k + 1) count look lo hi c ≡ none
  unfolding start_to Option-elim
  start-torn k d e h = rw (add-one, e, h)

  start-unable : (k m : ℕ) → k ≤ m → start_to k count look lo hi c ≡ none → start_to m count look lo hi c ≡ none
  start-unable k zero l e = let z : k ≡ 0 = omega arith in ap (λ j. start_to j count look lo hi c) (sym z) ∙ e
  start-unable k (suc m) l e = go (three k (suc m)) (start-unable k m)
    where
      go : Three k (suc m) → (k ≤ m → start_to k count look lo hi c ≡ none → start_to m count look lo hi c ≡ none) → start_to (suc m) count look lo hi c ≡ none
      go (lt i) ih = unfold start_to Option-elim in rw (ih (omega arith) e)
      go (eq i) ih = ap (λ j. start_to j count look lo hi c) (sym i) ∙ e
      go (gt i) ih = absurd (omega arith)

-- the two answers differ, and two ends that are told are one
err-ok : {A E B : Type 0} {x : A} {e : E} → Err e ≡ Ok x → B
err-ok p = never (sym (ap is_ok p))

same-ok : {A E : Type 0} {x y : A} → ◌≡◌ {A = Result A E} (Ok x) (Ok y) → x ≡ y
same-ok p = same_Some _ _ (ap result_ok p)

ended-scan : (look : ℕ → Option Placed) (lo hi : Bound) (m : ℕ) (x : Result (ℕ × ℕ) Torn) → x ≡ scan m look lo hi 0 0 0 → Ended lo hi m (recorded m look 0) x
ended-scan look lo hi m x says = subst (Ended lo hi m (recorded m look 0)) (sym (says ∙ scanned lo hi look m)) (ended_so lo hi m _ (recorded-long m look 0))

-- no more are told than were read
pub scan-inside : (look : ℕ → Option Placed) (lo hi : Bound) (m f b : ℕ) → Ok (f, b) ≡ scan m look lo hi 0 0 0 → (f ≤ m) × (b ≤ m)
scan-inside look lo hi m f b says = go (ended-scan look lo hi m (Ok (f, b)) says)
  where
    go : Ended lo hi m (recorded m look 0) (Ok (f, b)) → (f ≤ m) × (b ≤ m)
    go (ended vs a p q i j) = (i, j)

module _ (b lens t : List ℕ) (k : ℕ) (lo hi : Bound) (x : Result (ℕ × ℕ) Torn) (says : x ≡ scan (count_at b lens k) (reader b lens t k) lo hi 0 0 0)
    (c d : Ends) (inv : start_to k (count_at b lens) (reader b lens t) lo hi c ≡ some d) where
  -- a source's ends
  pub list-ends : (p : ℕ × ℕ) → x ≡ Ok p → start_to (k + 1) (count_at b lens) (reader b lens t) lo hi c ≡ some (record { front = set d.front k p.0; back = set d.back k p.1 })
  unfolding with_ends
  list-ends p e = go x e (ended-scan (reader b lens t k) lo hi (count_at b lens k) x says)
    where
      go : (s : Result (ℕ × ℕ) Torn) → s ≡ Ok p → Ended lo hi (count_at b lens k) (recorded (count_at b lens k) (reader b lens t k) 0) s
          → start_to (k + 1) (count_at b lens) (reader b lens t) lo hi c ≡ some (record { front = set d.front k p.0; back = set d.back k p.1 })
      go (Ok (u, v)) z (ended vs a m n i j) =
          let y = same-ok z in
          let q : u ≡ p.0 = ap (λ (w : ℕ × ℕ). w.0) y in
          let r : v ≡ p.1 = ap (λ (w : ℕ × ℕ). w.1) y in
          start-ends (count_at b lens) (reader b lens t) lo hi c k d inv vs a ∙ ap₂ (λ x y. some (with_ends d k x y)) (sym m ∙ q) (sym n ∙ r)
      go (Err why) z w = err-ok z

  -- a record isn't whole
  pub list-torn : (why : Torn) → x ≡ Err why → k < words_in lens → none ≡ start_to (words_in lens) (count_at b lens) (reader b lens t) lo hi c
  list-torn why e h = sym (start-unable (count_at b lens) (reader b lens t) lo hi c (k + 1) (words_in lens) (omega arith) (go x e (ended-scan (reader b lens t k) lo hi (count_at b lens k) x says)))
    where
      go : (s : Result (ℕ × ℕ) Torn) → s ≡ Err why → Ended lo hi (count_at b lens k) (recorded (count_at b lens k) (reader b lens t k) 0) s → start_to (k + 1) (count_at b lens) (reader b lens t) lo hi c ≡ none
      go (Ok p) y w = err-ok (sym y)
      go (Err u) y (broke a) = start-torn (count_at b lens) (reader b lens t) lo hi c k d inv a

-- the whole start
module _ (b lens t : List ℕ) (lo hi : Bound) where
  pub begin-uncovered : covers b lens t ≡ false → (why : Refused) → why ≡ refused Unfit 0 0 → Err why ≡ begin_in b lens t lo hi
  unfolding begin_in pick Option-elim
  begin-uncovered e why g = rw (e, g)

  module _ (v : covers b lens t ≡ true) (o : Result Ends Torn)
      (did : on_result o some (λ _. none) ≡ start_to (words_in lens) (count_at b lens) (reader b lens t) lo hi nothing_left) where
    pub begin-torn : (x : Torn) → o ≡ Err x → (why : Refused) → why ≡ refused Unfit 0 0 → Err why ≡ begin_in b lens t lo hi
    unfolding begin_in pick Option-elim on_result
    begin-torn x e why g = let z = rw e at did in rw (v, ← z, g)

    module _ (c : Ends) (e : o ≡ Ok c) (long : Bool) (says : long ≡ (overlong lo || overlong hi)) where
      begin-by : begin_in b lens t lo hi ≡ pick (overlong lo) (refuse LongKey 0 0) (pick (overlong hi) (refuse LongKey 0 0) (Ok c))
      unfolding begin_in pick Option-elim on_result
      begin-by = let z = rw e at did in rw (v, ← z)

      pub begin-long : long ≡ true → (why : Refused) → why ≡ refused LongKey 0 0 → Err why ≡ begin_in b lens t lo hi
      begin-long g why h = go (overlong lo) (overlong hi) (sym says ∙ g) ∙ sym begin-by
        where
          go : (p q : Bool) → (p || q) ≡ true → Err why ≡ pick p (refuse LongKey 0 0) (pick q (refuse LongKey 0 0) (Ok c))
          go true q f = unfold pick in ap Err h
          go false true f = unfold pick in ap Err h
          go false false f = never (sym f)

      pub begin-short : long ≡ false → Ok c ≡ begin_in b lens t lo hi
      begin-short g = go (overlong lo) (overlong hi) (sym says ∙ g) ∙ sym begin-by
        where
          go : (p q : Bool) → (p || q) ≡ false → Ok c ≡ pick p (refuse LongKey 0 0) (pick q (refuse LongKey 0 0) (Ok c))
          go true q f = never f
          go false true f = never f
          go false false f = unfold pick in refl
