-- The index is filled list by list and record by record: what is left to write, at its place, makes the same table as the whole.
use Rattle.std.specs.Prelude.{Ok, Err}
use Prim.Native.Nat.{ℕ, zero, suc, ◌+◌, ◌-◌, ◌*◌, ◌≤◌, ◌<◌}
use mathlib.Core.Path.{◌≡◌, refl, sym, ap, ◌∙◌}
use mathlib.Core.List.{List, [], ◌∷◌, ◌++◌}
use mathlib.Core.Bool.{true}
use native.Mathlib.Omega.{arith}
use borrow.Author.Tests.{le-leb, lt-leb}
use lib.Dec.{leb}
use lib.ListN.{length, take, drop}
use lib.Seq.{sets}
use Rattle.list.specs.Limits.{header_size}
use Rattle.list.specs.Pick.{pick, on_result}
use Rattle.list.specs.Version.{Bytes}
use Rattle.list.specs.Field.{le_bytes, words, words_in}
use Rattle.list.specs.Record.{read_at}
use Rattle.list.specs.Check.{count_in}
use Rattle.list.proofs.Numbers.{sets-append}
use Rattle.list.proofs.Words.{words-one, words_append, length-words}
use Rattle.list.proofs.Parts.{part_length}
use Rattle.list.proofs.Whole.{inside}
use Rattle.bundle.specs.Bundle.{start_at, list_at, judge_bundle}
use Rattle.bundle.specs.Index.{next_from, starts, count_at, places, open_bundle, indexed}
use Rattle.bundle.specs.Look.{base_at, covers}
use Rattle.bundle.proofs.Starts.{base-next}
use Rattle.bundle.specs.declared.look.Span.{Span}
use Rattle.bundle.proofs.Fences.{Fenced}
use Rattle.bundle.proofs.Judging.{judged-covers}
use Rattle.list.specs.declared.refusal.Refusal.{Refusal}
use Rattle.list.specs.declared.refusal.Refused.{Refused}
use Rattle.list.specs.declared.refusal.Refusal.TheVariants.{NoRoom}
use Rattle.list.specs.declared.record.Record.{Record}
use Rattle.list.specs.Record.{Read}
use Rattle.list.specs.Check.{Verdict}
use Rattle.list.specs.Refusal.{refuse}

pub same-words : (t u : List ℕ) → length t ≡ length u → words_in t ≡ words_in u
unfolding words_in
same-words t u e = rw e

module _ (s : List ℕ) (at : ℕ) (r : Read) (a : r ≡ read_at s at) where
  pub next-whole : (e : Record) → r ≡ Ok e → e.next ≡ next_from s at
  unfolding next_from on_result
  next-whole e b = rw (← a, b)

  pub next-broken : (k : Refusal) → r ≡ Err k → at ≡ next_from s at
  unfolding next_from on_result
  next-broken k b = rw (← a, b)

-- the place of the next record stays inside the list, or where it was
pub next-most : (s : List ℕ) (at : ℕ) → at ≤ length s → next_from s at ≤ length s
next-most s at h = go (read_at s at) refl
  where
    go : (r : Read) → read_at s at ≡ r → next_from s at ≤ length s
    go (Ok e) f =
        let i = inside s at e f in
        let n = next-whole s at _ refl e f in
        omega arith
    go (Err k) f = let n = next-broken s at _ refl k f in omega arith

starts_none : (s : List ℕ) (base at n : ℕ) → n ≡ 0 → starts n s base at ≡ []
unfolding starts
starts_none s base at n e = rw e

starts-one : (s : List ℕ) (base at n m : ℕ) → n ≡ suc m → starts n s base at ≡ (base + at) ∷ starts m s base (next_from s at)
unfolding starts
starts-one s base at n m e = rw e

pub length-starts : (n : ℕ) (s : List ℕ) (base at : ℕ) → length (starts n s base at) ≡ n
unfolding starts
length-starts zero s base at = refl
length-starts (suc n) s base at = ap suc (length-starts n s base (next_from s at))

words-none : (t : List ℕ) (o : ℕ) → sets t o (words []) ≡ t
unfolding words
words-none t o = refl

-- a record's start written
module _ (s t v : List ℕ) (base at i n : ℕ) (w : sets t (4 * i) (words (starts (n - i) s base at)) ≡ v) where
  pub fill-ends : n ≤ i → t ≡ v
  fill-ends h = sym (ap (λ (xs : List ℕ). sets t (4 * i) (words xs)) (starts_none s base at (n - i) (omega arith)) ∙ words-none t (4 * i)) ∙ w

  pub fill-turn : (u : List ℕ) (to : ℕ) → i < n → u ≡ sets t (4 * i) (le_bytes (base + at) 4) → to ≡ next_from s at
      → sets u (4 * (i + 1)) (words (starts (n - (i + 1)) s base to)) ≡ v
  fill-turn u to h e f =
      let o : 4 * (i + 1) ≡ 4 * i + 4 = omega arith in
      let m = starts-one s base at (n - i) (n - (i + 1)) (omega arith) in
      rw (e, f, o) (sym (ap (λ (xs : List ℕ). sets t (4 * i) (words xs)) m ∙ words-one t (4 * i) (base + at) (starts (n - (i + 1)) s base (next_from s at))) ∙ w)

places-none : (b lens : List ℕ) (k n : ℕ) → n ≡ 0 → places n b lens k ≡ []
unfolding places
places-none b lens k n e = rw e

places-one : (b lens : List ℕ) (k n m : ℕ) → n ≡ suc m → places n b lens k ≡ starts (count_at b lens k) (list_at b lens k) (start_at lens k) header_size ++ places m b lens (k + 1)
unfolding places
places-one b lens k n m e = rw e

-- a list's starts written
module _ (b lens t v : List ℕ) (k n : ℕ) (w : sets t (4 * base_at b lens k) (words (places (n - k) b lens k)) ≡ v) where
  pub lists-end : n ≤ k → t ≡ v
  lists-end h = sym (ap (λ (xs : List ℕ). sets t (4 * base_at b lens k) (words xs)) (places-none b lens k (n - k) (omega arith)) ∙ words-none t (4 * base_at b lens k)) ∙ w

  pub list-turn : (u s : List ℕ) (start first held : ℕ) → k < n → s ≡ list_at b lens k → start ≡ start_at lens k → first ≡ base_at b lens k → held ≡ count_at b lens k
      → u ≡ sets t (4 * first) (words (starts held s start header_size)) → sets u (4 * base_at b lens (k + 1)) (words (places (n - (k + 1)) b lens (k + 1))) ≡ v
  list-turn u s start first held h l p q c e =
      let xs = starts (count_at b lens k) (list_at b lens k) (start_at lens k) header_size in
      let ys = places (n - (k + 1)) b lens (k + 1) in
      let lw = length-words xs in
      let ls = length-starts (count_at b lens k) (list_at b lens k) (start_at lens k) header_size in
      let o : 4 * base_at b lens (k + 1) ≡ 4 * base_at b lens k + length (words xs) = omega (arith, base-next b lens k) in
      let m : places (n - k) b lens k ≡ xs ++ ys = places-one b lens k (n - k) (n - (k + 1)) (omega arith) in
      rw (e, l, p, c, q, o)
      (sym (ap (λ (zs : List ℕ). sets t (4 * base_at b lens k) zs) (ap words m ∙ words_append xs ys) ∙ sets-append (words xs) (words ys) t (4 * base_at b lens k)) ∙ w)

-- its header tells how many there are
pub header-counts : (b lens : List ℕ) (k : ℕ) (s : List ℕ) → s ≡ list_at b lens k → (held : ℕ) → held ≡ count_in s → held ≡ count_at b lens k
unfolding count_at
header-counts b lens k s p held e = e ∙ ap count_in p

-- there is room for its starts, and none of them wraps
pub list-room : (b lens t u s : List ℕ) (k held : ℕ) (x : Span) → Fenced b lens t k x → s ≡ take (x.end - x.start) (drop x.start b) → held ≡ count_at b lens k
    → length u ≡ length t → length b < 18446744073709551616 → (x.base + held ≤ words_in u) × ((header_size ≤ length s) × (x.start + length s < 18446744073709551616))
list-room b lens t u s k held x f p q e h =
    let m = ap length p ∙ part_length b x.start (x.end - x.start) (omega (arith, f.headed, f.inside)) in
    (omega (arith, f.counted, f.room, same-words u t e), (omega (arith, f.headed), omega (arith, f.headed, f.inside)))

-- what an opening answers and leaves, at each of its ends
abbrev pub Opens : List ℕ → List ℕ → List ℕ → Verdict → List ℕ → Type 0
Opens b lens t v u = (v ≡ open_bundle b lens t) × ((u ≡ indexed (open_bundle b lens t) b lens t) × Bytes b)

module _ (b lens t : List ℕ) (y : Bytes b) (v : Verdict) (e : v ≡ judge_bundle b lens) where
  pub opens-refused : (r : Refused) → v ≡ Err r → Opens b lens t (Err r) t
  unfolding open_bundle indexed on_result
  opens-refused r f = (rw (← e, f), (rw (← e, f), y))

  module _ (c : ℕ) (f : v ≡ Ok c) (m : ℕ) (g : m ≡ words_in t) where
    pub opens-short : m < c → Opens b lens t (refuse NoRoom 0 0) t
    unfolding open_bundle indexed on_result pick
    opens-short q = let l = lt-leb c (words_in t) (omega arith) in (rw (← e, f, l), (rw (← e, f, l), y))

    module _ (q : c ≤ m) where
      room : leb c (words_in t) ≡ true
      room = le-leb c (words_in t) (omega arith)

      pub opens-covered : covers b lens t ≡ true
      opens-covered = judged-covers b lens t c (sym e ∙ f) ∙ room

      pub opens-whole : (u : List ℕ) → u ≡ sets t 0 (words (places (words_in lens) b lens 0)) → Opens b lens t (Ok c) u
      unfolding open_bundle indexed on_result pick
      opens-whole u p = (rw (← e, f, room), (p ∙ rw (← e, f, room), y))

-- while entries are left, the next one is the table's
pub word-left : (t u : List ℕ) (i end : ℕ) → length t ≡ length u → i < end → end ≤ words_in u → i < words_in t
word-left t u i end e h k = omega (arith, same-words t u e)
