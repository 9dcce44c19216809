-- A record is found through lengths and index under the definition's own tests; lengths that pass them put each list inside the bundle, since each lies behind those before it.
use Rattle.std.proofs.lemmas.Bool.{and_parts}
use Rattle.std.specs.Prelude.{Err}
use Prim.Native.Nat.{ℕ, zero, suc, ◌+◌, ◌-◌, ◌≤◌, ◌<◌}
use mathlib.Core.Path.{◌≡◌, refl, ◌∙◌}
use mathlib.Core.List.{List}
use mathlib.Core.Bool.{Bool, true, false}
use native.Mathlib.Omega.{arith}
use borrow.Author.Tests.{le-leb, lt-leb, leb-true, eqb-true, eqb-false}
use lib.Dec.{leb, eqb}
use lib.ListN.{length, take, drop}
use Rattle.list.specs.Check.{count_in}
use Rattle.list.specs.Limits.{header_size}
use Rattle.list.specs.Pick.{pick}
use Rattle.list.specs.Field.{words_in, word_at}
use Rattle.list.specs.Record.{whole_at}
use Rattle.bundle.specs.Bundle.{bundle_limit, start_at, list_at}
use Rattle.bundle.specs.Index.{count_at}
use Rattle.bundle.proofs.Starts.{list-in, base-in, fence-length, fence-in}
use Rattle.bundle.specs.Look.{base_at, headed, lengths_cover, covers, place_in}
use Rattle.list.specs.declared.refusal.Refusal.TheVariants.{Truncated}
use Rattle.list.specs.Record.{Read}

pub headed-at : (n : ℕ) (lens : List ℕ) → headed n lens ≡ true → (k : ℕ) → k < n → header_size ≤ word_at lens k
unfolding headed
headed-at zero lens h k l = absurd (omega arith)
headed-at (suc n) lens h k l = go (headed-at n lens both.1 k) (eqb k n) refl
  where
    both : (leb header_size (word_at lens n) ≡ true) × (headed n lens ≡ true)
    both = and_parts _ _ h

    go : (k < n → header_size ≤ word_at lens k) → (t : Bool) → eqb k n ≡ t → header_size ≤ word_at lens k
    go ih true e = rw (eqb-true k n e) (leb-true _ _ both.0)
    go ih false e = ih (omega (arith, eqb-false k n e))

pub headed-all : (n : ℕ) (lens : List ℕ) → ((k : ℕ) → k < n → header_size ≤ word_at lens k) → headed n lens ≡ true
unfolding headed
headed-all zero lens f = refl
headed-all (suc n) lens f = rw (le-leb _ _ (f n (omega arith))) (headed-all n lens (λ k h. f k (omega arith)))

-- the tests on the lengths, n being their number
module _ (b lens : List ℕ) (n : ℕ) (a : n ≡ words_in lens) where
  pub cover-many : bundle_limit < n → false ≡ lengths_cover b lens
  unfolding lengths_cover
  cover-many h = rw (← a) (simp (lt-leb _ _ h))

  pub cover-sum : n ≤ bundle_limit → headed n lens ≡ true → (x : ℕ) → x ≡ start_at lens n → eqb x (length b) ≡ lengths_cover b lens
  unfolding lengths_cover
  cover-sum h f x g = rw (← a) (simp (le-leb _ _ h, f, ← g))

-- what lengths that cover a bundle say
pub record Covered (b lens : List ℕ) : Type 0 where
  pub few-lists : words_in lens ≤ bundle_limit
  pub each : (k : ℕ) → k < words_in lens → header_size ≤ word_at lens k
  pub add-up : start_at lens (words_in lens) ≡ length b

pub covered : (b lens : List ℕ) → lengths_cover b lens ≡ true → Covered b lens
unfolding lengths_cover
covered b lens h =
    let p = and_parts _ _ h in
    let q = and_parts _ _ p.0 in
    record { few-lists = leb-true _ _ q.0; each = headed-at (words_in lens) lens q.1; add-up = eqb-true _ _ p.1 }

-- each list lies in the bundle and has a header
pub cover-in : (b lens : List ℕ) → lengths_cover b lens ≡ true → (k start len : ℕ) → start ≡ start_at lens k → len ≡ word_at lens k → k < words_in lens
    → (start + len ≤ length b) × (header_size ≤ len)
cover-in b lens h k start len p q l =
    let v = covered b lens h in
    let i = list-in lens k (words_in lens) l in
    (omega (arith, v.add-up), omega (arith, v.each k l))

-- so does one between two fences
module _ (b lens : List ℕ) (k start end : ℕ) (p : start ≡ start_at lens k) (q : end ≡ start_at lens (k + 1)) (h : lengths_cover b lens ≡ true) (l : k < words_in lens) where
  pub fence-headed : (start + header_size ≤ end) × (end ≤ length b)
  fence-headed =
      let v = covered b lens h in
      let i = fence-in b lens k start end p q (words_in lens) v.add-up l in
      (omega (arith, v.each k l, fence-length b lens k start end p q), i.1)

module _ (b lens t : List ℕ) where
  pub covers-not : lengths_cover b lens ≡ false → false ≡ covers b lens t
  unfolding covers
  covers-not e = simp e

  pub covers-by : lengths_cover b lens ≡ true → (n : ℕ) → n ≡ words_in lens → (x y : ℕ) → x ≡ base_at b lens n → y ≡ words_in t → leb x y ≡ covers b lens t
  unfolding covers
  covers-by e n a x y f g = rw (f, g, a) (simp e)

-- what a bundle that is covered says of its lists
module _ (b lens t : List ℕ) (covering : covers b lens t ≡ true) where
  both : (lengths_cover b lens ≡ true) × (leb (base_at b lens (words_in lens)) (words_in t) ≡ true)
  unfolding covers
  both = and_parts (lengths_cover b lens) (leb (base_at b lens (words_in lens)) (words_in t)) covering

  pub lengths-covering : lengths_cover b lens ≡ true
  lengths-covering = both.0

  pub index-covering : base_at b lens (words_in lens) ≤ words_in t
  index-covering = leb-true _ _ both.1

  pub few-lists : words_in lens ≤ bundle_limit
  few-lists = (covered b lens lengths-covering).few-lists

  -- where list k lies
  pub list-sits : (k start base len : ℕ) → k < words_in lens → start ≡ start_at lens k → base ≡ base_at b lens k → len ≡ word_at lens k
      → (start + len ≤ length b) × (header_size ≤ len) × (base + count_in (take len (drop start b)) ≤ words_in t)
  list-sits k start base len l p q r =
      let i = cover-in b lens lengths-covering k start len p r l in
      let z = base-in b lens k (words_in lens) l in
      let m : count_in (take len (drop start b)) ≡ count_at b lens k = unfold count_at list_at in rw (p, r) in
      (i.0, i.1, omega (arith, index-covering))

-- the record at a place of the bundle
module _ (b : List ℕ) (start len at : ℕ) where
  pub place-before : at < start → Err Truncated ≡ place_in b start len at
  unfolding place_in pick
  place-before h = simp (lt-leb _ _ h)

  pub place_here : start ≤ at → (r : Read) → r ≡ whole_at (take len (drop start b)) (at - start) → r ≡ place_in b start len at
  unfolding place_in pick
  place_here h r e = e ∙ simp (le-leb _ _ h)

pub words-most : (t : List ℕ) → words_in t ≤ length t
unfolding words_in
words-most t = omega arith
