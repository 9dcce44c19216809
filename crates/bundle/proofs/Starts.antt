-- Lists stand behind each other, so each lies between its start and the next one's, inside the bundle.
use Prim.Native.Nat.{ℕ, zero, suc, ◌+◌, ◌-◌, ◌≤◌, ◌<◌}
use mathlib.Core.Path.{◌≡◌, refl, ap, ◌∙◌}
use mathlib.Core.List.{List}
use native.Mathlib.Omega.{arith}
use native.Mathlib.Numerals.{add-one}
use native.Mathlib.Nat.{add-zero}
use lib.ListN.{length, take, drop}
use Rattle.list.specs.Field.{word_at}
use Rattle.list.proofs.Parts.{part_length}
use Rattle.bundle.specs.Bundle.{start_at, list_at}
use Rattle.bundle.specs.Index.{count_at}
use Rattle.bundle.specs.Look.{base_at}

pub start-next : (lens : List ℕ) (k : ℕ) → start_at lens (k + 1) ≡ start_at lens k + word_at lens k
unfolding start_at
start-next lens k = rw add-one

pub base-next : (b lens : List ℕ) (k : ℕ) → base_at b lens (k + 1) ≡ base_at b lens k + count_at b lens k
unfolding base_at
base-next b lens k = rw add-one

pub base-first : (b lens : List ℕ) → base_at b lens 0 ≡ 0
unfolding base_at
base-first b lens = refl

-- sums rise, and with each step stay below any later sum
module _ (f g : ℕ → ℕ) (step : (k : ℕ) → f (k + 1) ≡ f k + g k) where
  rises : (k d : ℕ) → f k ≤ f (k + d)
  rises k zero = omega (arith, ap f (add-zero k))
  rises k (suc d) =
      let e : k + suc d ≡ k + d + 1 = omega arith in
      rw e (omega (arith, rises k d, step (k + d)))

  sum-in : (k n : ℕ) → k < n → f k + g k ≤ f n
  sum-in k n h =
      let e : n ≡ k + 1 + (n - (k + 1)) = omega arith in
      let r = rises (k + 1) (n - (k + 1)) in
      let q = ap f e in
      omega (arith, step k)

-- list k ends where the next starts, which is no later than the end of the last; and so its records
pub list-in : (lens : List ℕ) (k n : ℕ) → k < n → start_at lens k + word_at lens k ≤ start_at lens n
list-in lens = sum-in (start_at lens) (word_at lens) (start-next lens)

pub start-before : (lens : List ℕ) (k n : ℕ) → k ≤ n → start_at lens k ≤ start_at lens n
start-before lens k n h =
    let e : n ≡ k + (n - k) = omega arith in
    omega (arith, rises (start_at lens) (word_at lens) (start-next lens) k (n - k), ap (start_at lens) e)

pub base-in : (b lens : List ℕ) (k n : ℕ) → k < n → base_at b lens k + count_at b lens k ≤ base_at b lens n
base-in b lens = sum-in (base_at b lens) (count_at b lens) (base-next b lens)

pub list_length : (b lens : List ℕ) (k n : ℕ) → start_at lens n ≡ length b → k < n → length (list_at b lens k) ≡ word_at lens k
unfolding list_at
list_length b lens k n s h = part_length b (start_at lens k) (word_at lens k) (omega (arith, list-in lens k n h))

-- list k between two fences: its start and the next one's
module _ (b lens : List ℕ) (k start end : ℕ) (p : start ≡ start_at lens k) (q : end ≡ start_at lens (k + 1)) where
  pub fence-length : end - start ≡ word_at lens k
  fence-length = omega (arith, start-next lens k)

  pub fence-list : (s : List ℕ) → s ≡ take (end - start) (drop start b) → s ≡ list_at b lens k
  unfolding list_at
  fence-list s e = e ∙ rw (fence-length, p)

  pub fence-in : (n : ℕ) → start_at lens n ≡ length b → k < n → (start ≤ end) × (end ≤ length b)
  fence-in n s l =
      let i = list-in lens k n l in
      let j = start-next lens k in
      (omega arith, omega arith)

-- list k, which starts where those before it end, of lists that add up to the bundle
pub record Part (b lens : List ℕ) (k start end : ℕ) : Type 0 where
  pub next : end ≡ start_at lens (k + 1)
  pub rises : start ≤ end
  pub inside : end ≤ length b
  pub list : take (end - start) (drop start b) ≡ list_at b lens k

pub part : (b lens : List ℕ) (n : ℕ) → start_at lens n ≡ length b → (k : ℕ) → k < n → (start len : ℕ) → start ≡ start_at lens k → len ≡ word_at lens k → Part b lens k start (start + len)
part b lens n s k l start len p q =
    let e : start + len ≡ start_at lens (k + 1) = omega (arith, start-next lens k) in
    let i = fence-in b lens k start (start + len) p e n s l in
    record { next = e; rises = i.0; inside = i.1; list = fence-list b lens k start (start + len) p e _ refl }
