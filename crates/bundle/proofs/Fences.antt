-- What a layout holds, and where one list of a bundle that is covered lies.
use Prim.Native.Nat.{ℕ, zero, suc, ◌+◌, ◌-◌, ◌≤◌, ◌<◌}
use mathlib.Core.Path.{◌≡◌, refl, sym, ap, ◌∙◌}
use mathlib.Core.List.{List}
use mathlib.Core.Bool.{Bool, true, false}
use native.Mathlib.Omega.{arith}
use native.Mathlib.Numerals.{add-one}
use borrow.Author.Tests.{le-leb, lt-leb, eqb-true, eqb-false}
use lib.Dec.{eqb}
use lib.ListN.{length, get_or, set, take, drop, length-set}
use lib.Seq.{get_or-set_same, get_or-set_other, set-set}
use Rattle.std.specs.Prelude.{Some, None}
use Rattle.list.specs.Limits.{header_size}
use Rattle.list.specs.Pick.{pick}
use Rattle.list.specs.Field.{words_in, word_at}
use Rattle.bundle.specs.Bundle.{bundle_limit, start_at, list_at}
use Rattle.bundle.specs.Index.{count_at}
use Rattle.bundle.specs.Look.{base_at, covers, place_in, look_at}
use Rattle.bundle.specs.Private.{lay, lay_reached, fence, first, fence_at, Laid, span_between, span_at}
use Rattle.bundle.specs.declared.look.Span.{Span}
use Rattle.bundle.specs.declared.walk.Fence.{Fence}
use Rattle.bundle.proofs.Starts.{start-next, base-next, base-in, fence-length, fence-list}
use Rattle.bundle.proofs.Walks.{come, reached-to}
use Rattle.bundle.proofs.Looking.{fence-headed, lengths-covering, index-covering}

-- what is laid stands at its place, since each later one is laid behind it
module _ {A : Type 0} (f : ℕ → A) (t : List A) where
  length-lay : (n : ℕ) → length (lay n f t) ≡ length t
  unfolding lay
  length-lay zero = length-set t 0 (f 0)
  length-lay (suc n) = length-set (lay n f t) (suc n) (f (suc n)) ∙ length-lay n

  lay_at : (d : A) (n : ℕ) → n < length t → (k : ℕ) → k ≤ n → get_or (lay n f t) k d ≡ f k
  unfolding lay
  lay_at d zero l k h = let e : k ≡ 0 = omega arith in rw e (get_or-set_same t 0 (f 0) d l)
  lay_at d (suc n) l k h = go (lay_at d n (omega arith) k) (eqb k (suc n)) refl
    where
      go : (k ≤ n → get_or (lay n f t) k d ≡ f k) → (u : Bool) → eqb k (suc n) ≡ u → get_or (set (lay n f t) (suc n) (f (suc n))) k d ≡ f k
      go ih true e = rw (eqb-true k (suc n) e) (get_or-set_same (lay n f t) (suc n) (f (suc n)) d (rw (length-lay n) l))
      go ih false e = get_or-set_other (lay n f t) (suc n) k (f (suc n)) d (eqb-false k (suc n) e) ∙ ih (omega (arith, eqb-false k (suc n) e))

  lay-over : (n : ℕ) (x : A) → lay n f (set t 0 x) ≡ lay n f t
  unfolding lay
  lay-over zero x = set-set t 0 x (f 0)
  lay-over (suc n) x = ap (λ (u : List A). set u (suc n) (f (suc n))) (lay-over n x)

  -- one place more
  pub lay-next : (n : ℕ) (x : A) (u : List A) → u ≡ lay n f t → x ≡ f (n + 1) → set u (n + 1) x ≡ lay (n + 1) f t
  unfolding lay
  lay-next n x u a e = rw (a, e, add-one)

-- what a layout leaves in a table
module _ (b lens : List ℕ) where
  pub lay-first : (t : List Fence) → set t 0 first ≡ lay 0 (fence b lens) (set t 0 first)
  unfolding lay start_at base_at
  lay-first t = sym (set-set t 0 first first)

  pub laid-many : (t : List Fence) → bundle_limit < words_in lens → t ≡ lay_reached (fence b lens) b lens t
  unfolding lay_reached pick
  laid-many t h = simp (lt-leb (words_in lens) bundle_limit h)

  -- k lists are laid, which is as far as they fit
  module _ (t u : List Fence) (k : ℕ) (x : Fence) (p : u ≡ lay k (fence b lens) (set t 0 x)) (at : Fence) (v : Some at ≡ fence_at b lens k) where
    pub laid-reached : k ≤ words_in lens → (k < words_in lens → fence_at b lens (k + 1) ≡ None) → u ≡ lay_reached (fence b lens) b lens t
    unfolding lay_reached pick
    laid-reached h s = p ∙ lay-over (fence b lens) t k x ∙ simp (le-leb _ _ (come b lens k at v).few-lists, reached-to b lens k at v (words_in lens) h s)

    pub laid_all : k ≡ words_in lens → bundle_limit < length t → Laid b lens u
    laid_all e l = record {
      stands = λ j h. rw (p ∙ lay-over (fence b lens) t k x) (lay_at (fence b lens) t first k (omega (arith, (come b lens k at v).few-lists)) j (omega arith));
    }

pub span-laid : (b lens : List ℕ) (fences : List Fence) → Laid b lens fences → (k : ℕ) → k < words_in lens
    → span_between (get_or fences k first) (get_or fences (k + 1) first) ≡ span_at b lens k
span-laid b lens fences l k h = rw (l.stands k (omega arith), l.stands (k + 1) (omega arith))

-- list k of a bundle that is covered: its bytes from start to end, its entries of the index from base to next
pub record Fenced (b lens t : List ℕ) (k : ℕ) (s : Span) : Type 0 where
  pub headed : s.start + header_size ≤ s.end
  pub inside : s.end ≤ length b
  pub list : take (s.end - s.start) (drop s.start b) ≡ list_at b lens k
  pub based : s.base ≡ base_at b lens k
  pub counted : s.next ≡ s.base + count_at b lens k
  pub room : s.next ≤ words_in t
  pub looks : (i : ℕ) → place_in b s.start (s.end - s.start) (word_at t (s.base + i)) ≡ look_at b lens t k i

pub fenced : (b lens t : List ℕ) → covers b lens t ≡ true → (k : ℕ) → k < words_in lens → (s : Span) → s ≡ span_at b lens k → Fenced b lens t k s
unfolding look_at
fenced b lens t c k l s e =
    let p = ap (λ (x : Span). x.start) e in
    let q = ap (λ (x : Span). x.end) e in
    let m = ap (λ (x : Span). x.base) e in
    let n = ap (λ (x : Span). x.next) e in
    let i = fence-headed b lens k s.start s.end p q (lengths-covering b lens t c) l in
    let o = base-next b lens k in
    record {
      headed = i.0;
      inside = i.1;
      list = fence-list b lens k s.start s.end p q _ refl;
      based = m;
      counted = omega arith;
      room = omega (arith, index-covering b lens t c, base-in b lens k (words_in lens) l);
      looks = λ j. rw (fence-length b lens k s.start s.end p q, p, m);
    }

-- the same by the lengths and the counts of the headers
pub fenced-on : (b lens t : List ℕ) → covers b lens t ≡ true → (k : ℕ) → k < words_in lens → (start len base : ℕ) → start ≡ start_at lens k → len ≡ word_at lens k → base ≡ base_at b lens k
    → Fenced b lens t k (record { start = start; end = start + len; base = base; next = base_at b lens (k + 1) })
fenced-on b lens t c k l start len base p q m = fenced b lens t c k l _ (rw (start-next lens k, p, q, m))
