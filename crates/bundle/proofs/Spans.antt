-- One list is found by a walk past all: where it stands before and behind that list is what the definition names, and a walk that does not come through leaves the bundle uncovered.
use Rattle.std.proofs.lemmas.Bool.{and_parts, and_right}
use Prim.Native.Nat.{ℕ, ◌+◌, ◌≤◌, ◌<◌}
use mathlib.Core.Path.{◌≡◌, refl, sym, ap, ◌∙◌}
use mathlib.Core.List.{List}
use mathlib.Core.Bool.{Bool, true, false, ◌&&◌}
use native.Mathlib.Omega.{arith}
use borrow.Author.Tests.{lt-ltb, le-ltb, ltb-true}
use lib.Dec.{ltb}
use Rattle.std.specs.Prelude.{Option, Some, None}
use Rattle.std.proofs.lemmas.Option.{same_Some, none-some}
use Rattle.list.specs.Pick.{pick}
use Rattle.list.specs.Field.{words_in}
use Rattle.bundle.specs.Bundle.{bundle_limit, start_at}
use Rattle.bundle.specs.Look.{covers}
use Rattle.bundle.specs.Private.{fence_at, span_between, span_at, span_of}
use Rattle.bundle.specs.declared.look.Span.{Span}
use Rattle.bundle.specs.declared.walk.Fence.{Fence}
use Rattle.bundle.proofs.Looking.{cover-many, covers-not}
use Rattle.bundle.proofs.Walks.{come, stopped}
use Rattle.bundle.proofs.Fences.{Fenced, fenced}

-- what the search answers, at each of its ends
module _ (b lens t : List ℕ) (k : ℕ) where
  no-span : (covers b lens t && ltb k (words_in lens)) ≡ false → None ≡ span_of b lens t k
  unfolding span_of pick
  no-span e = rw e

  pub span-uncovered : false ≡ covers b lens t → None ≡ span_of b lens t k
  span-uncovered e = no-span (rw (sym e))

  module _ (n : ℕ) (a : n ≡ words_in lens) where
    pub span-many : bundle_limit < n → None ≡ span_of b lens t k
    span-many h = span-uncovered (covers-not b lens t (sym (cover-many b lens n a h)))

    pub span-no-list : n ≤ k → None ≡ span_of b lens t k
    span-no-list h = no-span (and_right (covers b lens t) (ltb k (words_in lens)) (le-ltb k (words_in lens) (omega arith)))

    pub span-off : (i : ℕ) → i ≤ n → fence_at b lens i ≡ None → None ≡ span_of b lens t k
    span-off i h e = span-uncovered (stopped b lens t i (omega arith) e)

    pub span-here : true ≡ covers b lens t → k < n → (own next : Fence) → Some own ≡ fence_at b lens k → Some next ≡ fence_at b lens (k + 1)
        → Some (span_between own next) ≡ span_of b lens t k
    unfolding span_of pick
    span-here c i own next x y =
        let v = come b lens k own x in
        let w = come b lens (k + 1) next y in
        rw (← c, lt-ltb k (words_in lens) (omega arith), ← v.start_is, ← v.base-is, ← w.start_is, ← w.base-is)

-- what the answers say
pub record Found (b lens t : List ℕ) (k : ℕ) (s : Span) : Type 0 where
  pub covering : covers b lens t ≡ true
  pub listed : k < words_in lens
  pub starts : s.start ≡ start_at lens k
  pub fences : Fenced b lens t k s

module _ (b lens t : List ℕ) (k : ℕ) (o : Option Span) (p : o ≡ span_of b lens t k) where
  pub span-found : (s : Span) → o ≡ Some s → Found b lens t k s
  unfolding span_of pick
  span-found s e = go (covers b lens t && ltb k (words_in lens)) refl (sym p ∙ e)
    where
      go : (u : Bool) → (covers b lens t && ltb k (words_in lens)) ≡ u → pick u (Some (span_at b lens k)) None ≡ Some s → Found b lens t k s
      go true w q =
          let z = and_parts (covers b lens t) (ltb k (words_in lens)) w in
          let i = ltb-true k (words_in lens) z.1 in
          let m = sym (same_Some (span_at b lens k) s q) in
          record { covering = z.0; listed = i; starts = ap (λ (x : Span). x.start) m; fences = fenced b lens t z.0 k i s m }
      go false w q = absurd (none-some s q)

  pub span-none : o ≡ None → (covers b lens t && ltb k (words_in lens)) ≡ false
  unfolding span_of pick
  span-none e = go (covers b lens t && ltb k (words_in lens)) (sym p ∙ e)
    where
      go : (u : Bool) → pick u (Some (span_at b lens k)) None ≡ None → u ≡ false
      go true q = absurd (none-some (span_at b lens k) (sym q))
      go false q = refl
