-- One pass over the sources: after k of them the best so far is the best of k, since each source's next is read where the layout and the index say.
use native.Mathlib.Numerals.{add-one}
use mathlib.Core.List.{List}
use mathlib.Core.Option.{Option, none, some, none-ne-some}
use mathlib.Core.Path.{refl, sym, ap, ap₂, ◌≡◌, ◌∙◌}
use Prim.Native.Nat.{ℕ, ◌+◌, ◌≤◌, ◌<◌}
use native.Mathlib.Omega.{arith}
use lib.ListN.{length}
use Rattle.std.specs.Prelude as code
use Rattle.std.specs.Prelude.{Ok, Err, Some, None}
use Rattle.list.specs.Pick.{on_result}
use Rattle.list.specs.Field.{words_in}
use Rattle.list.specs.Record.{Read}
use Rattle.list.specs.Version.{version_at}
use Rattle.bundle.specs.Bundle.{list_at}
use Rattle.bundle.specs.Look.{look_at}
use Rattle.bundle.specs.Private.{span_at}
use Rattle.bundle.specs.declared.layout.Layout.{Layout}
use Rattle.bundle.specs.declared.look.Span.{Span}
use Rattle.bundle.proofs.Fences.{Fenced, fenced}
use Rattle.merge.specs.Placed.{Placed}
use Rattle.merge.specs.Merge.{Nothing, Found}
use Rattle.merge.specs.Plain.{Ends, back_at, place, next, choose, ahead}
use Rattle.merge.specs.Reader.{reader}
use Rattle.merge.specs.Private.{left_of, place_at, next_by, size_in, reader_in, look_by, head_of, leader_of, reply_of, has_twin, twin_of, twins}
use Rattle.merge.specs.declared.ends.End.{End}
use Rattle.merge.specs.declared.ends.End.TheVariants.{Front, Back}
use Rattle.merge.specs.declared.ends.Left.{Left}
use Rattle.merge.specs.declared.seen.Seen.{Seen}
use Rattle.merge.specs.declared.head.Torn.{Torn}
use Rattle.merge.specs.declared.plain.Best.{Best}
use Rattle.merge.proofs.Lead.{Apart}
use Rattle.merge.proofs.Choosing.{choose-nothing, twin-nothing, torn-from}

-- what stands next by the two ends of one source is what stands next in it, whatever a reader finds
pub place-is : (e : End) (c : Ends) (k : ℕ) → place_at e (left_of c k) ≡ place e c k
unfolding place_at place
place-is Front c k = refl
place-is Back c k = refl

pub next-left : (e : End) (look : ℕ → ℕ → Option Placed) (c : Ends) (k : ℕ) → next_by e (look k) k (left_of c k) ≡ next e look c k
unfolding next next_by
next-left e look c k = rw (place-is e c k)

-- a list of a layout: it lies in the bundle, the records between ends that fit stand in the index, and what is read there is what the reader finds
module _ (l : Layout) (k : ℕ) (h : k < words_in l.bundle.lengths.now) (s : Span) (at : s ≡ span_at l.bundle.bytes.now l.bundle.lengths.now k) where
  sits : Fenced l.bundle.bytes.now l.bundle.lengths.now l.bundle.index.now k s
  sits = fenced _ _ _ l.covered k h s at

  pub list-lies : (s.start ≤ s.end) × (s.end ≤ length l.bundle.bytes.now)
  list-lies = (omega (arith, sits.headed), sits.inside)

  pub ends-room : (c : Ends) → back_at c k ≤ size_in l.bundle k → s.base + back_at c k ≤ words_in l.bundle.index.now
  ends-room c f = omega (arith, sits.counted, sits.room, f)

  looks : (i : ℕ) → look_by l.bundle s k i ≡ reader_in l.bundle k i
  unfolding look_by reader
  looks i = rw (sits.looks i, sits.list)

  pub next-is : (e : End) (c : Ends) (left : Left) → left ≡ left_of c k → next_by e (look_by l.bundle s k) k left ≡ next e (reader_in l.bundle) c k
  unfolding next
  next-is e c left q = rw (q, next-left e (look_by l.bundle s) c k, looks (place e c k))

-- each list is a source of its own
list_or : ℕ → Option Placed → ℕ
list_or k none = k
list_or k (some x) = x.list

reader-list : (b lens t : List ℕ) (k i : ℕ) (x : Placed) → reader b lens t k i ≡ some x → x.list ≡ k
unfolding reader
reader-list b lens t k i x q = go (look_at b lens t k i) q
  where
    go : (r : Read) → on_result r (λ e. some (record { version = version_at (list_at b lens k) e; list = k; number = i })) (λ why. none) ≡ some x → x.list ≡ k
    go (Ok e) p = unfold on_result list_or in sym (ap (list_or k) p)
    go (Err why) p = absurd (none-ne-some x (unfold on_result in p))

pub reader-apart : (b lens t : List ℕ) → Apart (reader b lens t)
reader-apart b lens t k l i j x y p q d e = d (sym (reader-list b lens t k i x p) ∙ e ∙ reader-list b lens t l j y q)

-- of k sources this is the best, and whether it has a twin
pub record BestOf (e : End) (look : ℕ → ℕ → Option Placed) (c : Ends) (k : ℕ) (best : code.Option Best) : Type 0 where
  pub leads : reply_of leader_of (Ok best) ≡ ahead k e look c
  pub twin-is : has_twin (Ok best) ≡ twins k e look c

module _ (e : End) (look : ℕ → ℕ → Option Placed) (c : Ends) where
  pub best-none : BestOf e look c 0 None
  unfolding reply_of ahead has_twin twins
  best-none = record { leads = refl; twin-is = refl }

  module _ (k : ℕ) (best : code.Option Best) (so : BestOf e look c k best) (o : code.Option Seen) (read : reply_of head_of (Ok o) ≡ next e look c k) where
    -- nothing left in this source
    pub best-past : o ≡ None → BestOf e look c (k + 1) best
    unfolding ahead twins reply_of
    best-past q =
        let n : Nothing ≡ next e look c k = rw q at read in
        record {
          leads = rw add-one (so.leads ∙ sym (choose-nothing e _) ∙ ap (choose e (ahead k e look c)) n);
          twin-is = rw add-one (so.twin-is ∙ sym (twin-nothing e _ _) ∙ ap (twin_of e (twins k e look c) (ahead k e look c)) n);
        }

    -- a record more
    pub best-on : (y : Seen) → o ≡ Some y → (r : Best)
        → Found (head_of r.seen) ≡ choose e (reply_of leader_of (Ok best)) (Found (head_of y))
        → r.twin ≡ twin_of e (has_twin (Ok best)) (reply_of leader_of (Ok best)) (Found (head_of y))
        → BestOf e look c (k + 1) (Some r)
    unfolding ahead twins reply_of leader_of has_twin
    best-on y q r chosen twin =
        let n : Found (head_of y) ≡ next e look c k = rw q at read in
        record {
          leads = rw add-one (chosen ∙ ap₂ (choose e) so.leads n);
          twin-is = rw add-one (twin ∙ rw (so.twin-is, so.leads, n));
        }

  -- a record isn't whole
  pub best-torn : (k : ℕ) (t : Torn) → reply_of head_of (Err t) ≡ next e look c k → (n : ℕ) → k < n → (r : code.Result (code.Option Best) Torn) (u : Torn) → r ≡ Err u
      → (reply_of leader_of r ≡ ahead n e look c) × (has_twin r ≡ twins n e look c)
  unfolding reply_of has_twin
  best-torn k t read n l r u q = let z = torn-from e look c k (sym read) n l in rw q (sym z.0, sym z.1)
