-- The entries: each key once, with its newest version below the snapshot, and no tombstone; and no other, since the order puts a key's newest first and the first of each key is taken.
use Rattle.std.proofs.lemmas.Bool.{and_left, and_right}
use Prim.Native.Nat.{ℕ}
use mathlib.Core.Path.{◌≡◌, refl, sym, ap, ◌∙◌}
use mathlib.Core.List.{List, []}
use mathlib.Core.Bool.{Bool, true, false, not, ◌&&◌, not-and_self}
use mathlib.Core.Logic.{◌⊎◌, inl, inr}
use Rattle.list.specs.Version.{Version}
use Rattle.list.specs.Order.{compare, is_less}
use Rattle.std.specs.declared.cmp.Ordering.TheVariants.{Less}
use Rattle.list.proofs.Order.{is-less}
use Rattle.list.proofs.Strict.{compare-trans, Keys, less, one, more, keys}
use Rattle.list.proofs.Tests.{never}
use Rattle.merge.specs.Placed.{Placed, before}
use Rattle.merge.specs.Merged.{everything, sort}
use Rattle.merge.proofs.Order.{asym, told}
use Rattle.merge.proofs.Lists.{every}
use Rattle.merge.proofs.Numbered.{Rises, Ordered}
use Rattle.merge.proofs.Sorted.{sort-rises, all-distinct}
use Rattle.std.specs.declared.ops.Bound.TheVariants.{Excluded, Included}
use Rattle.read.specs.Bounds.{Bound, from_lower, to_upper, within}
use Rattle.read.specs.Entries.{visible, live, only, firsts, answers, entries}
use Rattle.read.specs.Demand.{Newest, Answer, ascending}
use Rattle.read.proofs.Lists.{only-chain, only_none}
use Rattle.read.proofs.Firsts.{In, of-all, all_among, from-sort, from-only, kept, to-only, to-sort, First, first-told, first-is, has_first, firsts-climb, climbs-ascending}

module _ (lists : List (List Version)) (o : Ordered lists) (lo hi : Bound) (s : ℕ) where
  -- the visible versions within the bounds, in order
  view : List Placed
  view = only (visible s) (sort (only (within lo hi) (everything lists)))

  view-rises : Rises view
  unfolding view
  view-rises = only-chain _ _ _ (sort-rises _ (only-chain _ _ _ (all-distinct lists o)))

  -- each key once, in ascending order
  pub once : ascending (entries lists lo hi s) ≡ true
  unfolding entries answers view
  once = climbs-ascending _ (only-chain _ live _ (firsts-climb _ view-rises))

  in-view : (z : Placed) → In z (everything lists) → within lo hi z ≡ true → visible s z ≡ true → In z view
  unfolding view
  in-view z m w v = to-only _ z _ (to-sort z _ (to-only _ z _ m w)) v

  of-view : (z : Placed) → In z view → In z (everything lists) × (within lo hi z ≡ true) × (visible s z ≡ true)
  unfolding view
  of-view z m =
      let q = from-sort z _ (from-only (visible s) z _ m) in
      (from-only (within lo hi) z _ q, kept (within lo hi) z _ q, kept (visible s) z _ m)

  same-within : (y z : Placed) → y.version.key ≡ z.version.key → within lo hi y ≡ within lo hi z
  unfolding within
  same-within y z e = rw e

  view-newest : (e : Placed) → First view e → Newest lists s e × (within lo hi e ≡ true)
  view-newest e f =
      let v = of-view e f.there in
      (record { listed = v.0; seen = v.2; first = λ z m w k. f.first-of-key z (in-view z m (same-within z e k ∙ v.1) w) k }, v.1)

  -- an entry is its key's newest visible version, within the bounds, and no tombstone
  pub entry-answers : (e : Placed) → In e (entries lists lo hi s) → Answer lists lo hi s e
  unfolding entries answers view
  entry-answers e m =
      let q = view-newest e (of-all _ e _ (first-told view view-rises) (from-only live e _ m)) in
      record { newest = q.0; inside = q.1; alive = kept live e _ m }

  -- and each such version is an entry
  pub answer-entry : (e : Placed) → Answer lists lo hi s e → In e (entries lists lo hi s)
  unfolding entries answers view
  answer-entry e a =
      let n = a.newest in
      to-only live e _ (first-is view view-rises e (record {
        there = in-view e n.listed a.inside n.seen;
        first-of-key = λ z m k. let v = of-view z m in n.first z v.0 v.2 k;
      })) a.alive

  -- a key with a visible version within the bounds has a newest
  pub has-newest : (z : Placed) → In z (everything lists) → within lo hi z ≡ true → visible s z ≡ true
      → (e : Placed) × Newest lists s e × (within lo hi e ≡ true) × (e.version.key ≡ z.version.key)
  has-newest z m w v =
      let r = has_first view z (in-view z m w v) in
      let q = view-newest r.0 (of-all _ r.0 _ (first-told view view-rises) r.1) in
      (r.0, q.0, q.1, r.2)

  newest-one : (e f : Placed) → Newest lists s e → Newest lists s f → e.version.key ≡ f.version.key → e ≡ f
  newest-one e f p q k = go (p.first f q.listed q.seen (sym k)) (q.first e p.listed p.seen k)
    where
      go : (f ≡ e) ⊎ (before e f ≡ true) → (e ≡ f) ⊎ (before f e ≡ true) → e ≡ f
      go (inl a) b = sym a
      go (inr a) (inl b) = b
      go (inr a) (inr b) = asym e f (told e f a) (told f e b)

  -- a key within the bounds that has a visible version and no entry: its newest is a tombstone
  pub missing : (z : Placed) → In z (everything lists) → within lo hi z ≡ true → visible s z ≡ true
      → ((e : Placed) → In e (entries lists lo hi s) → e.version.key ≡ z.version.key → ⊥)
      → (e : Placed) × Newest lists s e × (e.version.key ≡ z.version.key) × (live e ≡ false)
  missing z m w v unanswered = let r = has-newest z m w v in (r.0, r.1, r.3, go r.0 r.1 r.2 r.3 (live r.0) refl)
    where
      go : (e : Placed) → Newest lists s e → within lo hi e ≡ true → e.version.key ≡ z.version.key → (b : Bool) → live e ≡ b → live e ≡ false
      go e n i k false q = q
      go e n i k true q = absurd (unanswered e (answer-entry e (record { newest = n; inside = i; alive = q })) k)

  -- and where its newest is a tombstone, or it has no-one visible, it has no entry
  pub tombstone-missing : (e : Placed) → Newest lists s e → live e ≡ false → (x : Placed) → In x (entries lists lo hi s) → x.version.key ≡ e.version.key → ⊥
  tombstone-missing e n d x m k =
      let a = entry-answers x m in
      never (sym a.alive ∙ ap live (newest-one x e a.newest n k) ∙ d)

  pub unseen-missing : (k : List ℕ) → ((z : Placed) → In z (everything lists) → z.version.key ≡ k → visible s z ≡ false)
      → (x : Placed) → In x (entries lists lo hi s) → x.version.key ≡ k → ⊥
  unseen-missing k h x m q =
      let n = (entry-answers x m).newest in
      never (sym n.seen ∙ h x n.listed q)

-- an empty interval: bounds that no key of the lists is within yield nothing
pub nothing-within : (lists : List (List Version)) (lo hi : Bound) (s : ℕ) → ((z : Placed) → In z (everything lists) → within lo hi z ≡ false) → entries lists lo hi s ≡ []
unfolding entries answers
nothing-within lists lo hi s h = rw (only_none (within lo hi) (everything lists) (every _ _ _ h (all_among (everything lists)))) (unfold sort only firsts in refl)

-- an inverted one: the upper bound below the lower, both included; excluded they admit fewer keys still
no_key : (a b k : List ℕ) → compare b a ≡ Less → (from_lower (Included a) k && to_upper (Included b) k) ≡ false
no_key a b k h = go (keys k a)
  where
    above : compare b k ≡ Less → (from_lower (Included a) k && to_upper (Included b) k) ≡ false
    above e = and_right (from_lower (Included a) k) (to_upper (Included b) k) (unfold to_upper in ap not (is-less (compare b k) e))

    go : Keys k a → (from_lower (Included a) k && to_upper (Included b) k) ≡ false
    go (less e) = and_left (from_lower (Included a) k) (to_upper (Included b) k) (unfold from_lower in ap not (is-less (compare k a) e))
    go (one e) = above (rw e h)
    go (more e) = above (compare-trans b a k h e)

pub inverted-none : (lists : List (List Version)) (a b : List ℕ) (s : ℕ) → compare b a ≡ Less → entries lists (Included a) (Included b) s ≡ []
unfolding within
inverted-none lists a b s h = nothing-within lists _ _ s (λ z m. no_key a b z.version.key h)

-- from a key to the same key, excluded
pub point-none : (lists : List (List Version)) (a : List ℕ) (s : ℕ) → entries lists (Included a) (Excluded a) s ≡ []
unfolding within from_lower to_upper
point-none lists a s = nothing-within lists _ _ s (λ z m. not-and_self (is_less (compare z.version.key a)))
