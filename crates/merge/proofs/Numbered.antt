-- Lists of versions, each in strict order, rise as they are numbered; a reader that finds them has them opened, so that what is between two ends is a part of each list.
use Prim.Native.Nat.{ℕ, zero, suc, ◌+◌, ◌-◌, ◌≤◌, ◌<◌}
use mathlib.Core.Path.{◌≡◌, refl, ap, ap₂, ◌∙◌}
use mathlib.Core.List.{List, [], ◌∷◌}
use mathlib.Core.Option.{Option, some}
use native.Mathlib.Omega.{arith}
use lib.ListN.{length, get_or, take, drop}
use lib.Seq.{drop-cons}
use Rattle.list.specs.Version.{Version, InOrder, Above}
use Rattle.list.specs.declared.value_type.ValueType.TheVariants.{Value}
use Rattle.merge.specs.Placed.{Placed}
use Rattle.merge.specs.Merged.{numbered, gather}
use Rattle.merge.specs.Plain.{Ends, front_at, back_at}
use Rattle.merge.specs.Private.{Fitting}
use Rattle.merge.proofs.Order.{Before, before-trans, ordered-told}
use Rattle.merge.proofs.Lists.{All, no_one, also, every, Chain, no-link, link}
use Rattle.merge.proofs.Turn.{run, window, Opened, gather-same}

unfoldable pub no_version : Version
no_version = record { key = []; seqno = 0; kind = Value; value = [] }

unfoldable pub version_in : List (List Version) → ℕ → ℕ → Version
version_in lists k i = get_or (get_or lists k []) i no_version

-- version i of list k, placed
unfoldable pub placed_in : List (List Version) → ℕ → ℕ → Placed
placed_in lists k i = record { version = version_in lists k i; list = k; number = i }

unfoldable pub size_in : List (List Version) → ℕ → ℕ
size_in lists k = length (get_or lists k [])

-- each before all that follow it
abbrev pub Rises : List Placed → Type 0
Rises = Chain Before

pub numbered-rises : (k i : ℕ) (vs : List Version) → InOrder vs → Rises (numbered k i vs)
unfolding InOrder Above numbered
numbered-rises k i [] h = no-link
numbered-rises k i (v ∷ []) h = link no_one no-link
numbered-rises k i (v ∷ w ∷ vs) h =
    go (ordered-told (record { version = v; list = k; number = i }) (record { version = w; list = k; number = suc i }) h.0) (numbered-rises k (suc i) (w ∷ vs) h.1)
  where
    go : Before (record { version = v; list = k; number = i }) (record { version = w; list = k; number = suc i }) → Rises (numbered k (suc i) (w ∷ vs)) → Rises (numbered k i (v ∷ w ∷ vs))
    go b (link f g) = link (also b (every _ _ _ (λ z q. before-trans _ _ z b q) f)) (link f g)

all-at : (P : Placed → Type 0) (l : List Placed) (d : Placed) (j : ℕ) → All P l → j < length l → P (get_or l j d)
all-at P [] d j f h = absurd (omega arith)
all-at P (x ∷ l) d zero (also p f) h = p
all-at P (x ∷ l) d (suc j) (also p f) h = all-at P l d j f (omega arith)

rises-at : (l : List Placed) (d : Placed) (i j : ℕ) → Rises l → i < j → j < length l → Before (get_or l i d) (get_or l j d)
rises-at [] d i j r p q = absurd (omega arith)
rises-at (x ∷ l) d i zero r p q = absurd (omega arith)
rises-at (x ∷ l) d zero (suc j) (link f g) p q = all-at _ l d j f (omega arith)
rises-at (x ∷ l) d (suc i) (suc j) (link f g) p q = rises-at l d i j g (omega arith) (omega arith)

pub length-numbered : (k i : ℕ) (vs : List Version) → length (numbered k i vs) ≡ length vs
unfolding numbered
length-numbered k i [] = refl
length-numbered k i (v ∷ vs) = ap suc (length-numbered k (suc i) vs)

at-numbered : (k i : ℕ) (vs : List Version) (d : Placed) (j : ℕ) → j < length vs → get_or (numbered k i vs) j d ≡ record { version = get_or vs j no_version; list = k; number = i + j }
unfolding numbered
at-numbered k i [] d j h = absurd (omega arith)
at-numbered k i (v ∷ vs) d zero h = ap (λ m. record { version = v; list = k; number = m }) (omega arith)
at-numbered k i (v ∷ vs) d (suc j) h = at-numbered k (suc i) vs d j (omega arith) ∙ ap (λ m. record { version = get_or vs j no_version; list = k; number = m }) (omega arith)

somewhere : Placed
somewhere = record { version = no_version; list = 0; number = 0 }

-- every list in strict order
abbrev pub Ordered : List (List Version) → Type 0
Ordered lists = (k : ℕ) → k < length lists → InOrder (get_or lists k [])

-- a reader that finds these lists: over bytes, over versions, or behind a heap
abbrev pub Finds : List (List Version) → (ℕ → ℕ → Option Placed) → Type 0
Finds lists look = (k i : ℕ) → k < length lists → i < size_in lists k → look k i ≡ some (placed_in lists k i)

pub opened-by : (lists : List (List Version)) → Ordered lists → (look : ℕ → ℕ → Option Placed) → Finds lists look → Opened (length lists) look (placed_in lists) (size_in lists)
unfolding placed_in version_in size_in
opened-by lists h look finds = record {
  reads = finds;
  apart = λ k l i j a b p q d e. d e;
  rises = λ k i j l p q.
      let vs : List Version = get_or lists k [] in
      let r : Before (get_or (numbered k 0 vs) i somewhere) (get_or (numbered k 0 vs) j somewhere)
      = rises-at (numbered k 0 vs) somewhere i j (numbered-rises k 0 vs (h k l)) p (rw length-numbered q) in
      let a : get_or (numbered k 0 vs) i somewhere ≡ record { version = get_or vs i no_version; list = k; number = i }
      = at-numbered k 0 vs somewhere i (omega arith) ∙ ap (λ m. record { version = get_or vs i no_version; list = k; number = m }) (omega arith) in
      let b : get_or (numbered k 0 vs) j somewhere ≡ record { version = get_or vs j no_version; list = k; number = j }
      = at-numbered k 0 vs somewhere j q ∙ ap (λ m. record { version = get_or vs j no_version; list = k; number = m }) (omega arith) in
      rw b at (rw a at r);
}

-- sizes that are told otherwise
pub opened-sized : (n : ℕ) (look : ℕ → ℕ → Option Placed) (ver : ℕ → ℕ → Placed) (size other : ℕ → ℕ) → ((k : ℕ) → k < n → other k ≡ size k) → Opened n look ver size → Opened n look ver other
opened-sized n look ver size other h o = record {
  reads = λ k i l p. o.reads k i l (omega (arith, h k l));
  rises = λ k i j l p q. o.rises k i j l p (omega (arith, h k l));
  apart = λ k l i j p q u v. o.apart k l i j p q (omega (arith, h k p)) (omega (arith, h l q));
}

-- a part of a list, as a run
pub part-run : (lists : List (List Version)) (k i m : ℕ) → i + m ≤ size_in lists k → take m (drop i (numbered k 0 (get_or lists k []))) ≡ run (placed_in lists) k i m
unfolding run size_in version_in placed_in
part-run lists k i zero h = refl
part-run lists k i (suc m) h =
    let vs : List Version = get_or lists k [] in
    let l : i < length (numbered k 0 vs) = rw length-numbered (omega arith) in
    let a : get_or (numbered k 0 vs) i somewhere ≡ record { version = get_or vs i no_version; list = k; number = i }
    = at-numbered k 0 vs somewhere i (omega arith) ∙ ap (λ m. record { version = get_or vs i no_version; list = k; number = m }) (omega arith) in
    ap (take (suc m)) (drop-cons (numbered k 0 vs) i somewhere l) ∙ ap₂ ◌∷◌ a (part-run lists k (suc i) m (omega arith))

-- what is between two ends of each list
pub between-window : (lists : List (List Version)) (c : Ends) → Fitting (length lists) (size_in lists) c
    → gather (length lists) (λ k. take (back_at c k - front_at c k) (drop (front_at c k) (numbered k 0 (get_or lists k [])))) ≡ gather (length lists) (window (placed_in lists) c)
unfolding window
between-window lists c f = gather-same _ _ _ (λ k l. part-run lists k (front_at c k) (back_at c k - front_at c k) (omega (arith, f.uncrossed k l, f.inside k l)))
