-- Only private contracts and proofs cite these: a reader needs none of them.
use Rattle.std.specs.Prelude.{ℕ, zero, suc, ◌+◌, ◌-◌, ◌≤◌, ◌<◌, Bool, true, false, ltb, length, take, drop, Option, None, Some, Result, Ok, Err}
use Rattle.std.proofs.Math.Option as math
use Rattle.std.specs.Ordering.{nat_cmp, ordering_then}
use Rattle.std.specs.declared.cmp.Ordering.{Ordering}
use Rattle.list.specs.Order.{compare}
use Rattle.list.specs.Field.{word_at}
use Rattle.list.specs.Pick.{pick, on_result}
use Rattle.list.specs.Private.{version_by}
use Rattle.list.specs.Version.{version_at}
use Rattle.bundle.specs.Index.{count_at}
use Rattle.bundle.specs.Look.{place_in}
use Rattle.bundle.specs.declared.look.Bundle.{Bundle}
use Rattle.bundle.specs.declared.look.Span.{Span}
use Rattle.merge.specs.Placed.{Placed, same_key}
use Rattle.merge.specs.Reader.{reader}
use Rattle.merge.specs.Merge.{Reply, Nothing, Found, Torn}
use Rattle.merge.specs.Plain.{Ends, front_at, back_at, Head, next, sooner, ahead}
use Rattle.merge.specs.declared.ends.End.{End}
use Rattle.merge.specs.declared.ends.End.TheVariants.{Front, Back}
use Rattle.merge.specs.declared.ends.Left.{Left}
use Rattle.merge.specs.declared.seen.Seen.{Seen}
use Rattle.merge.specs.declared.head.Torn as code
use Rattle.merge.specs.declared.plain.Best.{Best}

-- A bundle as it is lent: how many records a list has, and what a reader finds.
abbrev pub size_in : Bundle → ℕ → ℕ
size_in b k = count_at b.bytes.now b.lengths.now k

abbrev pub reader_in : Bundle → ℕ → ℕ → math.Option Placed
reader_in b = reader b.bytes.now b.lengths.now b.index.now

-- Record i of list k, which lies at a span of the bundle.
unfoldable pub look_by : Bundle → Span → ℕ → ℕ → math.Option Placed
look_by b s k i =
    on_result (place_in b.bytes.now s.start (s.end - s.start) (word_at b.index.now (s.base + i)))
    (λ e. math.some (record { version = version_at (take (s.end - s.start) (drop s.start b.bytes.now)) e; list = k; number = i }))
    (λ why. math.none)

-- What source k has left, and which record of it stands next at an end.
abbrev pub left_of : Ends → ℕ → Left
left_of c k = record { front = front_at c k; back = back_at c k }

unfoldable pub place_at : End → Left → ℕ
place_at Front l = l.front
place_at Back l = l.back - 1

-- What source k has next, of which so much is left.
unfoldable pub next_by : End → (ℕ → math.Option Placed) → ℕ → Left → Reply Head
next_by e look k l = pick (ltb l.front l.back) (math.Option-elim (look (place_at e l)) Torn (λ x. Found (record { source = k; placed = x }))) Nothing

-- Two ends on n sources, source k having size k records: in order, and inside.
pub record Fitting (n : ℕ) (size : ℕ → ℕ) (c : Ends) : Type 0 where
  pub front-room : n ≤ length c.front
  pub back-room : n ≤ length c.back
  pub uncrossed : (k : ℕ) → k < n → front_at c k ≤ back_at c k
  pub inside : (k : ℕ) → k < n → back_at c k ≤ size k

-- What the code's records of places mean. Each list is a source.
unfoldable pub placed_at : Seen → Placed
placed_at x = record { version = version_by x.from_key.now 0 x.klen; list = x.list; number = x.number }

unfoldable pub head_of : Seen → Head
head_of x = record { source = x.list; placed = placed_at x }

unfoldable pub leader_of : Best → Head
leader_of best = head_of best.seen

-- What an answer of the code means, and f what it found.
unfoldable pub reply_of : {A B : Type 0} → (A → B) → Result (Option A) code.Torn → Reply B
reply_of f (Ok None) = Nothing
reply_of f (Ok (Some x)) = Found (f x)
reply_of f (Err t) = Torn

-- Whether there is a best, with its key next in another source.
unfoldable pub has_twin : Result (Option Best) code.Torn → Bool
has_twin (Ok None) = false
has_twin (Ok (Some best)) = best.twin
has_twin (Err t) = false

-- How two versions stand: by key, seqno descending, then list number; so `before` says that it is Less.
abbrev pub order : Placed → Placed → Ordering
order x y =
    ordering_then (compare x.version.key y.version.key)
    (ordering_then (nat_cmp y.version.seqno x.version.seqno) (nat_cmp x.list y.list))

-- Whether another source than the best one's has its key next.
unfoldable pub twin_of : End → Bool → Reply Head → Reply Head → Bool
twin_of e t s Nothing = t
twin_of e t s Torn = false
twin_of e t Nothing (Found y) = false
twin_of e t Torn (Found y) = false
twin_of e t (Found x) (Found y) = pick (sooner e y.placed x.placed) (same_key x.placed y.placed) (pick (same_key x.placed y.placed) true t)

unfoldable pub twins : ℕ → End → (ℕ → ℕ → math.Option Placed) → Ends → Bool
twins zero e look c = false
twins (suc n) e look c = twin_of e (twins n e look c) (ahead n e look c) (next e look c n)
