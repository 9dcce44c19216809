-- One pass over an accepted list, a record held back until the next is read: what is left of its versions and fates falls by one each turn, since a record's place gives the next one's.
use Rattle.std.specs.Prelude.{Ok, Err}
use Prim.Native.Nat.{ℕ, zero, suc, ◌+◌, ◌-◌, ◌≤◌, ◌<◌}
use mathlib.Core.Path.{◌≡◌, refl, sym, ap, ◌∙◌}
use mathlib.Core.List.{List, [], ◌∷◌, map, flat_map}
use mathlib.Core.Bool.{Bool, true, false}
use mathlib.Core.Option.{Option, none, some, Option-elim}
use native.Mathlib.Omega.{arith}
use native.Mathlib.Numerals.{add-one}
use lib.ListN.{length, take, drop, length-map}
use Rattle.list.specs.Limits.{header_size}
use Rattle.list.specs.Pick.{pick, on_result}
use Rattle.list.specs.Record.{read_at, key_of, value_of, no_record}
use Rattle.list.specs.Check.{check_list}
use Rattle.list.specs.Version.{Version, Bytes, record_of, version_at, records_at, versions_of}
use Rattle.list.specs.PointRead.{of_key}
use Rattle.list.specs.declared.record.Record.{Record}
use Rattle.list.specs.Record.{Read}
use Rattle.list.proofs.Accepted.{header-count}
use Rattle.list.proofs.Meaning.{accepted-count}
use Rattle.list.proofs.Whole.{inside, keyed}
use Rattle.list.proofs.Fits.{length-record}
use Rattle.compaction.specs.declared.stream.Job.{Job}
use Rattle.compaction.specs.Fate.{Fate, is_kept, FilterVerdict, WithVerdict, with_verdicts, filter_item, dropped, goes, head_fate, leave, histories, fates}
use Rattle.compaction.specs.Turn.{following, Decided, turn, next_of}
use Rattle.compaction.proofs.Loop.{fate_if, tailed, loop, loop-is}
use Rattle.list.proofs.Parts.{part_length}
use Rattle.list.proofs.Strict.{differ}

-- the record held, with the verdict on its number
abbrev pub asked_at : (ℕ → FilterVerdict) → ℕ → List ℕ → Record → WithVerdict
asked_at q i s h = record { version = version_at s h; verdict = q i }

-- what is left, the record held being the first
unfoldable pub rest : (ℕ → FilterVerdict) → ℕ → ℕ → List ℕ → Record → List WithVerdict
rest q i zero s h = []
rest q i (suc n) s h = asked_at q i s h ∷ with_verdicts q (suc i) (map (version_at s) (records_at n s h.next))

-- the fates left
unfoldable pub fates_from : Job → Bool → List WithVerdict → List Fate
fates_from j t [] = []
fates_from j t (a ∷ bs) = loop j t a bs

pub fates-from : (j : Job) (bs : List WithVerdict) → fates_from j false bs ≡ fates j bs
unfolding fates_from fates histories flat_map
fates-from j [] = refl
fates-from j (a ∷ bs) = loop-is j a bs

-- n records are left: the one held, read from its place, and whole ones behind it
pub data Held (s : List ℕ) (at : ℕ) (h : Record) : ℕ → Type 0 where
  over : Held s at h zero
  held : {n : ℕ} → read_at s at ≡ Ok h → length (records_at n s h.next) ≡ n → Held s at h (suc n)

-- the first of n whole records
module _ (s : List ℕ) (at : ℕ) where
  data First (n : ℕ) : Type 0 where
    first : (e : Record) → read_at s at ≡ Ok e → length (records_at n s e.next) ≡ n → First n

  first_of : (n : ℕ) → length (records_at (suc n) s at) ≡ suc n → First n
  unfolding records_at on_result
  first_of n l = go (read_at s at) refl l
    where
      go : (r : Read) → read_at s at ≡ r → length (on_result r (λ e. e ∷ records_at n s e.next) (λ k. [])) ≡ suc n → First n
      go (Ok e) i m = first e i (omega (arith, m))
      go (Err k) i m = absurd (omega (arith, m))

  next-is : (n : ℕ) (e : Record) → read_at s at ≡ Ok e → next_of (suc n) s at ≡ e
  unfolding next_of on_result
  next-is n e i = rw i

  module _ (w : Record) where
    pub first-held : (n : ℕ) → length (records_at n s at) ≡ n → w ≡ next_of n s at → Held s at w n
    first-held zero l i = over
    first-held (suc n) l i = go (first_of n l)
      where
        go : First n → Held s at w (suc n)
        go (first e r m) = let x : w ≡ e = i ∙ next-is n e r in held {n = n} (rw x r) (rw x m)

    pub first_rest : (q : ℕ → FilterVerdict) (i n : ℕ) → length (records_at n s at) ≡ n → w ≡ next_of n s at → rest q i n s w ≡ with_verdicts q i (map (version_at s) (records_at n s at))
    unfolding rest with_verdicts records_at on_result
    first_rest q i zero l e = refl
    first_rest q i (suc n) l e = go (first_of n l)
      where
        go : First n → rest q i (suc n) s w ≡ with_verdicts q i (map (version_at s) (records_at (suc n) s at))
        go (first x r m) = let y : w ≡ x = e ∙ next-is n x r in rw (y, r)

-- what the record held is
module _ (s : List ℕ) (at : ℕ) (h : Record) where
  pub held_reads : (n : ℕ) → Held s at h n → 0 < n → read_at s at ≡ Ok h
  held_reads zero over p = absurd (omega arith)
  held_reads (suc n) (held r l) p = r

  pub held-behind : (n m : ℕ) → Held s at h n → n ≡ suc m → length (records_at m s h.next) ≡ m
  held-behind zero m over e = absurd (omega arith)
  held-behind (suc n) m (held r l) e = let i : n ≡ m = omega arith in rw i at l

  pub held-grows : (n : ℕ) → Held s at h n → 0 < n → at ≤ h.next
  held-grows n here p = omega (arith, inside s at h (held_reads n here p))

  module _ (reads : read_at s at ≡ Ok h) where
    pub key_in : h.key + h.klen ≤ length s
    key_in = omega (arith, inside s at h reads)

    pub held-length : length (record_of (version_at s h)) ≡ h.next - at
    unfolding version_at key_of value_of
    held-length =
        let i = inside s at h reads in
        let k = part_length s h.key h.klen (omega arith) in
        let v = part_length s h.value h.vlen (omega arith) in
        omega (arith, length-record (version_at s h))

    -- no record has an empty key
    last-other : of_key (version_at s h).key (version_at s no_record) ≡ false
    unfolding of_key version_at key_of no_record
    last-other = differ (take h.klen (drop h.key s)) [] (λ e. omega (arith, ap length e, part_length s h.key h.klen key_in, keyed s at h reads))

-- the fate that a turn decides of a record of which the filter made f
unfoldable pub fated : Job → Fate → Decided → Fate
fated j f r = record { leaves = pick r.kept (Option-elim f.leaves none (λ h. some (leave j h))) none; reported = r.reported }

turn-fate : (j : Job) (t : Bool) (f : Fate) (v w : Version) → pick t dropped (head_fate j f (following v w)) ≡ fated j f (turn j t f v w)
unfolding dropped head_fate fated turn is_kept pick Option-elim
turn-fate j true f v w = refl
turn-fate j false f v w = go f.leaves
  where
    by : (h : Version) (b : Bool) → ◌≡◌ {A = Fate} (record { leaves = pick b none (some (leave j h)); reported = f.reported })
        (record { leaves = pick (Option-elim (pick b none (some (leave j h))) false (λ v. true)) (some (leave j h)) none; reported = f.reported })
    by h true = refl
    by h false = refl

    go : (o : Option Version) → ◌≡◌ {A = Fate} (record { leaves = Option-elim o none (λ h. pick (goes j h (following v w)) none (some (leave j h))); reported = f.reported })
        (record {
          leaves = pick (Option-elim (Option-elim o none (λ h. pick (goes j h (following v w)) none (some (leave j h)))) false (λ v. true)) (Option-elim o none (λ h. some (leave j h))) none;
          reported = f.reported;
        })
    go none = refl
    go (some h) = by h (goes j h (following v w))

module _ (j : Job) (t : Bool) (a b : WithVerdict) where
  abbrev pub turn_of : Decided
  turn_of = turn j t (filter_item a) a.version b.version

  loop-turn : (bs : List WithVerdict) → loop j t a (b ∷ bs) ≡ fated j (filter_item a) turn_of ∷ loop j turn_of.tail b bs
  unfolding loop fate_if tailed
  loop-turn bs = ap (λ (f : Fate). f ∷ loop j turn_of.tail b bs) (turn-fate j t (filter_item a) a.version b.version)

  last_turn : of_key a.version.key b.version ≡ false → loop j t a [] ≡ fated j (filter_item a) turn_of ∷ []
  unfolding loop fate_if following pick
  last_turn e = ap (λ (us : List Version). pick t dropped (head_fate j (filter_item a) us) ∷ []) (simp e) ∙ ap (λ (f : Fate). f ∷ []) (turn-fate j t (filter_item a) a.version b.version)

-- one turn: w is the next record
module _ (s : List ℕ) (at : ℕ) (h w : Record) (n m : ℕ) (here : Held s at h n) (more : n ≡ suc m) (next : w ≡ next_of m s h.next) where
  behind : length (records_at m s h.next) ≡ m
  behind = held-behind s at h n m here more

  reads : read_at s at ≡ Ok h
  reads = held_reads s at h n here (omega arith)

  pub next-held : Held s h.next w m
  next-held = first-held s h.next w m behind next

  pub next-rest : (q : ℕ → FilterVerdict) (i : ℕ) → rest q i n s h ≡ asked_at q i s h ∷ rest q (i + 1) m s w
  unfolding rest
  next-rest q i = rw (more, add-one) (ap (λ (l : List WithVerdict). asked_at q i s h ∷ l) (sym (first_rest s h.next w q (suc i) m behind next)))

  pub next-fates : (q : ℕ → FilterVerdict) (i : ℕ) (j : Job) (t : Bool) → fates_from j t (rest q i n s h)
      ≡ fated j (filter_item (asked_at q i s h)) (turn_of j t (asked_at q i s h) (asked_at q (i + 1) s w))
      ∷ fates_from j (turn_of j t (asked_at q i s h) (asked_at q (i + 1) s w)).tail (rest q (i + 1) m s w)
  next-fates q i j t = ap (fates_from j t) (next-rest q i) ∙ go m next
    where
      go : (m : ℕ) → w ≡ next_of m s h.next → fates_from j t (asked_at q i s h ∷ rest q (i + 1) m s w)
          ≡ fated j (filter_item (asked_at q i s h)) (turn_of j t (asked_at q i s h) (asked_at q (i + 1) s w))
          ∷ fates_from j (turn_of j t (asked_at q i s h) (asked_at q (i + 1) s w)).tail (rest q (i + 1) m s w)
      go zero e = unfold rest fates_from in last_turn j t (asked_at q i s h) (asked_at q (i + 1) s w) other
        where
          other : of_key (version_at s h).key (version_at s w) ≡ false
          other = unfold next_of in rw e (last-other s at h reads)
      go (suc m) e = unfold rest fates_from in loop-turn j t (asked_at q i s h) (asked_at q (i + 1) s w) _

  -- both keys lie in the list
  pub keys_in : (h.key + h.klen ≤ length s) × (w.key + w.klen ≤ length s)
  keys_in = (key_in s at h reads, go m next next-held)
    where
      go : (m : ℕ) → w ≡ next_of m s h.next → Held s h.next w m → w.key + w.klen ≤ length s
      go zero i over = unfold next_of no_record in rw i (omega arith)
      go (suc m) i (held r l) = key_in s h.next w r

-- an accepted list's records and versions
module _ (s : List ℕ) (n : ℕ) (b : Bytes s) (h : check_list s ≡ Ok n) where
  pub versions-are : versions_of s ≡ map (version_at s) (records_at n s header_size)
  unfolding versions_of
  versions-are = rw (header-count s n h)

  pub all_there : length (records_at n s header_size) ≡ n
  all_there = sym (length-map (records_at n s header_size) (version_at s)) ∙ ap length (sym versions-are) ∙ accepted-count s n b h
