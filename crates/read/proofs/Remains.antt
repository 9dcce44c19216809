-- What is left of a start is what lies within the bounds, since each source's ends are those of the stretch that the bounds admit.
use Prim.Native.Nat.{ℕ, zero, suc, ◌+◌, ◌-◌, ◌≤◌, ◌<◌}
use mathlib.Core.Path.{◌≡◌, refl, sym, ap, ◌∙◌}
use mathlib.Core.List.{List, [], ◌++◌}
use mathlib.Core.Bool.{Bool}
use mathlib.Core.Option.{Option, Option-elim, some}
use native.Mathlib.Omega.{arith}
use lib.ListN.{length, get_or, take, drop, length-set}
use lib.Seq.{get_or-set_same, get_or-set_other, take_all}
use Rattle.list.specs.Version.{Version}
use Rattle.list.proofs.Strict.{Three, eq, gt, lt, three}
use Rattle.merge.specs.Placed.{Placed}
use Rattle.merge.specs.Merged.{numbered, gather, everything}
use Rattle.merge.specs.Plain.{front_at, back_at}
use Rattle.merge.specs.declared.ends.Ends.{Ends}
use Rattle.merge.specs.Private.{Fitting}
use Rattle.merge.proofs.Turn.{run, window, gather-same}
use Rattle.merge.proofs.Numbered.{placed_in, size_in, Ordered, Finds, numbered-rises, length-numbered, part-run, between-window}
use Rattle.read.specs.Bounds.{Bound, within}
use Rattle.read.specs.Entries.{only}
use Rattle.read.specs.Start.{recorded, first_from, end_to, with_ends, start_to}
use Rattle.read.proofs.Lists.{only-append}
use Rattle.read.proofs.Stretch.{end_is, first-in, last-in, trimmed}

-- the versions of list k, numbered
abbrev pub listed : List (List Version) → ℕ → List Placed
listed lists k = numbered k 0 (get_or lists k [])

-- the start's ends, as far as n lists
pub record StartedTo (n : ℕ) (lists : List (List Version)) (lo hi : Bound) (c d : Ends) : Type 0 where
  pub same-front : length d.front ≡ length c.front
  pub same_back : length d.back ≡ length c.back
  pub front-stands : (k : ℕ) → k < n → front_at d k ≡ first_from lo (listed lists k)
  pub back-stands : (k : ℕ) → k < n → back_at d k ≡ end_to lo hi (listed lists k)
  pub front_rest : (k : ℕ) → n ≤ k → front_at d k ≡ front_at c k
  pub back-rest : (k : ℕ) → n ≤ k → back_at d k ≡ back_at c k

-- records read one after the other
recorded-run : (m : ℕ) (look : ℕ → ℕ → Option Placed) (ver : ℕ → ℕ → Placed) (k i : ℕ) → ((j : ℕ) → j < i + m → look k j ≡ some (ver k j)) → recorded m (look k) i ≡ some (run ver k i m)
unfolding recorded run Option-elim
recorded-run zero look ver k i h = refl
recorded-run (suc m) look ver k i h = rw (h i (omega arith), recorded-run m look ver k (suc i) (λ j l. h j (omega arith)))

run-listed : (lists : List (List Version)) (k : ℕ) → run (placed_in lists) k 0 (size_in lists k) ≡ listed lists k
run-listed lists k =
    let l : length (listed lists k) ≡ size_in lists k = unfold size_in in length-numbered k 0 (get_or lists k []) in
    sym (part-run lists k 0 (size_in lists k) (omega arith)) ∙ take_all (size_in lists k) (listed lists k) (omega arith)

module _ (c : Ends) (k f b : ℕ) where
  ends-front : k < length c.front → front_at (with_ends c k f b) k ≡ f
  unfolding front_at with_ends
  ends-front h = get_or-set_same c.front k f 0 h

  ends-back : k < length c.back → back_at (with_ends c k f b) k ≡ b
  unfolding back_at with_ends
  ends-back h = get_or-set_same c.back k b 0 h

  other-front : (j : ℕ) → (j ≡ k → ⊥) → front_at (with_ends c k f b) j ≡ front_at c j
  unfolding front_at with_ends
  other-front j d = get_or-set_other c.front k j f 0 d

  other-back : (j : ℕ) → (j ≡ k → ⊥) → back_at (with_ends c k f b) j ≡ back_at c j
  unfolding back_at with_ends
  other-back j d = get_or-set_other c.back k j b 0 d

module _ (lists : List (List Version)) (look : ℕ → ℕ → Option Placed) (finds : Finds lists look) (lo hi : Bound) (c : Ends)
    (front-room : length lists ≤ length c.front) (back-room : length lists ≤ length c.back) where
  one_more : (n : ℕ) → n < length lists → (d : Ends) → StartedTo n lists lo hi c d
      → StartedTo (suc n) lists lo hi c (with_ends d n (first_from lo (listed lists n)) (end_to lo hi (listed lists n)))
  one_more n l d s = record {
    same-front = (unfold with_ends in simp length-set s.same-front);
    same_back = (unfold with_ends in simp length-set s.same_back);
    front-stands = λ k h. fronts k h (three k n);
    back-stands = λ k h. backs k h (three k n);
    front_rest = λ k h. other-front d n f b k (λ e. omega arith) ∙ s.front_rest k (omega arith);
    back-rest = λ k h. other-back d n f b k (λ e. omega arith) ∙ s.back-rest k (omega arith);
  }
    where
      f : ℕ
      f = first_from lo (listed lists n)

      b : ℕ
      b = end_to lo hi (listed lists n)

      fronts : (k : ℕ) → k < suc n → Three k n → front_at (with_ends d n f b) k ≡ first_from lo (listed lists k)
      fronts k h (lt q) = other-front d n f b k (λ e. omega arith) ∙ s.front-stands k q
      fronts k h (eq q) = rw q (ends-front d n f b (omega (arith, s.same-front)))
      fronts k h (gt q) = absurd (omega arith)

      backs : (k : ℕ) → k < suc n → Three k n → back_at (with_ends d n f b) k ≡ end_to lo hi (listed lists k)
      backs k h (lt q) = other-back d n f b k (λ e. omega arith) ∙ s.back-stands k q
      backs k h (eq q) = rw q (ends-back d n f b (omega (arith, s.same_back)))
      backs k h (gt q) = absurd (omega arith)

  all_whole : (n : ℕ) → n < length lists → recorded (size_in lists n) (look n) 0 ≡ some (listed lists n)
  all_whole n l = recorded-run (size_in lists n) look (placed_in lists) n 0 (λ j h. finds n j l (omega arith)) ∙ ap some (run-listed lists n)

  started-to : (n : ℕ) → n ≤ length lists → (d : Ends) × (start_to n (size_in lists) look lo hi c ≡ some d) × StartedTo n lists lo hi c d
  unfolding start_to Option-elim
  started-to zero l = (c, refl, record { same-front = refl; same_back = refl; front-stands = λ k h. absurd (omega arith); back-stands = λ k h. absurd (omega arith); front_rest = λ k h. refl; back-rest = λ k h. refl })
  started-to (suc n) l =
      let r = started-to n (omega arith) in
      (with_ends r.0 n (first_from lo (listed lists n)) (end_to lo hi (listed lists n)), rw (r.1, all_whole n (omega arith)), one_more n (omega arith) r.0 r.2)

  only-gather : (t : Placed → Bool) (n : ℕ) (f : ℕ → List Placed) → only t (gather n f) ≡ gather n (λ k. only t (f k))
  unfolding gather
  only-gather t zero f = unfold only in refl
  only-gather t (suc n) f = only-append t (gather n f) (f n) ∙ ap (λ l. l ++ only t (f n)) (only-gather t n f)

  module _ (d : Ends) (s : StartedTo (length lists) lists lo hi c d) where
    started-fits : Fitting (length lists) (size_in lists) d
    unfolding size_in
    started-fits = record {
      front-room = omega (arith, s.same-front);
      back-room = omega (arith, s.same_back);
      uncrossed = λ k l. omega (arith, s.front-stands k l, s.back-stands k l, end_is lo hi (listed lists k));
      inside = λ k l. omega (arith, s.back-stands k l, end_is lo hi (listed lists k), first-in lo (listed lists k), last-in hi (listed lists k), length-numbered k 0 (get_or lists k []));
    }

    each_part : Ordered lists → (k : ℕ) → k < length lists → take (back_at d k - front_at d k) (drop (front_at d k) (listed lists k)) ≡ only (within lo hi) (listed lists k)
    each_part o k l = rw (s.front-stands k l, s.back-stands k l) (trimmed lo hi (listed lists k) (numbered-rises k 0 _ (o k l)))

    started-left : Ordered lists → gather (length lists) (window (placed_in lists) d) ≡ only (within lo hi) (everything lists)
    unfolding everything
    started-left o = sym (between-window lists d started-fits) ∙ gather-same _ _ _ (each_part o) ∙ sym (only-gather (within lo hi) (length lists) (listed lists))

  -- from a start, what is between the ends is all that lies within the bounds
  pub start_left : Ordered lists → (d : Ends) × (start_to (length lists) (size_in lists) look lo hi c ≡ some d)
      × Fitting (length lists) (size_in lists) d × (gather (length lists) (window (placed_in lists) d) ≡ only (within lo hi) (everything lists)) × StartedTo (length lists) lists lo hi c d
  start_left o =
      let r = started-to (length lists) (omega arith) in
      (r.0, r.1, started-fits r.0 r.2, started-left r.0 r.2 o, r.2)
