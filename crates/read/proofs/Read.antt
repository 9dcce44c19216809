-- Over an opened bundle: what is left of a start are the entries, a step takes from one end of what is left, and key and value of a place are its version's, because the reader finds the lists.
use Rattle.std.specs.Prelude.{Ok}
use native.Mathlib.Omega.{arith}
use mathlib.Core.List.{List, [], ◌∷◌, Memᴰ}
use mathlib.Core.Bool.{true, false}
use mathlib.Core.Option.{Option, Option-elim, some}
use borrow.Author.Tests.{lt-ltb}
use lib.ListN.{length, get_or, replicate, length-replicate}
use mathlib.Core.Path.{refl, sym, ap, ap₂, ◌≡◌, ◌∙◌}
use Prim.Native.Nat.{ℕ, zero, suc, ◌+◌, ◌-◌, ◌≤◌, ◌<◌}
use Rattle.list.specs.Field.{words_in}
use Rattle.list.specs.Pick.{pick, on_result}
use Rattle.list.specs.Version.{Version, Bytes, version_at}
use Rattle.list.specs.declared.record.Record.{Record}
use Rattle.list.proofs.Strict.{Three, eq, gt, lt, three}
use Rattle.bundle.specs.Bundle.{bundle_limit, list_at}
use Rattle.bundle.specs.Index.{count_at, open_bundle}
use Rattle.bundle.specs.Lists.{lists_of}
use Rattle.bundle.specs.Look.{look_at, records_in}
use Rattle.bundle.proofs.Finds.{finds, list-is, lists-number}
use Rattle.merge.specs.Placed.{Placed}
use Rattle.merge.specs.Merged.{numbered, gather, everything, sort}
use Rattle.merge.specs.Merge.{Reply, Nothing, Found, Torn}
use Rattle.merge.specs.Plain.{front_at, back_at, plain}
use Rattle.merge.specs.declared.ends.Ends.{Ends}
use Rattle.merge.specs.Reader.{reader}
use Rattle.merge.specs.Private.{Fitting}
use Rattle.merge.specs.declared.ends.End.{End}
use Rattle.merge.proofs.Lists.{All, no_one, also, join, every}
use Rattle.merge.proofs.Numbered.{no_version, version_in, placed_in, size_in}
use Rattle.merge.proofs.Turn.{window}
use Rattle.read.specs.Bounds.{Bound, within}
use Rattle.read.specs.Entries.{visible, only, answers, entries}
use Rattle.read.specs.Mvcc.{Entry, step}
use Rattle.read.specs.Cursor.{ends_of, stepped_of, step_in}
use Rattle.read.specs.Start.{start_to, nothing_left, overlong, begun, begin_in, start_in}
use Rattle.read.specs.Parts.{fit_record, fit_at, value_at, key_at}
use Rattle.read.specs.TwoEnds.{taken, others, step_for}
use Rattle.read.specs.declared.cursor.Cursor.{Cursor}
use Rattle.read.proofs.Firsts.{of-all}
use Rattle.read.proofs.Mix.{heard, after, one-step}
use Rattle.read.proofs.Standing.{records-there}
use Rattle.read.proofs.Remains.{StartedTo, start_left}
use Rattle.read.proofs.Opened.{index, lists-ordered, reader-finds, index-covers, lists-few, size_is, between, bundle-gives, fits-steady}

-- a start counts as the headers do
start-same : (n : ℕ) (f g : ℕ → ℕ) (look : ℕ → ℕ → Option Placed) (lo hi : Bound) (c : Ends) → ((k : ℕ) → k < n → f k ≡ g k) → start_to n f look lo hi c ≡ start_to n g look lo hi c
unfolding start_to
start-same zero f g look lo hi c h = refl
start-same (suc n) f g look lo hi c h = rw (start-same n f g look lo hi c (λ k l. h k (omega arith)), h n (omega arith))

zero-at : (m k : ℕ) → ◌≡◌ {A = ℕ} (get_or (replicate m 0) k 0) 0
zero-at zero k = refl
zero-at (suc m) zero = refl
zero-at (suc m) (suc k) = zero-at m k

-- what a caller hears of a step, and what is left
module _ (r : Reply (Entry Ends)) (c : Cursor) where
  hears : (stepped_of r c).step ≡ step_for (heard r)
  hears = go r
    where
      go : (r : Reply (Entry Ends)) → (stepped_of r c).step ≡ step_for (heard r)
      go Nothing = unfold stepped_of step_for heard in refl
      go (Found x) = unfold stepped_of step_for heard in refl
      go Torn = unfold stepped_of step_for heard in refl

  leaves : (ends_of (stepped_of r c).cursor ≡ after r (ends_of c)) × ((stepped_of r c).cursor.snapshot ≡ c.snapshot)
  leaves = go r
    where
      go : (r : Reply (Entry Ends)) → (ends_of (stepped_of r c).cursor ≡ after r (ends_of c)) × ((stepped_of r c).cursor.snapshot ≡ c.snapshot)
      go Nothing = unfold ends_of stepped_of after in (refl, refl)
      go (Found x) = unfold ends_of stepped_of after in (refl, refl)
      go Torn = unfold ends_of stepped_of after in (refl, refl)

module _ (b lens t : List ℕ) (count : ℕ) (bytes : Bytes b) (accepted : open_bundle b lens t ≡ Ok count) where
  abbrev ix : List ℕ
  ix = index b lens t count bytes accepted

  -- a cursor that stands on the bundle, as every start's does and every step's, and what is left of it
  abbrev pub Stands : Cursor → Type 0
  Stands c = Fitting bundle_limit (records_in b lens) (ends_of c)

  abbrev pub left_of : Cursor → List Placed
  left_of c = answers (visible c.snapshot) (between b lens t count bytes accepted (ends_of c))

  -- a step takes from its end of what is left, and leaves the others
  pub step-takes : (end : End) (c : Cursor) → Stands c
      → ((step_in end b lens ix c).step ≡ step_for (taken end (left_of c))) × (left_of (step_in end b lens ix c).cursor ≡ others end (left_of c)) × Stands (step_in end b lens ix c).cursor
  step-takes end c f =
      let r : Reply (Entry Ends) = step (plain (words_in lens) (reader b lens ix)) end (visible c.snapshot) (ends_of c) in
      let e : step_in end b lens ix c ≡ stepped_of r c = unfold step_in pick in rw (fits-steady b lens t count bytes accepted (ends_of c) f) in
      let m = one-step (plain (words_in lens) (reader b lens ix)) (Fitting bundle_limit (records_in b lens)) (between b lens t count bytes accepted) (bundle-gives b lens t count bytes accepted) (visible c.snapshot) end (ends_of c) f in
      let l = leaves r c in
      rw e (hears r c ∙ ap step_for m.0, rw (l.0, l.1) m.1, rw l.0 m.2)

  begins-so : (lo hi : Bound) (s : ℕ) → overlong lo ≡ false → overlong hi ≡ false → (d : Ends) → start_to (words_in lens) (count_at b lens) (reader b lens ix) lo hi nothing_left ≡ some d
      → start_in b lens ix lo hi s ≡ begun d s
  unfolding start_in begin_in pick Option-elim on_result
  begins-so lo hi s u v d q = rw (index-covers b lens t count bytes accepted, q, u, v)

  stands-so : (lo hi : Bound) (d : Ends) → Fitting (length (lists_of b lens)) (size_in (lists_of b lens)) d → StartedTo (length (lists_of b lens)) (lists_of b lens) lo hi nothing_left d
      → Fitting bundle_limit (records_in b lens) d
  unfolding nothing_left
  stands-so lo hi d f g = record {
    front-room = omega (arith, g.same-front, length-replicate {A = ℕ} bundle_limit 0);
    back-room = omega (arith, g.same_back, length-replicate {A = ℕ} bundle_limit 0);
    uncrossed = λ k l. first k (three k (length (lists_of b lens)));
    inside = λ k l. second k (three k (length (lists_of b lens)));
  }
    where
      front-zero : (k : ℕ) → length (lists_of b lens) ≤ k → front_at d k ≡ 0
      front-zero k h = g.front_rest k h ∙ (unfold front_at in zero-at bundle_limit k)

      back-zero : (k : ℕ) → length (lists_of b lens) ≤ k → back_at d k ≡ 0
      back-zero k h = g.back-rest k h ∙ (unfold back_at in zero-at bundle_limit k)

      first : (k : ℕ) → Three k (length (lists_of b lens)) → front_at d k ≤ back_at d k
      first k (lt h) = f.uncrossed k h
      first k (eq h) = omega (arith, front-zero k (omega arith))
      first k (gt h) = omega (arith, front-zero k (omega arith))

      second : (k : ℕ) → Three k (length (lists_of b lens)) → back_at d k ≤ records_in b lens k
      second k (lt h) = omega (arith, f.inside k h, records-there b lens k (omega (arith, lists-number b lens)), size_is b lens t count bytes accepted k h)
      second k (eq h) = omega (arith, back-zero k (omega arith))
      second k (gt h) = omega (arith, back-zero k (omega arith))

  -- from a start, what is left of the cursor is the entries
  pub start-reads : (lo hi : Bound) (s : ℕ) → overlong lo ≡ false → overlong hi ≡ false
      → (d : Ends) × (start_in b lens ix lo hi s ≡ begun d s) × Fitting bundle_limit (records_in b lens) d × (answers (visible s) (between b lens t count bytes accepted d) ≡ entries (lists_of b lens) lo hi s)
  unfolding entries
  start-reads lo hi s u v =
      let few = lists-few b lens t count bytes accepted in
      let many = lists-number b lens in
      let room : length nothing_left.front ≡ bundle_limit = unfold nothing_left bundle_limit in refl in
      let backroom : length nothing_left.back ≡ bundle_limit = unfold nothing_left bundle_limit in refl in
      let r = start_left (lists_of b lens) (reader b lens ix) (reader-finds b lens t count bytes accepted) lo hi nothing_left (omega arith) (omega arith) (lists-ordered b lens t count bytes accepted) in
      let q : start_to (words_in lens) (count_at b lens) (reader b lens ix) lo hi nothing_left ≡ some r.0
      = start-same (words_in lens) (count_at b lens) (size_in (lists_of b lens)) (reader b lens ix) lo hi nothing_left (λ k l. sym (size_is b lens t count bytes accepted k (omega arith)))
      ∙ ap (λ n. start_to n (size_in (lists_of b lens)) (reader b lens ix) lo hi nothing_left) (sym many) ∙ r.1 in
      let w : between b lens t count bytes accepted r.0 ≡ sort (only (within lo hi) (everything (lists_of b lens)))
      = ap (λ n. sort (gather n (window (placed_in (lists_of b lens)) r.0))) (sym many) ∙ ap sort r.3 in
      (r.0, begins-so lo hi s u v r.0 q, stands-so lo hi r.0 r.2 r.4, ap (answers (visible s)) w)

-- where a version stands
record There (lists : List (List Version)) (z : Placed) : Type 0 where
  in-lists : z.list < length lists
  in_list : z.number < size_in lists z.list
  is-there : z.version ≡ version_in lists z.list z.number

record Among-list (k i : ℕ) (vs : List Version) (z : Placed) : Type 0 where
  of-list : z.list ≡ k
  from : i ≤ z.number
  below : z.number < i + length vs
  holds : z.version ≡ get_or vs (z.number - i) no_version

numbered-among : (k i : ℕ) (vs : List Version) → All (Among-list k i vs) (numbered k i vs)
unfolding numbered
numbered-among k i [] = no_one
numbered-among k i (v ∷ vs) =
    let e : ◌≡◌ {A = ℕ} 0 (i - i) = omega arith in
    also {x = record { version = v; list = k; number = i }} (record { of-list = refl; from = omega arith; below = omega arith; holds = ap (λ j. get_or (v ∷ vs) j no_version) e }) (every _ _ _ (λ z q. further z q) (numbered-among k (suc i) vs))
  where
    further : (z : Placed) → Among-list k (suc i) vs z → Among-list k i (v ∷ vs) z
    further z q =
        let e : suc (z.number - suc i) ≡ z.number - i = omega (arith, q.from) in
        record { of-list = q.of-list; from = omega (arith, q.from); below = omega (arith, q.below); holds = q.holds ∙ ap (λ j. get_or (v ∷ vs) j no_version) e }

module _ (lists : List (List Version)) where
  gather-there : (n : ℕ) → n ≤ length lists → All (There lists) (gather n (λ k. numbered k 0 (get_or lists k [])))
  unfolding gather size_in version_in
  gather-there zero h = no_one
  gather-there (suc n) h = join _ _ _ (gather-there n (omega arith)) (every _ _ _ (λ z q. at-list z q) (numbered-among n 0 (get_or lists n [])))
    where
      at-list : (z : Placed) → Among-list n 0 (get_or lists n []) z → There lists z
      at-list z q =
          let e : z.number - 0 ≡ z.number = omega arith in
          record {
            in-lists = omega (arith, q.of-list);
            in_list = omega (arith, q.below, ap (λ k. length (get_or lists k [])) q.of-list);
            is-there = q.holds ∙ ap₂ (λ k i. get_or (get_or lists k []) i no_version) (sym q.of-list) e;
          }

  there : (z : Placed) → Memᴰ z (everything lists) → There lists z
  unfolding everything
  there z m = of-all _ z _ (gather-there (length lists) (omega arith)) m

module _ (b lens t : List ℕ) (count : ℕ) (bytes : Bytes b) (accepted : open_bundle b lens t ≡ Ok count) (z : Placed) (m : Memᴰ z (everything (lists_of b lens))) where
  at_place : There (lists_of b lens) z
  at_place = there (lists_of b lens) z m

  in-bundle : z.list < words_in lens
  in-bundle = omega (arith, at_place.in-lists, lists-number b lens)

  in_count : z.number < count_at b lens z.list
  in_count = omega (arith, at_place.in_list, size_is b lens t count bytes accepted z.list at_place.in-lists)

  looked : (e : Record) × (fit_record b lens (index b lens t count bytes accepted) z.list z.number ≡ Ok e) × (version_at (list_at b lens z.list) e ≡ z.version)
  unfolding version_in fit_record pick
  looked =
      let f = finds b lens t count bytes accepted z.list in-bundle z.number in_count no_version in
      let l : z.number < records_in b lens z.list = omega (arith, in_count, records-there b lens z.list in-bundle) in
      (f.e, is_whole f.e f.looks l, f.holds ∙ ap (λ vs. get_or vs z.number no_version) (sym (list-is b lens z.list in-bundle)) ∙ sym at_place.is-there)
    where
      is_whole : (e : Record) → look_at b lens (index b lens t count bytes accepted) z.list z.number ≡ Ok e → z.number < records_in b lens z.list
          → fit_record b lens (index b lens t count bytes accepted) z.list z.number ≡ Ok e
      is_whole e q l = rw (index-covers b lens t count bytes accepted, lt-ltb _ _ l) q

  -- the value of an entry's place is its version's, the key likewise, and the place is fit
  pub entry_value : value_at b lens (index b lens t count bytes accepted) z.list z.number ≡ z.version.value
  unfolding value_at on_result version_at
  entry_value = let r = looked in rw r.1 (ap (λ (v : Version). v.value) r.2)

  pub entry_key : key_at b lens (index b lens t count bytes accepted) z.list z.number ≡ z.version.key
  unfolding key_at on_result version_at
  entry_key = let r = looked in rw r.1 (ap (λ (v : Version). v.key) r.2)

  pub entry-fit : fit_at b lens (index b lens t count bytes accepted) z.list z.number ≡ true
  unfolding fit_at on_result
  entry-fit = let r = looked in rw r.1
