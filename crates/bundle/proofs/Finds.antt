-- In an opened bundle each index entry is its record's start, so a look through lengths and index finds each list's versions.
use Rattle.std.specs.Prelude.{Ok, Err}
use Prim.Native.Nat.{ℕ, zero, suc, ◌+◌, ◌-◌, ◌*◌, ◌≤◌, ◌<◌}
use mathlib.Core.Path.{◌≡◌, refl, sym, ap, ◌∙◌}
use mathlib.Core.List.{List, [], ◌∷◌, ◌++◌}
use mathlib.Core.Bool.{Bool, true, false}
use native.Mathlib.Omega.{arith}
use native.Mathlib.Nat.{add-zero, zero-add, add-sub_cancel_left}
use borrow.Author.Tests.{le-leb, leb-true}
use lib.Dec.{leb}
use lib.ListN.{length, take, drop, get_or, length-append, get_or-append}
use lib.Seq.{sets, sets-eq, length-sets, get_or-append-add}
use Rattle.list.specs.Pick.{pick, on_result}
use Rattle.list.specs.Limits.{header_size, list_limit}
use Rattle.list.specs.Field.{words, words_in, word_at}
use Rattle.list.specs.Record.{read_at, whole_at}
use Rattle.list.specs.Version.{Version, record_of, records, encode, Bytes, AllFit, Fine, version_at, versions_of}
use Rattle.list.proofs.Parts.{bytes_take, bytes_drop}
use Rattle.list.proofs.Words.{word-at, length-words}
use Rattle.list.proofs.Whole.{read-judged}
use Rattle.list.proofs.Fits.{record_for, next-is, reads, ends}
use Rattle.list.proofs.Encode.{records-stand}
use Rattle.list.proofs.Accepted.{refused-accepted, same_count, opened}
use Rattle.list.proofs.Meaning.{accepted-encode, accepted-fine, accepted-count}
use Rattle.list.proofs.Places.{start_of, start-in, reads_at, holds_at}
use Rattle.bundle.specs.Bundle.{bundle_limit, start_at, list_at, judge_bundle}
use Rattle.bundle.specs.Index.{next_from, starts, count_at, places, open_bundle, indexed}
use Rattle.bundle.specs.Look.{base_at, covers, place_in, look_at}
use Rattle.bundle.specs.Lists.{lists_from, lists_of}
use Rattle.bundle.proofs.Starts.{base-first, list-in, base-next, base-in, list_length}
use Rattle.bundle.proofs.Judging.{good, judged-covers}
use Rattle.bundle.proofs.Filling.{same-words, next-whole, length-starts}
use Rattle.list.specs.declared.refusal.Refusal.TheVariants.{NoRoom}
use Rattle.list.specs.declared.value_type.ValueType.TheVariants.{Value}
use Rattle.list.specs.declared.record.Record.{Record}
use Rattle.list.specs.Check.{Verdict}
use Rattle.list.specs.Refusal.{refuse}

nothing : Version
nothing = record { key = []; seqno = 0; kind = Value; value = [] }

-- the starts that are written are the records' places
start-at : (vs : List Version) (s : List ℕ) (base at i : ℕ) → AllFit vs → drop at s ≡ records vs → i < length vs
    → get_or (starts (length vs) s base at) i 0 ≡ base + (at + length (records (take i vs)))
unfolding AllFit records starts
start-at [] s base at i f e h = absurd (omega arith)
start-at (v ∷ vs) s base at zero f e h = omega arith
start-at (v ∷ vs) s base at (suc i) f e h =
    let n : (record_for at v).next ≡ next_from s at = next-whole s at _ refl (record_for at v) (reads s (records vs) at v f.0 e) in
    let r = start-at vs s base (record_for at v).next i f.1 (ends s (records vs) at v f.0 e) (omega arith) in
    let l = length-append (record_of v) (records (take i vs)) in
    let q = next-is at v in
    rw (← n) (r ∙ omega arith)

-- list k + d of the index, off being the entries from list k on
place_at_lem : (b lens : List ℕ) (d n k i off : ℕ) → d < n → i < count_at b lens (k + d) → off + base_at b lens k ≡ base_at b lens (k + d) + i
    → get_or (places n b lens k) off 0 ≡ get_or (starts (count_at b lens (k + d)) (list_at b lens (k + d)) (start_at lens (k + d)) header_size) i 0
unfolding places
place_at_lem b lens d zero k i off l m e = absurd (omega arith)
place_at_lem b lens zero (suc n) k i off l m e =
    let z : k + 0 ≡ k = add-zero k in
    let q : off ≡ i = omega (arith, ap (base_at b lens) z) in
    let w : i < length (starts (count_at b lens k) (list_at b lens k) (start_at lens k) header_size) =
    rw (length-starts (count_at b lens k) (list_at b lens k) (start_at lens k) header_size) (rw z at m) in
    rw (z, q) (get_or-append (starts (count_at b lens k) (list_at b lens k) (start_at lens k) header_size) (places n b lens (k + 1)) 0 i w)
place_at_lem b lens (suc d) (suc n) k i off l m e =
    let z : k + suc d ≡ k + 1 + d = omega arith in
    let xs = starts (count_at b lens k) (list_at b lens k) (start_at lens k) header_size in
    let ls = length-starts (count_at b lens k) (list_at b lens k) (start_at lens k) header_size in
    let s = base-next b lens k in
    let j = base-in b lens k (k + suc d) (omega arith) in
    let p = ap (base_at b lens) z in
    let q : off ≡ length xs + (off - count_at b lens k) = omega arith in
    let r = place_at_lem b lens d n (k + 1) i (off - count_at b lens k) (omega arith) (rw z at m) (omega arith) in
    rw z (ap (λ (o : ℕ). get_or (xs ++ places n b lens (k + 1)) o 0) q ∙ get_or-append-add xs (places n b lens (k + 1)) (off - count_at b lens k) 0 ∙ r)

length-places : (b lens : List ℕ) (n k : ℕ) → length (places n b lens k) + base_at b lens k ≡ base_at b lens (k + n)
unfolding places
length-places b lens zero k = let e = ap (base_at b lens) (add-zero k) in omega arith
length-places b lens (suc n) k =
    let z : k + suc n ≡ k + 1 + n = omega arith in
    let a = length-append (starts (count_at b lens k) (list_at b lens k) (start_at lens k) header_size) (places n b lens (k + 1)) in
    let ls = length-starts (count_at b lens k) (list_at b lens k) (start_at lens k) header_size in
    rw z (omega (arith, length-places b lens n (k + 1), base-next b lens k))

-- what an opening says
pub record Opening (b lens t : List ℕ) (c : ℕ) : Type 0 where
  pub judged : judge_bundle b lens ≡ Ok c
  pub room : c ≤ words_in t

pub opening : (b lens t : List ℕ) (c : ℕ) → open_bundle b lens t ≡ Ok c → Opening b lens t c
unfolding open_bundle on_result pick
opening b lens t c h = go (judge_bundle b lens) refl h
  where
    by-room : (a : ℕ) (x : Bool) → judge_bundle b lens ≡ Ok a → leb a (words_in t) ≡ x → pick x (Ok a) (refuse NoRoom 0 0) ≡ Ok c → Opening b lens t c
    by-room a true j e p =
        let q = sym (same_count refl p) in
        record { judged = j ∙ ap Ok q; room = omega (arith, leb-true a (words_in t) e) }
    by-room a false j e p = refused-accepted p

    go : (v : Verdict) → judge_bundle b lens ≡ v → on_result v (λ a. pick (leb a (words_in t)) (Ok a) (refuse NoRoom 0 0)) Err ≡ Ok c → Opening b lens t c
    go (Ok a) j p = by-room a (leb a (words_in t)) j refl p
    go (Err f) j p = refused-accepted p

-- the lists of an accepted bundle
module _ (b lens : List ℕ) (c : ℕ) (y : Bytes b) (h : judge_bundle b lens ≡ Ok c) where
  module _ (k : ℕ) (l : k < words_in lens) where
    bytes-list : Bytes (list_at b lens k)
    unfolding list_at
    bytes-list = bytes_take (word_at lens k) _ (bytes_drop (start_at lens k) b y)

    pub list-encodes : list_at b lens k ≡ encode (versions_of (list_at b lens k))
    list-encodes = accepted-encode (list_at b lens k) (count_at b lens k) bytes-list ((good b lens c h).each k l)

    pub list-fine : Fine (versions_of (list_at b lens k))
    list-fine = accepted-fine (list_at b lens k) (count_at b lens k) bytes-list ((good b lens c h).each k l)

    pub list_count : length (versions_of (list_at b lens k)) ≡ count_at b lens k
    list_count = accepted-count (list_at b lens k) (count_at b lens k) bytes-list ((good b lens c h).each k l)

    list-small : word_at lens k ≤ list_limit
    list-small =
        let g = good b lens c h in
        let m = list_length b lens k (words_in lens) g.add-up l in
        let o = opened (list_at b lens k) (count_at b lens k) (g.each k l) in
        omega (arith, o.header.small)

  starts-small : (k : ℕ) → k ≤ words_in lens → start_at lens k ≤ list_limit * k
  unfolding start_at list_limit
  starts-small zero l = omega arith
  starts-small (suc k) l =
      let r = starts-small k (omega arith) in
      let w = list-small k (omega arith) in
      omega arith

  -- so its places fit an entry
  pub bundle-small : length b < 4294967296
  unfolding bundle_limit list_limit
  bundle-small =
      let g = good b lens c h in
      let s = starts-small (words_in lens) (omega arith) in
      omega (arith, g.add-up, g.few-lists)

-- through lengths and index, after an opening
module _ (b lens t : List ℕ) (c : ℕ) (y : Bytes b) (o : open_bundle b lens t ≡ Ok c) where
  judged : judge_bundle b lens ≡ Ok c
  judged = (opening b lens t c o).judged

  total-places : length (places (words_in lens) b lens 0) ≡ c
  total-places =
      let a = length-places b lens (words_in lens) 0 in
      let z = ap (base_at b lens) (zero-add (words_in lens)) in
      let f = base-first b lens in
      omega (arith, (good b lens c judged).total)

  index_is : indexed (open_bundle b lens t) b lens t ≡ words (places (words_in lens) b lens 0) ++ drop (0 + length (words (places (words_in lens) b lens 0))) t
  unfolding indexed on_result words_in
  index_is =
      let w = length-words (places (words_in lens) b lens 0) in
      rw o (sets-eq (words (places (words_in lens) b lens 0)) t 0 (omega (arith, total-places, (opening b lens t c o).room)))

  pub opened-covers : covers b lens (indexed (open_bundle b lens t) b lens t) ≡ true
  unfolding indexed on_result
  opened-covers =
      let u = sets t 0 (words (places (words_in lens) b lens 0)) in
      let r : c ≤ words_in u = omega (arith, (opening b lens t c o).room, same-words u t (length-sets t 0 (words (places (words_in lens) b lens 0)))) in
      rw o (judged-covers b lens u c judged ∙ le-leb c (words_in u) r)

  module _ (k : ℕ) (l : k < words_in lens) (i : ℕ) (m : i < count_at b lens k) where
    abbrev vs : List Version
    vs = versions_of (list_at b lens k)

    within : i < length vs
    within = rw (list_count b lens c y judged k l) m

    start_is : get_or (starts (count_at b lens k) (list_at b lens k) (start_at lens k) header_size) i 0 ≡ start_at lens k + start_of vs i
    unfolding header_size start_of
    start_is =
        let e = list-encodes b lens c y judged k l in
        let n = list_count b lens c y judged k l in
        let d : drop header_size (list_at b lens k) ≡ records (versions_of (list_at b lens k)) = ap (drop header_size) e ∙ records-stand (versions_of (list_at b lens k)) in
        ap (λ (j : ℕ). get_or (starts j (list_at b lens k) (start_at lens k) header_size) i 0) (sym n)
        ∙ start-at (versions_of (list_at b lens k)) (list_at b lens k) (start_at lens k) header_size i (list-fine b lens c y judged k l).fit d within

    entry-is : get_or (places (words_in lens) b lens 0) (base_at b lens k + i) 0 ≡ start_at lens k + start_of vs i
    entry-is =
        let z : 0 + k ≡ k = zero-add k in
        let f = base-first b lens in
        let q = ap (base_at b lens) z in
        let p = place_at_lem b lens k (words_in lens) 0 i (base_at b lens k + i) l (rw z m) (omega arith) in
        p ∙ rw z start_is

    start-inside : start_at lens k + start_of vs i < length b
    start-inside =
        let g = good b lens c judged in
        let j = list-in lens k (words_in lens) l in
        let q = start-in (versions_of (list_at b lens k)) i nothing within in
        let e = ap length (list-encodes b lens c y judged k l) in
        let n = list_length b lens k (words_in lens) g.add-up l in
        omega (arith, g.add-up)

    pub index_at : word_at (indexed (open_bundle b lens t) b lens t) (base_at b lens k + i) ≡ start_at lens k + start_of vs i
    unfolding word_at
    index_at =
        let j = base-in b lens k (words_in lens) l in
        let n : base_at b lens k + i < length (places (words_in lens) b lens 0) = omega (arith, total-places, (good b lens c judged).total) in
        let s = start-inside in
        let e = entry-is in
        let w : get_or (places (words_in lens) b lens 0) (base_at b lens k + i) 0 < 4294967296 = omega (arith, bundle-small b lens c y judged) in
        rw index_is (word-at (places (words_in lens) b lens 0) _ (base_at b lens k + i) n w ∙ e)

    -- what a look finds
    pub record Found (d : Version) : Type 0 where
      pub e : Record
      pub looks : look_at b lens (indexed (open_bundle b lens t) b lens t) k i ≡ Ok e
      pub holds : version_at (list_at b lens k) e ≡ get_or (versions_of (list_at b lens k)) i d

    pub finds : (d : Version) → Found d
    unfolding look_at place_in pick list_at
    finds d =
        let f = list-fine b lens c y judged k l in
        let e = record_for (start_of vs i) (get_or vs i d) in
        let q : read_at (list_at b lens k) (start_of vs i) ≡ Ok e =
        ap (λ (s : List ℕ). read_at s (start_of vs i)) (list-encodes b lens c y judged k l) ∙ reads_at vs f i within d in
        let w : whole_at (list_at b lens k) (start_of vs i) ≡ Ok e = (read-judged (list_at b lens k) (start_of vs i) e q).reads in
        let h : start_at lens k ≤ start_at lens k + start_of vs i = omega arith in
        record {
          e = e;
          looks = rw index_at (simp (le-leb _ _ h, add-sub_cancel_left) w);
          holds = ap (λ (s : List ℕ). version_at s e) (list-encodes b lens c y judged k l) ∙ holds_at vs f i within d;
        }

-- the lists of versions, by number
lists_at : (b lens : List ℕ) (n j k : ℕ) → k < n → get_or (lists_from n b lens j) k [] ≡ versions_of (list_at b lens (j + k))
unfolding lists_from
lists_at b lens zero j k l = absurd (omega arith)
lists_at b lens (suc n) j zero l = ap (λ (i : ℕ). versions_of (list_at b lens i)) (sym (add-zero j))
lists_at b lens (suc n) j (suc k) l =
    let e : j + 1 + k ≡ j + suc k = omega arith in
    lists_at b lens n (j + 1) k (omega arith) ∙ ap (λ (i : ℕ). versions_of (list_at b lens i)) e

pub list-is : (b lens : List ℕ) (k : ℕ) → k < words_in lens → get_or (lists_of b lens) k [] ≡ versions_of (list_at b lens k)
unfolding lists_of
list-is b lens k l = lists_at b lens (words_in lens) 0 k l ∙ ap (λ (i : ℕ). versions_of (list_at b lens i)) (zero-add k)

lists-many : (b lens : List ℕ) (n j : ℕ) → length (lists_from n b lens j) ≡ n
unfolding lists_from
lists-many b lens zero j = refl
lists-many b lens (suc n) j = ap suc (lists-many b lens n (j + 1))

pub lists-number : (b lens : List ℕ) → length (lists_of b lens) ≡ words_in lens
unfolding lists_of
lists-number b lens = lists-many b lens (words_in lens) 0
