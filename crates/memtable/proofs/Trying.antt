-- A creation or an insert is refused in the order of its tests, or writes the new image and its figures: each test of the code is the definition's next one.
use Rattle.std.specs.Prelude.{false, Result, Ok, Err, IfSome}
use Prim.Native.Nat.{ℕ, ◌+◌, ◌-◌, ◌≤◌, ◌<◌, max}
use mathlib.Core.Path.{◌≡◌, refl, sym, ap, ◌∙◌, subst}
use mathlib.Core.List.{List, [], ◌∷◌, ◌++◌}
use native.Mathlib.Omega.{arith}
use borrow.Author.Tests.{lt-ltb, le-ltb, eq-eqb, ne_eqb}
use lib.ListN.{length, take, drop, length-append}
use lib.Seq.{sets, sets-eq, length-take-le}
use Rattle.list.specs.Pick.{pick, on_result}
use Rattle.list.specs.Limits.{header_size, record_size, list_limit, key_limit}
use Rattle.list.specs.Field.{le_bytes}
use Rattle.list.specs.Refusal.{refuse}
use Rattle.list.specs.ValueType.{type_of}
use Rattle.list.specs.Check.{mark}
use Rattle.list.specs.Version.{Version, version, record_of, records, header, encode, versions_of, Bytes}
use Rattle.list.proofs.Fits.{length-record}
use Rattle.list.proofs.Encode.{length-header, length-encode, versions-encode, fine-few}
use Rattle.list.specs.declared.refusal.Refusal.{Refusal}
use Rattle.list.specs.declared.refusal.Refused.{Refused}
use Rattle.list.specs.declared.refusal.Refusal.TheVariants.{EmptyKey, LongKey, TooLarge, NoRoom}
use Rattle.list.specs.declared.value_type.ValueType.{ValueType}
use Rattle.list.specs.declared.value_type.ValueType.TheVariants.{Value}
use Rattle.memtable.specs.Change.{insert}
use Rattle.memtable.specs.Figures.{size_of}
use Rattle.memtable.specs.Image.{Image, judge}
use Rattle.memtable.specs.Insert.{in_room, tried, inserted, created, buffer_after, state_after, state_created, blank, answered}
use Rattle.memtable.specs.Private.{Lies, gap_of, examined, spliced}
use Rattle.memtable.proofs.Judging.{Known as Seen, is_held}
use Rattle.memtable.proofs.Splicing.{end_is, spliced-is}
use Rattle.memtable.proofs.Inserting.{gapped, here-lies}
use Rattle.memtable.specs.declared.Memtable.{Memtable}
use Rattle.memtable.specs.declared.image.Survey.{Survey}
use Rattle.memtable.specs.declared.image.Gap.{Gap}

-- 9 before 10
module _ (room : ℕ) (vs : List Version) where
  pub w-large : list_limit < length (encode vs) → refuse TooLarge 0 0 ≡ in_room room vs
  unfolding in_room pick
  w-large h = simp (lt-ltb _ _ h)

  pub w-full : length (encode vs) ≤ list_limit → room < length (encode vs) → refuse NoRoom 0 0 ≡ in_room room vs
  unfolding in_room pick
  w-full a h = simp (le-ltb _ _ a, lt-ltb _ _ h)

  pub w-holds : length (encode vs) ≤ list_limit → length (encode vs) ≤ room → Ok vs ≡ in_room room vs
  unfolding in_room pick
  w-holds a h = simp (le-ltb _ _ a, le-ltb _ _ h)

pub empty-size : length (encode []) ≡ header_size
unfolding header_size encode header records mark le_bytes
empty-size = refl

pub created-none : (b : List ℕ) → length b < header_size → refuse NoRoom 0 0 ≡ created b
unfolding header_size created list_limit
created-none b h = let n = empty-size in w-full (length b) [] (omega arith) (omega arith)

pub created-some : (b : List ℕ) → header_size ≤ length b → Ok [] ≡ created b
unfolding header_size created list_limit
created-some b h = let n = empty-size in w-holds (length b) [] (omega arith) (omega arith)

blank-after : (b : List ℕ) → take 0 b ++ header 0 ++ drop (0 + length (header 0)) b ≡ buffer_after 0 b (Ok [])
unfolding buffer_after encode header records mark le_bytes
blank-after b = refl

pub created-bytes : (b u : List ℕ) → header_size ≤ length b → u ≡ sets b 0 (header 0) → u ≡ buffer_after 0 b (created b)
created-bytes b u h e =
    let n = length-header 0 in
    e ∙ sets-eq (header 0) b 0 (omega arith) ∙ blank-after b ∙ ap (buffer_after 0 b) (created-some b h)

pub created-state : (m : Memtable) (b : List ℕ) → header_size ≤ length b
    → record { used = header_size; size = 0; highest = 0; flagged = false; id = m.id } ≡ state_created m (created b)
unfolding header_size state_created state_after blank encode header records mark le_bytes size_of
created-state m b h = rw (← created-some b h)

-- on the state that `new` gives, a creation leaves what a change of it leaves
pub created-is : (id : ℕ) (i : Image) → state_created (blank id) i ≡ state_after (blank id) 0 i
unfolding state_created state_after blank
created-is id (Ok vs) = refl
created-is id (Err f) = refl

-- a refusal leaves buffer and state as given
pub record Left (m : Memtable) (n used : ℕ) (b : List ℕ) (f : Refused) (i : Image) : Type 0 where
  pub answer : Err f ≡ answered i
  pub state : m ≡ state_after m n i
  pub created : m ≡ state_created m i
  pub buffer : b ≡ buffer_after used b i

pub refuses : (m : Memtable) (n used : ℕ) (b : List ℕ) (f : Refused) (i : Image) → Err f ≡ i → Left m n used b f i
unfolding answered on_result state_after state_created buffer_after
refuses m n used b f i e = rw (← e) (record { answer = refl; state = refl; created = refl; buffer = refl })

-- an insert's tests
module _ (m : Memtable) (b key : List ℕ) (seqno tag : ℕ) (value : List ℕ) where
  pub i-refused : (f : Refused) → Err f ≡ judge m b → Err f ≡ inserted m b key seqno tag value
  unfolding inserted on_result tried
  i-refused f e = rw (← e)

  module _ (vs : List Version) (e : judge m b ≡ Ok vs) where
    pub i-long : key_limit < length key → refuse LongKey 0 0 ≡ inserted m b key seqno tag value
    unfolding inserted on_result tried pick
    i-long h = rw e (simp (lt-ltb _ _ h))

    module _ (h : length key ≤ key_limit) where
      pub i-empty : length key ≡ 0 → refuse EmptyKey 0 0 ≡ inserted m b key seqno tag value
      unfolding inserted on_result tried pick
      i-empty z = rw e (simp (le-ltb _ _ h, eq-eqb _ _ z))

      module _ (z : length key ≡ 0 → ⊥) (t : Result ValueType Refusal) (f : t ≡ type_of tag) where
        pub i-tag : (why : Refusal) → t ≡ Err why → refuse why 0 0 ≡ inserted m b key seqno tag value
        unfolding inserted on_result tried pick
        i-tag why g = rw e (simp (le-ltb _ _ h, ne_eqb _ _ z, ← f, g))

        pub i-within : (kind : ValueType) → t ≡ Ok kind → in_room (length b) (insert (version key seqno kind value) vs) ≡ inserted m b key seqno tag value
        unfolding inserted on_result tried pick
        i-within kind g = rw e (simp (le-ltb _ _ h, ne_eqb _ _ z, ← f, g))

-- an image that holds vs has their bytes
pub held-are : (m : Memtable) (b k : List ℕ) (n : ℕ) (vs : List Version) (u : Survey) → Seen m b k n vs u → versions_of (take m.used b) ≡ vs
held-are m b k n vs u h = ap versions_of h.image ∙ versions-encode vs h.fine

-- the figures keep below the limit
size-records : (vs : List Version) → size_of vs ≤ length (records vs)
unfolding size_of records
size-records [] = omega arith
size-records (v ∷ vs) =
    let a = length-append (record_of v) (records vs) in
    let b = length-record v in
    let c = size-records vs in
    omega arith

size_low : (vs : List Version) → size_of vs ≤ length (encode vs)
size_low vs = let a = length-encode vs in let b = size-records vs in omega arith

ends_at : (key : List ℕ) (seqno : ℕ) (kind : ValueType) (value : List ℕ) (vs : List Version) (start rest : ℕ)
    → length (encode (insert (version key seqno kind value) vs)) ≡ start + length (record_of (version key seqno kind value)) + rest
    → length (encode (insert (version key seqno kind value) vs)) ≡ start + record_size + length key + length value + rest
unfolding version
ends_at key seqno kind value vs start rest e = let r = length-record (version key seqno kind value) in omega arith

-- what a write measures before it writes
pub record Ready (m : Memtable) (b key : List ℕ) (seqno : ℕ) (kind : ValueType) (value : List ℕ) (vs : List Version) (u : Survey) (g : Gap) : Type 0 where
  pub start : header_size ≤ u.place.start
  pub order : u.place.start ≤ g.cut
  pub cut : g.cut ≤ m.used
  pub used : m.used ≤ list_limit
  pub fits : m.used ≤ length b
  pub few : u.count ≤ 65535
  pub count : u.count + 1 ≡ length (insert (version key seqno kind value) vs) + g.records
  pub low : m.size ≤ list_limit
  pub size : m.size + (length key + length value) ≡ size_of (insert (version key seqno kind value) vs) + g.bytes
  pub end : length (encode (insert (version key seqno kind value) vs)) ≡ u.place.start + record_size + length key + length value + (m.used - g.cut)
  pub buffer : length (encode (insert (version key seqno kind value) vs)) ≤ length b → (c : ℕ) → c ≡ length (insert (version key seqno kind value) vs)
      → spliced b m.used u.place.start g.cut c (version key seqno kind value) ≡ buffer_after m.used b (Ok (insert (version key seqno kind value) vs))

module _ (m : Memtable) (b key : List ℕ) (seqno : ℕ) (u : Survey) (y : Bytes b) (e : examined m b key seqno ≡ Ok u) where
  pub used-fits : m.used ≤ length b
  used-fits = (is_held m b key seqno _ y refl u e).known.fits

  pub gap-lies : IfSome u.place.here (Lies (length (take m.used b)))
  gap-lies = let h = is_held m b key seqno _ y refl u e in here-lies key seqno Value [] (take m.used b) h.vs u.place h.known.image h.known.fine h.known.place

  pub ready : (kind : ValueType) (value : List ℕ) (g : Gap) → g ≡ gap_of (take m.used b) key seqno u.place.start u.place.here → Ready m b key seqno kind value (versions_of (take m.used b)) u g
  unfolding list_limit
  ready kind value g q =
      let h = is_held m b key seqno _ y refl u e in
      let k = h.known in
      let v = version key seqno kind value in
      let w : versions_of (take m.used b) ≡ h.vs = held-are m b key seqno h.vs u k in
      let p = gapped key seqno kind value (take m.used b) h.vs u.place k.image k.fine k.place in
      let l = length-take-le m.used b k.fits in
      let i = ap length k.image in
      let s = k.fine.small in
      let f = fine-few h.vs k.fine in
      let z = size_low h.vs in
      let a = p.around in
      let c = k.count in
      let o = a.in_order in
      let t = a.inside in
      let r = length-record v in
      let x = end_is b m.used u.place.start (gap_of (take m.used b) key seqno u.place.start u.place.here).cut v h.vs k.fits k.image a in
      let d = a.started in
      let n = p.counted in
      let j = p.sized in
      let ss = k.same_size in
      rw q
      (subst (λ ws. Ready m b key seqno kind value ws u (gap_of (take m.used b) key seqno u.place.start u.place.here)) (sym w)
      (record {
        start = omega arith;
        order = o;
        cut = omega arith;
        used = omega arith;
        fits = k.fits;
        few = omega arith;
        count = omega arith;
        low = omega arith;
        size = omega arith;
        end = ends_at key seqno kind value h.vs u.place.start (m.used - (gap_of (take m.used b) key seqno u.place.start u.place.here).cut) x;
        buffer = λ room c f. spliced-is b m.used u.place.start (gap_of (take m.used b) key seqno u.place.start u.place.here).cut v h.vs k.fits k.image a (omega arith) c f;
      }))

-- what a write answers and leaves
pub done : (i : Image) (vs : List Version) → Ok vs ≡ i → Ok tt ≡ answered i
unfolding answered on_result
done i vs e = rw (← e)

pub state-done : (m : Memtable) (n : ℕ) (vs : List Version) (i : Image) (used size highest : ℕ) → Ok vs ≡ i → used ≡ length (encode vs) → size ≡ size_of vs → highest ≡ max m.highest n
    → record { used = used; size = size; highest = highest; flagged = m.flagged; id = m.id } ≡ state_after m n i
unfolding state_after
state-done m n vs i used size highest e a b c = rw (a, b, c) (ap (state_after m n) e)

-- the written image is what the insert comes to
pub puts : (m : Memtable) (b key : List ℕ) (seqno tag : ℕ) (value : List ℕ) (vs : List Version) (u : Survey) → judge m b ≡ Ok vs → Seen m b key seqno vs u
    → length key ≤ key_limit → (length key ≡ 0 → ⊥) → (t : Result ValueType Refusal) → t ≡ type_of tag → (kind : ValueType) → t ≡ Ok kind
    → in_room (length b) (insert (version key seqno kind value) (versions_of (take m.used b))) ≡ inserted m b key seqno tag value
puts m b key seqno tag value vs u e k h z t f kind g =
    ap (λ (ws : List Version). in_room (length b) (insert (version key seqno kind value) ws)) (held-are m b key seqno vs u k)
    ∙ i-within m b key seqno tag value vs e h z t f kind g
