-- A table stays sound from creation on: after each insert, written or refused, its image is an accepted list and its state the image's, so that 11 is never met.
use Rattle.std.specs.Prelude.{Result, Ok, Err}
use Prim.Native.Nat.{ℕ, ◌-◌, ◌≤◌, ◌<◌, max}
use mathlib.Core.Path.{◌≡◌, refl, sym, ap, ◌∙◌, subst}
use mathlib.Core.List.{List, [], ◌∷◌, ◌++◌, append_assoc}
use mathlib.Core.Bool.{Bool}
use native.Mathlib.Omega.{arith}
use borrow.Author.Tests.{ltb-false, eqb-false}
use lib.ListN.{length, take, drop, get_or, replicate, length-append, length-drop, length-replicate, get_or-replicate, get_or-eq_default}
use lib.Seq.{take_at}
use Rattle.list.specs.Pick.{pick, on_result}
use Rattle.list.specs.Limits.{header_size, list_limit, key_limit}
use Rattle.list.specs.Refusal.{number_of, refuse}
use Rattle.list.specs.Field.{le_bytes}
use Rattle.list.specs.ValueType.{type_of}
use Rattle.list.specs.Check.{check_list, mark}
use Rattle.list.specs.Version.{Version, version, record_of, records, header, encode, Bytes, Fits, AllFit, InOrder, Fine, versions_of, ordered}
use Rattle.list.proofs.Parts.{Side, left, right, side, bytes_drop, bytes-append}
use Rattle.list.proofs.Fits.{length-record}
use Rattle.list.proofs.Encode.{length-encode, encode-accepted, versions-encode, bytes-encode}
use Rattle.std.specs.declared.cmp.Ordering.{Ordering}
use Rattle.std.specs.declared.cmp.Ordering.TheVariants.{Less, Equal, Greater}
use Rattle.list.specs.declared.refusal.Refusal.{Refusal}
use Rattle.list.specs.declared.refusal.Refused.{Refused}
use Rattle.list.specs.declared.value_type.ValueType.{ValueType}
use Rattle.list.specs.declared.value_type.ValueType.TheVariants.{Value, Tombstone, WeakTombstone, Indirection}
use Rattle.list.proofs.Picks.{by-pick}
use Rattle.memtable.specs.Change.{by_order, insert}
use Rattle.memtable.specs.Figures.{highest_of}
use Rattle.memtable.specs.Image.{Image, judge}
use Rattle.memtable.specs.Insert.{in_room, tried, inserted, answered, buffer_after, state_after, blank}
use Rattle.memtable.specs.Calls.{Table, Sent, comes_to, table_after, table_new}
use Rattle.memtable.proofs.Judging.{judge-holds, holds-judge}
use Rattle.memtable.proofs.Change.{fine-insert, highest-insert}
use Rattle.memtable.proofs.Trying.{empty-size, created-some}
use Rattle.memtable.specs.declared.Memtable.{Memtable}

-- what is true of an image that is written
data Made (P : List Version → Type 0) : Image → Type 0 where
  unmade : {f : Refused} → Made P (Err f)
  made : {vs : List Version} → P vs → Made P (Ok vs)

module _ (P : List Version → Type 0) where
  by-known : (t : Result ValueType Refusal) (f : ValueType → Image) (g : Refusal → Image) → ((kind : ValueType) → t ≡ Ok kind → Made P (f kind)) → ((why : Refusal) → Made P (g why)) → Made P (on_result t f g)
  unfolding on_result
  by-known (Ok kind) f g p q = p kind refl
  by-known (Err why) f g p q = q why

  made-is : (vs : List Version) → Made P (Ok vs) → P vs
  made-is vs (made p) = p

-- what an insert that is written has passed
pub record Inserted (m : Memtable) (b key : List ℕ) (seqno tag : ℕ) (value : List ℕ) (ws : List Version) : Type 0 where
  pub vs : List Version
  pub held : judge m b ≡ Ok vs
  pub kind : ValueType
  pub tagged : type_of tag ≡ Ok kind
  pub is : ws ≡ insert (version key seqno kind value) vs
  pub keyed : length key ≡ 0 → ⊥
  pub key_fits : length key ≤ key_limit
  pub small : length (encode ws) ≤ list_limit
  pub room : length (encode ws) ≤ length b

module _ (m : Memtable) (b key : List ℕ) (seqno tag : ℕ) (value : List ℕ) where
  tries : (vs : List Version) → judge m b ≡ Ok vs → Made (Inserted m b key seqno tag value) (tried (length b) key seqno tag value vs)
  unfolding tried in_room
  tries vs e =
      by-pick (Made _) _ _ _ (λ _. unmade)
      (λ a. by-pick (Made _) _ _ _ (λ _. unmade)
      (λ z. by-known _ _ _ _
      (λ kind t. by-pick (Made _) _ _ _ (λ _. unmade)
      (λ s. by-pick (Made _) _ _ _ (λ _. unmade)
      (λ r. made (record {
        vs = vs;
        held = e;
        kind = kind;
        tagged = t;
        is = refl;
        keyed = eqb-false _ _ z;
        key_fits = ltb-false _ _ a;
        small = ltb-false _ _ s;
        room = ltb-false _ _ r;
      }))))
      (λ _. unmade)))

  by-image : (i : Image) → judge m b ≡ i → Made (Inserted m b key seqno tag value) (on_result i (tried (length b) key seqno tag value) Err)
  unfolding on_result
  by-image (Ok vs) e = tries vs e
  by-image (Err f) e = unmade

  pub inserted-is : (ws : List Version) → inserted m b key seqno tag value ≡ Ok ws → Inserted m b key seqno tag value ws
  unfolding inserted
  inserted-is ws e = made-is _ ws (subst (Made (Inserted m b key seqno tag value)) e (by-image (judge m b) refl))

-- a list with a version inserted has at least that one's bytes
holds-one : (v : Version) (vs : List Version) → length (record_of v) ≤ length (records (insert v vs))
unfolding insert by_order records
holds-one v [] = let a = length-append (record_of v) [] in omega arith
holds-one v (w ∷ ws) = go (ordered v w) (holds-one v ws)
  where
    go : (x : Ordering) → length (record_of v) ≤ length (records (insert v ws)) → length (record_of v) ≤ length (records (by_order x (v ∷ w ∷ ws) (v ∷ ws) (w ∷ insert v ws)))
    go Less ih = let a = length-append (record_of v) (record_of w ++ records ws) in omega arith
    go Equal ih = let a = length-append (record_of v) (records ws) in omega arith
    go Greater ih = let a = length-append (record_of w) (records (insert v ws)) in omega arith

-- the bytes past an image's end are zeros or stay, so the image is what is written
module _ (used : ℕ) (b : List ℕ) (ws : List Version) (fits : used ≤ length b) (room : length (encode ws) ≤ length b) where
  pub after-image : take (length (encode ws)) (buffer_after used b (Ok ws)) ≡ encode ws
  unfolding buffer_after
  after-image = rw append_assoc (take_at (encode ws) _ (length (encode ws)) refl)

  pub after-long : length (buffer_after used b (Ok ws)) ≡ length b
  unfolding buffer_after
  after-long =
      let a = length-append (encode ws ++ replicate (used - length (encode ws)) 0) (drop (max used (length (encode ws))) b) in
      let c = length-append (encode ws) (replicate (used - length (encode ws)) 0) in
      let d = length-replicate {A = ℕ} (used - length (encode ws)) 0 in
      let e = length-drop (max used (length (encode ws))) b in
      omega arith

bytes-zeros : (n : ℕ) → Bytes (replicate n 0)
unfolding Bytes
bytes-zeros n i = go (side i n)
  where
    go : Side i n → get_or (replicate n 0) i 0 < 256
    go (left h) = rw (get_or-replicate {A = ℕ} n i 0 0 h) (omega arith)
    go (right h) =
        let l = length-replicate {A = ℕ} n 0 in
        let k : length (replicate {A = ℕ} n 0) ≤ i = omega arith in
        rw (get_or-eq_default (replicate n 0) 0 k) (omega arith)

after-bytes : (used : ℕ) (b : List ℕ) (ws : List Version) → Bytes b → Fine ws → Bytes (buffer_after used b (Ok ws))
unfolding buffer_after
after-bytes used b ws y f =
    bytes-append (encode ws ++ replicate (used - length (encode ws)) 0) _
    (bytes-append (encode ws) (replicate (used - length (encode ws)) 0) (bytes-encode ws f) (bytes-zeros (used - length (encode ws))))
    (bytes_drop (max used (length (encode ws))) b y)

-- an insert that is written, from bytes
module _ (m : Memtable) (b key : List ℕ) (seqno tag : ℕ) (value : List ℕ) (ws : List Version) (y : Bytes b) (yk : Bytes key) (yv : Bytes value) (s : seqno < 18446744073709551616)
    (e : inserted m b key seqno tag value ≡ Ok ws) where
  abbrev written : Inserted m b key seqno tag value ws
  written = inserted-is m b key seqno tag value ws e

  fits_in : Fits (version key seqno written.kind value)
  unfolding version list_limit
  fits_in =
      let w = written in
      let v = version key seqno w.kind value in
      let k = w.keyed in
      let a = holds-one v w.vs in
      let c = length-record v in
      let l = ap (λ (x : List Version). length (encode x)) w.is ∙ length-encode (insert v w.vs) in
      let d = w.small in
      record { keyed = omega (arith, k); key_fits = w.key_fits; key-bytes = yk; seqno-fits = s; value-fits = omega arith; value-bytes = yv }

  -- what it holds is fine
  pub insert-fine : Fine ws
  insert-fine =
      let w = written in
      let v = version key seqno w.kind value in
      let k = (judge-holds m b w.vs y w.held).1 in
      subst Fine (sym w.is) (fine-insert v w.vs fits_in k.fine (subst (λ x. length (encode x) ≤ list_limit) w.is w.small))

  fits-buffer : m.used ≤ length b
  fits-buffer = (judge-holds m b written.vs y written.held).1.fits

  highest-is : max m.highest seqno ≡ highest_of ws
  unfolding version
  highest-is =
      let w = written in
      let k = (judge-holds m b w.vs y w.held).1 in
      let h = k.same-highest in
      let i = highest-insert (version key seqno w.kind value) w.vs in
      let j = ap highest_of w.is in
      omega arith

  -- the image is an accepted list, and holds the versions with the new one inserted
  pub insert-accepted : check_list (take (state_after m seqno (Ok ws)).used (buffer_after m.used b (Ok ws))) ≡ Ok (length ws)
  unfolding state_after
  insert-accepted = ap check_list (after-image m.used b ws fits-buffer written.room) ∙ encode-accepted ws insert-fine

  pub insert-versions : versions_of (take (state_after m seqno (Ok ws)).used (buffer_after m.used b (Ok ws))) ≡ insert (version key seqno written.kind value) written.vs
  unfolding state_after
  insert-versions = ap versions_of (after-image m.used b ws fits-buffer written.room) ∙ versions-encode ws insert-fine ∙ written.is

  -- and judged with the new state it holds them: size and highest seqno are the image's
  pub insert-holds : judge (state_after m seqno (Ok ws)) (buffer_after m.used b (Ok ws)) ≡ Ok ws
  unfolding state_after
  insert-holds =
      let l = after-long m.used b ws fits-buffer written.room in
      let r = written.room in
      holds-judge _ (buffer_after m.used b (Ok ws)) ws insert-fine (omega arith) (after-image m.used b ws fits-buffer written.room) refl highest-is

-- a table whose image holds versions and whose state is the image's
pub record Sound (t : Table) : Type 0 where
  pub bytes : Bytes t.buffer
  pub vs : List Version
  pub held : judge t.state t.buffer ≡ Ok vs

module _ (t : Table) (c : Sent) (s : Sound t) where
  next-holds : Bytes c.key → Bytes c.value → c.seqno < 18446744073709551616 → (ws : List Version) → comes_to t c ≡ Ok ws
      → Sound (record { state = state_after t.state c.seqno (comes_to t c); buffer = buffer_after t.state.used t.buffer (comes_to t c) })
  unfolding comes_to
  next-holds yk yv n ws e =
      let m = t.state in
      let b = t.buffer in
      rw e
      (record {
        bytes = after-bytes m.used b ws s.bytes (insert-fine m b c.key c.seqno c.tag c.value ws s.bytes yk yv n e);
        vs = ws;
        held = insert-holds m b c.key c.seqno c.tag c.value ws s.bytes yk yv n e;
      })

  next-refused : (f : Refused) → comes_to t c ≡ Err f
      → Sound (record { state = state_after t.state c.seqno (comes_to t c); buffer = buffer_after t.state.used t.buffer (comes_to t c) })
  unfolding state_after buffer_after
  next-refused f e = rw e (record { bytes = s.bytes; vs = s.vs; held = s.held })

  pub next-sound : Bytes c.key → Bytes c.value → c.seqno < 18446744073709551616 → Sound (table_after t c)
  unfolding table_after
  next-sound yk yv n = go (comes_to t c) refl
    where
      go : (i : Image) → comes_to t c ≡ i → Sound (record { state = state_after t.state c.seqno (comes_to t c); buffer = buffer_after t.state.used t.buffer (comes_to t c) })
      go (Ok ws) e = next-holds yk yv n ws e
      go (Err f) e = next-refused f e

fine-none : Fine []
unfolding AllFit InOrder list_limit encode header records mark le_bytes
fine-none = record { fit = tt; in_order = tt; small = omega arith }

new-holds : (id : ℕ) (b : List ℕ) → header_size ≤ length b → judge (state_after (blank id) 0 (Ok [])) (buffer_after 0 b (Ok [])) ≡ Ok []
unfolding state_after blank highest_of
new-holds id b h =
    let n = empty-size in
    let l = after-long 0 b [] (omega arith) (omega arith) in
    holds-judge _ (buffer_after 0 b (Ok [])) [] fine-none (omega arith) (after-image 0 b [] (omega arith) (omega arith)) refl refl

-- a table just created is sound
pub new-sound : (id : ℕ) (b : List ℕ) → Bytes b → header_size ≤ length b → Sound (table_new id b)
unfolding table_new
new-sound id b y h = rw (← created-some b h) (record { bytes = after-bytes 0 b [] y fine-none; vs = []; held = new-holds id b h })

-- no argument's refusal is 11
data Fair : Image → Type 0 where
  fair-holds : {vs : List Version} → Fair (Ok vs)
  fair-refused : {f : Refused} → (number_of f.refusal ≡ 11 → ⊥) → Fair (Err f)

fair-pick : (b : Bool) (x y : Image) → Fair x → Fair y → Fair (pick b x y)
fair-pick b x y f g = by-pick Fair b x y (λ _. f) (λ _. g)

fair-tag : (tag : ℕ) (f : ValueType → Image) → ((kind : ValueType) → Fair (f kind)) → Fair (on_result (type_of tag) f (λ why. refuse why 0 0))
unfolding type_of on_result number_of
fair-tag tag f g =
    let P = λ (t : Result ValueType Refusal). Fair (on_result t f (λ why. refuse why 0 0)) in
    by-pick P _ _ _ (λ _. g Value)
    (λ _. by-pick P _ _ _ (λ _. g Tombstone)
    (λ _. by-pick P _ _ _ (λ _. g WeakTombstone)
    (λ _. by-pick P _ _ _ (λ _. g Indirection)
    (λ _. fair-refused (λ e. omega arith)))))

tried-fair : (room : ℕ) (key : List ℕ) (seqno tag : ℕ) (value : List ℕ) (vs : List Version) → Fair (tried room key seqno tag value vs)
unfolding tried in_room number_of
tried-fair room key seqno tag value vs =
    fair-pick _ _ _ (fair-refused (λ e. omega arith))
    (fair-pick _ _ _ (fair-refused (λ e. omega arith))
    (fair-tag _ _
    (λ kind. fair-pick _ _ _ (fair-refused (λ e. omega arith)) (fair-pick _ _ _ (fair-refused (λ e. omega arith)) fair-holds))))

fair-is : {f : Refused} → Fair (Err f) → number_of f.refusal ≡ 11 → ⊥
fair-is (fair-refused f) e = f e

-- an answer is refused as the insert is
image_of : List Version → Result (Unit {0}) Refused → Image
image_of vs (Ok _) = Ok vs
image_of vs (Err f) = Err f

refused_as : (i : Image) (f : Refused) → answered i ≡ Err f → i ≡ Err f
unfolding answered on_result image_of
refused_as (Ok vs) f e = ap (image_of vs) e
refused_as (Err g) f e = ap (image_of []) e

-- a sound table's insert is never refused with 11
pub never-unfit : (t : Table) (c : Sent) → Sound t → (f : Refused) → answered (comes_to t c) ≡ Err f → number_of f.refusal ≡ 11 → ⊥
unfolding comes_to inserted on_result
never-unfit t c s f e n =
    let p = tried-fair (length t.buffer) c.key c.seqno c.tag c.value s.vs in
    let g : tried (length t.buffer) c.key c.seqno c.tag c.value s.vs ≡ Err f =
    ap (λ i. on_result i (tried (length t.buffer) c.key c.seqno c.tag c.value) Err) (sym s.held) ∙ refused_as _ f e in
    fair-is (subst Fair g p) n
