-- What is inserted reads back: just above its seqno a read finds the version with its tag, and the value's bytes at the place that it names, since no newer version is below that.
use Rattle.std.specs.Prelude.{Ok, Some}
use Prim.Native.Nat.{ℕ, ◌+◌, ◌<◌}
use mathlib.Core.Path.{◌≡◌, refl, sym, ap, ◌∙◌, subst}
use mathlib.Core.List.{List, [], ◌∷◌}
use mathlib.Core.Option.{some}
use native.Mathlib.Omega.{arith}
use lib.ListN.{length, take, drop, get_or}
use Rattle.list.specs.Limits.{header_size, record_size}
use Rattle.list.specs.Record.{value_of}
use Rattle.list.specs.Version.{Version, version, records, encode, Bytes, Fine, version_at}
use Rattle.list.specs.PointRead.{point_read}
use Rattle.list.proofs.Fits.{record_for}
use Rattle.list.proofs.Places.{start_of, holds_at}
use Rattle.list.proofs.PointRead.{first_below, is_some, newest-is}
use Rattle.memtable.specs.Image.{judge}
use Rattle.memtable.specs.Insert.{inserted, buffer_after, state_after}
use Rattle.memtable.specs.Get.{found_in, found, got}
use Rattle.memtable.proofs.Judging.{judge-holds}
use Rattle.memtable.proofs.Getting.{g-found}
use Rattle.memtable.proofs.After.{get-inserted}
use Rattle.memtable.proofs.Kept.{Inserted, inserted-is, after-image, insert-fine, insert-holds}
use Rattle.memtable.specs.declared.Memtable.{Memtable}

found-is : (ws : List Version) (i : ℕ) (v : Version) → found ws (some (i, v)) ≡ Some (found_in ws i v)
unfolding found
found-is ws i v = refl

-- the value's start and length are those of its bytes in the image
pub value-stands : (vs : List Version) → Fine vs → (i : ℕ) → i < length vs → (d : Version)
    → take (length (get_or vs i d).value) (drop (header_size + length (records (take i vs)) + record_size + length (get_or vs i d).key) (encode vs)) ≡ (get_or vs i d).value
unfolding version_at record_for value_of start_of
value-stands vs f i h d = ap (λ (w : Version). w.value) (holds_at vs f i h d)

module _ (m : Memtable) (b key : List ℕ) (seqno tag : ℕ) (value : List ℕ) (ws : List Version) (y : Bytes b) (yk : Bytes key) (yv : Bytes value) (s : seqno < 18446744073709551616)
    (e : inserted m b key seqno tag value ≡ Ok ws) where
  abbrev passed : Inserted m b key seqno tag value ws
  passed = inserted-is m b key seqno tag value ws e

  -- the read of the written table, and the bytes where it says the value is
  pub record ReadBack : Type 0 where
    pub number : ℕ
    pub start : ℕ
    pub answer : got key (seqno + 1) (judge (state_after m seqno (Ok ws)) (buffer_after m.used b (Ok ws))) ≡ Ok (Some (record { at = number; seqno = seqno; kind = passed.kind; start = start; len = length value }))
    pub bytes : take (length value) (drop start (take (state_after m seqno (Ok ws)).used (buffer_after m.used b (Ok ws)))) ≡ value

  pub reads-back : ReadBack
  unfolding version state_after first_below found_in
  reads-back =
      let w = passed in
      let v = version key seqno w.kind value in
      let k = (judge-holds m b w.vs y w.held).1 in
      let n : first_below key (seqno + 1) ws ≡ v ∷ [] = ap (first_below key (seqno + 1)) w.is ∙ get-inserted v w.vs k.fine.in_order in
      let h = is_some (point_read key (seqno + 1) ws) v n in
      let f = insert-fine m b key seqno tag value ws y yk yv s e in
      let j = insert-holds m b key seqno tag value ws y yk yv s e in
      let q = newest-is key (seqno + 1) ws v h.0 v f.in_order h.1 in
      let start = header_size + length (records (take h.0 ws)) + record_size + length key in
      let z : take (length value) (drop start (encode ws)) ≡ value =
      subst (λ (x : Version). take (length x.value) (drop (header_size + length (records (take h.0 ws)) + record_size + length x.key) (encode ws)) ≡ x.value) q.is (value-stands ws f h.0 q.inside v) in
      record {
        number = h.0;
        start = start;
        answer = sym (g-found key (seqno + 1) _ ws j (λ i. omega arith) w.key_fits w.keyed _ (sym (ap (found ws) h.1 ∙ found-is ws h.0 v)));
        bytes = ap (λ (x : List ℕ). take (length value) (drop start x)) (after-image m.used b ws k.fits w.room) ∙ z;
      }
