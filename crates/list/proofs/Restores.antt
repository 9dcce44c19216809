-- A record that reads whole stands as the bytes of the version that it holds, because writing undoes reading field by field.
use Rattle.std.specs.Prelude.{Ok}
use Prim.Native.Nat.{ℕ, ◌+◌, ◌≤◌, ◌<◌}
use mathlib.Core.Path.{◌≡◌, refl, sym, ap, ◌∙◌, subst}
use mathlib.Core.List.{List, ◌++◌}
use native.Mathlib.Omega.{arith}
use lib.ListN.{length, take, drop, get_or, length-drop}
use lib.Seq.{length-take-le}
use Rattle.list.specs.Limits.{key_limit}
use Rattle.list.specs.Field.{le_at, le_bytes}
use Rattle.list.specs.ValueType.{tag_of, type_of}
use Rattle.list.specs.Record.{read_at, key_of, value_of}
use Rattle.list.specs.Private.{record_at}
use Rattle.list.specs.Version.{Version, record_of, Bytes, Fits, version_at}
use Rattle.list.proofs.Numbers.{one_byte, cut, le_write, le-bound}
use Rattle.list.proofs.Tags.{tag-of-type}
use Rattle.list.proofs.Whole.{Was, read-judged, whole-was}
use Rattle.list.proofs.Fits.{fields}
use Rattle.list.proofs.Parts.{bytes_take, bytes_drop}
use Rattle.list.specs.declared.value_type.ValueType.{ValueType}
use Rattle.list.specs.declared.record.Record.{Record}

module _ (s : List ℕ) (b : Bytes s) (at k q w : ℕ) (ek : le_at s at 2 ≡ k) (eq : at + 2 + k ≡ q) (ew : le_at s (q + 9) 4 ≡ w)
    (nk : k ≡ 0 → ⊥) (kind : ValueType) (t : type_of (get_or s (q + 8) 0) ≡ Ok kind) (room : q + 13 + w ≤ length s) where
  abbrev held : Version
  held = record { key = take k (drop (at + 2) s); seqno = le_at s q 8; kind = kind; value = take w (drop (q + 13) s) }

  long : (i n : ℕ) → i + n ≤ length s → length (take n (drop i s)) ≡ n
  long i n h = length-take-le n (drop i s) (rw (length-drop i s) (omega arith))

  held_fits : Fits held
  unfolding key_limit
  held_fits =
      let lk : length (take k (drop (at + 2) s)) ≡ k = long (at + 2) k (omega arith) in
      let lw : length (take w (drop (q + 13) s)) ≡ w = long (q + 13) w (omega arith) in
      let bk : le_at s at 2 < 65536 = le-bound 2 s at b in
      let bw : le_at s (q + 9) 4 < 4294967296 = le-bound 4 s (q + 9) b in
      record {
        keyed = omega arith;
        key_fits = omega arith;
        key-bytes = bytes_take k _ (bytes_drop (at + 2) s b);
        seqno-fits = le-bound 8 s q b;
        value-fits = omega arith;
        value-bytes = bytes_take w _ (bytes_drop (q + 13) s b);
      }

  held-stands : drop at s ≡ record_of held ++ drop (q + 13 + w) s
  held-stands =
      let lk : length (take k (drop (at + 2) s)) ≡ k = long (at + 2) k (omega arith) in
      let lw : length (take w (drop (q + 13) s)) ≡ w = long (q + 13) w (omega arith) in
      let a0 : drop at s ≡ le_bytes (le_at s at 2) 2 ++ drop (at + 2) s = le_write 2 s at (at + 2) refl b (omega arith) in
      let a1 : drop (at + 2) s ≡ take k (drop (at + 2) s) ++ drop q s = cut s (at + 2) k q (sym eq) in
      let a2 : drop q s ≡ le_bytes (le_at s q 8) 8 ++ drop (q + 8) s = le_write 8 s q (q + 8) refl b (omega arith) in
      let a3 : drop (q + 8) s ≡ le_bytes (le_at s (q + 8) 1) 1 ++ drop (q + 9) s = le_write 1 s (q + 8) (q + 9) (omega arith) b (omega arith) in
      let a4 : drop (q + 9) s ≡ le_bytes (le_at s (q + 9) 4) 4 ++ drop (q + 13) s = le_write 4 s (q + 9) (q + 13) (omega arith) b (omega arith) in
      let a5 : drop (q + 13) s ≡ take w (drop (q + 13) s) ++ drop (q + 13 + w) s = cut s (q + 13) w (q + 13 + w) refl in
      let c3 : drop (q + 8) s ≡ le_bytes (tag_of kind) 1 ++ drop (q + 9) s = rw (← tag-of-type _ kind t, ← one_byte s (q + 8)) a3 in
      let c4 : drop (q + 9) s ≡ le_bytes (length (take w (drop (q + 13) s))) 4 ++ drop (q + 13) s = rw (lw, ← ew) a4 in
      let c0 : drop at s ≡ le_bytes (length (take k (drop (at + 2) s))) 2 ++ drop (at + 2) s = rw (lk, ← ek) a0 in
      c0 ∙ ap (λ (l : List ℕ). le_bytes (length (take k (drop (at + 2) s))) 2 ++ l)
      (a1 ∙ ap (λ (l : List ℕ). take k (drop (at + 2) s) ++ l)
      (a2 ∙ ap (λ (l : List ℕ). le_bytes (le_at s q 8) 8 ++ l)
      (c3 ∙ ap (λ (l : List ℕ). le_bytes (tag_of kind) 1 ++ l)
      (c4 ∙ ap (λ (l : List ℕ). le_bytes (length (take w (drop (q + 13) s))) 4 ++ l) a5))))
      ∙ sym (fields held (drop (q + 13 + w) s))

module _ (s : List ℕ) (b : Bytes s) (at : ℕ) (e : Record) (h : read_at s at ≡ Ok e) where
  was : Was s (at + 2) (le_at s at 2) (at + 2 + le_at s at 2) e
  was = whole-was s at e (read-judged s at e h).reads

  pub read_fits : Fits (version_at s e)
  unfolding version_at record_at key_of value_of
  read_fits = subst (λ x. Fits (version_at s x)) was.is (held_fits s b at _ _ _ refl refl refl (read-judged s at e h).keyed e.kind was.tagged was.room)

  pub read-stands : drop at s ≡ record_of (version_at s e) ++ drop e.next s
  unfolding version_at record_at key_of value_of
  read-stands =
      subst (λ x. drop at s ≡ record_of (version_at s x) ++ drop x.next s) was.is
      (held-stands s b at _ _ _ refl refl refl (read-judged s at e h).keyed e.kind was.tagged was.room)
