-- What is written field by field, each behind the one before it, is the header or the record whole.
use Rattle.std.specs.Prelude.{Ok}
use Prim.Native.Nat.{ℕ, ◌+◌, ◌-◌, ◌≤◌}
use mathlib.Core.Path.{◌≡◌, refl, sym, ap, ◌∙◌}
use mathlib.Core.List.{List, ◌++◌, append_assoc}
use native.Mathlib.Omega.{arith}
use lib.ListN.{length, take, drop, length-append, length-drop}
use lib.Seq.{sets, sets-eq, length-take-le}
use Rattle.list.specs.Limits.{record_size}
use Rattle.list.specs.Field.{le_bytes}
use Rattle.list.specs.ValueType.{tag_of}
use Rattle.list.specs.Record.{read_at, key_of}
use Rattle.list.specs.Check.{mark}
use Rattle.list.specs.Version.{Version, version, record_of, header, with_seqno, version_at, Bytes}
use Rattle.list.proofs.Numbers.{length-le, then-put, part}
use Rattle.list.proofs.Buffers.{overwrite}
use Rattle.list.proofs.Whole.{inside}
use Rattle.list.proofs.Restores.{read-stands}
use Rattle.list.specs.declared.value_type.ValueType.{ValueType}
use Rattle.list.specs.declared.record.Record.{Record}

pub header-written : (t u v w : List ℕ) (n : ℕ) → u ≡ sets t 0 mark → v ≡ sets u 3 (le_bytes 1 2) → w ≡ sets v 5 (le_bytes n 4) → w ≡ sets t 0 (header n)
unfolding header mark le_bytes
header-written t u v w n a b c = c ∙ rw (b, a)

-- a record from its fields: t at the start, then after each field
module _ (t a b c d e f key value : List ℕ) (at seqno w : ℕ) (kind : ValueType) where
  pub record-written : a ≡ sets t at (le_bytes (length key) 2) → b ≡ sets a (at + 2) key
      → c ≡ sets b (at + 2 + length key) (le_bytes seqno 8) → w ≡ tag_of kind → d ≡ sets c (at + 2 + length key + 8) (le_bytes w 1)
      → e ≡ sets d (at + 2 + length key + 8 + 1) (le_bytes (length value) 4) → f ≡ sets e (at + 2 + length key + 8 + 1 + 4) value
      → f ≡ sets t at (record_of (version key seqno kind value))
  unfolding record_of version
  record-written p q r x y z u =
      let f1 = le_bytes (length key) 2 in
      let f2 = f1 ++ key in
      let f3 = f2 ++ le_bytes seqno 8 in
      let f4 = f3 ++ le_bytes (tag_of kind) 1 in
      let f5 = f4 ++ le_bytes (length value) 4 in
      let l1 : length f1 ≡ 2 = length-le _ 2 in
      let l2 : length f2 ≡ 2 + length key = length-append f1 key ∙ omega arith in
      let l3 : length f3 ≡ 2 + length key + 8 = length-append f2 (le_bytes seqno 8) ∙ omega (arith, length-le seqno 8) in
      let l4 : length f4 ≡ 2 + length key + 8 + 1 = length-append f3 (le_bytes (tag_of kind) 1) ∙ omega (arith, length-le (tag_of kind) 1) in
      let l5 : length f5 ≡ 2 + length key + 8 + 1 + 4 = length-append f4 (le_bytes (length value) 4) ∙ omega (arith, length-le (length value) 4) in
      let g2 : b ≡ sets t at f2 = q ∙ then-put t a f1 key at _ p (omega arith) in
      let g3 : c ≡ sets t at f3 = r ∙ then-put t b f2 (le_bytes seqno 8) at _ g2 (omega arith) in
      let g4 : d ≡ sets t at f4 = y ∙ rw x (then-put t c f3 (le_bytes (tag_of kind) 1) at _ g3 (omega arith)) in
      let g5 : e ≡ sets t at f5 = z ∙ then-put t d f4 (le_bytes (length value) 4) at _ g4 (omega arith) in
      u ∙ then-put t e f5 value at _ g5 (omega arith)

-- stores over a part of what was just stored
module _ (t u a b b' d : List ℕ) (at to : ℕ) (m : length b ≡ length b') (room : at + length (a ++ (b ++ d)) ≤ length t) where
  spread : (x : List ℕ) → length x ≡ length b → sets t at (a ++ (x ++ d)) ≡ take at t ++ a ++ (x ++ (d ++ drop (at + length (a ++ (b ++ d))) t))
  spread x h =
      let l : length (a ++ (x ++ d)) ≡ length (a ++ (b ++ d)) = simp length-append (omega arith) in
      let s : sets t at (a ++ (x ++ d)) ≡ take at t ++ (a ++ (x ++ d)) ++ drop (at + length (a ++ (x ++ d))) t = sets-eq (a ++ (x ++ d)) t at (omega arith) in
      s ∙ ap (λ (k : ℕ). take at t ++ (a ++ (x ++ d)) ++ drop (at + k) t) l ∙ simp append_assoc refl

  pub then-over : u ≡ sets t at (a ++ (b ++ d)) → to ≡ at + length a → sets u to b' ≡ sets t at (a ++ (b' ++ d))
  then-over e f =
      let q = length-append a (b ++ d) in
      let l : length (take at t ++ a) ≡ to = length-append (take at t) a ∙ (rw (length-take-le at t (omega arith)) (sym f)) in
      rw (e, spread b refl, spread b' (sym m)) (overwrite b b' (take at t ++ a) _ to l m)

-- a record, around its seqno
around : (v : Version) → record_of v
    ≡ le_bytes (length v.key) 2 ++ v.key ++ (le_bytes v.seqno 8 ++ (le_bytes (tag_of v.kind) 1 ++ (le_bytes (length v.value) 4 ++ v.value)))
unfolding record_of
around v = simp append_assoc refl

seqno-written : (t u : List ℕ) (v : Version) (at to n : ℕ) → at + length (record_of v) ≤ length t → u ≡ sets t at (record_of v) → to ≡ at + 2 + length v.key
    → sets u to (le_bytes n 8) ≡ sets t at (record_of (with_seqno n v))
unfolding with_seqno
seqno-written t u v at to n room e f =
    let a = le_bytes (length v.key) 2 ++ v.key in
    let l : length a ≡ 2 + length v.key = length-append (le_bytes (length v.key) 2) v.key ∙ omega (arith, length-le (length v.key) 2) in
    let m : length (le_bytes v.seqno 8) ≡ length (le_bytes n 8) = length-le v.seqno 8 ∙ sym (length-le n 8) in
    let r = ap (λ (k : List ℕ). at + length k) (around v) in
    then-over t u a (le_bytes v.seqno 8) (le_bytes n 8) _ at to m (omega arith) (e ∙ ap (sets t at) (around v)) (omega arith)
    ∙ ap (sets t at) (sym (around (with_seqno n v)))

-- a record of another list, with a seqno of its own
module _ (s t u w : List ℕ) (from at n : ℕ) (e : Record) (y : Bytes s) (h : read_at s from ≡ Ok e) where
  key-long : length (version_at s e).key ≡ e.klen
  unfolding version_at key_of
  key-long = let i = inside s from e h in length-take-le e.klen (drop e.key s) (rw (length-drop e.key s) (omega arith))

  pub record-copied : at + record_size + e.klen + e.vlen ≤ length t → u ≡ sets t at (take (e.next - from) (drop from s))
      → w ≡ sets u (at + 2 + e.klen) (le_bytes n 8) → w ≡ sets t at (record_of (with_seqno n (version_at s e)))
  record-copied room p q =
      let v = version_at s e in
      let i = inside s from e h in
      let st = read-stands s y from e h in
      let a : length (drop from s) ≡ length s - from = length-drop from s in
      let b : length (drop e.next s) ≡ length s - e.next = length-drop e.next s in
      let c = ap length st ∙ length-append (record_of v) (drop e.next s) in
      let l : length (record_of v) ≡ e.next - from = omega arith in
      let k = key-long in
      q ∙ seqno-written t u v at _ n (omega arith) (p ∙ ap (sets t at) (part s (record_of v) _ from _ l st)) (omega arith)
