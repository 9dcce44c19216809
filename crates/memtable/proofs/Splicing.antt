-- A record spliced into an image in place leaves the bytes of the versions with that one inserted: what stands before the place stays, the record follows, then what it doesn't replace.
use Rattle.std.specs.Prelude.{Ok}
use Prim.Native.Nat.{ℕ, ◌+◌, ◌-◌, ◌≤◌, max}
use mathlib.Core.Path.{◌≡◌, refl, sym, ap, ◌∙◌}
use mathlib.Core.List.{List, ◌∷◌, ◌++◌, append_assoc}
use native.Mathlib.Omega.{arith}
use lib.ListN.{length, take, drop, replicate, length-append, length-drop, length-replicate, take-append-drop}
use lib.Seq.{sets, take_at, drop-drop, take-take, take-add, length-take-le}
use Rattle.list.specs.Limits.{header_size}
use Rattle.list.specs.Field.{le_bytes}
use Rattle.list.specs.Check.{mark}
use Rattle.list.specs.Version.{Version, record_of, records, header, encode}
use Rattle.list.proofs.Numbers.{length-le}
use Rattle.list.proofs.Buffers.{overwrite}
use Rattle.list.proofs.Encode.{length-header, length-encode}
use Rattle.list.proofs.Places.{records-append, records-one}
use Rattle.memtable.specs.Change.{insert}
use Rattle.memtable.specs.Insert.{buffer_after}
use Rattle.memtable.specs.Private.{moved, spliced}

-- the stores one after the other
pub splices : (t a b d e : List ℕ) (used start cut count to : ℕ) (v : Version) → a ≡ moved t cut used to → b ≡ sets a start (record_of v) → d ≡ sets b 5 (le_bytes count 4)
    → e ≡ sets d (to + (used - cut)) (replicate (used - (to + (used - cut))) 0) → to ≡ start + length (record_of v) → e ≡ spliced t used start cut count v
unfolding spliced
splices t a b d e used start cut count to v p q r x y = x ∙ rw (r, q, p, y)

-- versions around the place of v: those before it, and those behind it that stay
pub record Around (v : Version) (vs : List Version) (start cut : ℕ) : Type 0 where
  pub before : List Version
  pub behind : List Version
  pub rest : List ℕ
  pub inserted : insert v vs ≡ before ++ v ∷ behind
  pub front : records vs ≡ records before ++ rest
  pub started : start ≡ header_size + length (records before)
  pub tail : drop cut (encode vs) ≡ records behind
  pub in_order : start ≤ cut
  pub inside : cut ≤ length (encode vs)

-- the header, around its count
opens : (vs : List Version) (rest : List ℕ) → header (length vs) ++ rest ≡ mark ++ le_bytes 1 2 ++ (le_bytes (length vs) 4 ++ rest)
unfolding header
opens vs rest = append_assoc (mark ++ le_bytes 1 2) (le_bytes (length vs) 4) rest

five : length (mark ++ le_bytes 1 2) ≡ 5
unfolding mark le_bytes
five = refl

encode-is : (vs : List Version) → encode vs ≡ header (length vs) ++ records vs
unfolding encode
encode-is vs = refl

module _ (b : List ℕ) (used start cut : ℕ) (v : Version) (vs : List Version) (fits : used ≤ length b) (image : take used b ≡ encode vs) (a : Around v vs start cut) where
  abbrev ws : List Version
  ws = insert v vs

  abbrev to : ℕ
  to = start + length (record_of v)

  abbrev end : ℕ
  end = to + (used - cut)

  long : length (encode vs) ≡ used
  long = ap length (sym image) ∙ length-take-le used b fits

  behind-long : length (records a.behind) ≡ used - cut
  behind-long = ap length (sym a.tail) ∙ length-drop cut (encode vs) ∙ ap (λ (n : ℕ). n - cut) long

  records-are : records ws ≡ records a.before ++ (record_of v ++ records a.behind)
  records-are =
      ap records a.inserted ∙ records-append a.before (v ∷ a.behind)
      ∙ ap (λ (l : List ℕ). records a.before ++ l) (records-one v a.behind)

  pub end_is : length (encode (insert v vs)) ≡ start + length (record_of v) + (used - cut)
  end_is =
      let l = length-encode ws in
      let e = ap length records-are in
      let x = length-append (records a.before) (record_of v ++ records a.behind) in
      let y = length-append (record_of v) (records a.behind) in
      let z = behind-long in
      let s = a.started in
      omega arith

  -- what stands before the place
  front-is : take start b ≡ header (length vs) ++ records a.before
  front-is =
      let l = long in
      let o = a.in_order in
      let i = a.inside in
      let h = length-append (header (length vs)) (records a.before) in
      let g = length-header (length vs) in
      let s = a.started in
      let w : start ≤ used = omega arith in
      sym (take-take start used b w) ∙ ap (take start) (image ∙ encode-is vs ∙ ap (λ (l : List ℕ). header (length vs) ++ l) a.front ∙ sym (append_assoc (header (length vs)) (records a.before) a.rest))
      ∙ take_at (header (length vs) ++ records a.before) a.rest start (omega arith)

  module _ (room : start + length (record_of v) + (used - cut) ≤ length b) where
    tail-moved : moved b cut used to ≡ take start b ++ (take (length (record_of v)) (drop start b) ++ (records a.behind ++ drop end b))
    unfolding moved
    tail-moved =
        rw (image, a.tail)
        (ap (λ (l : List ℕ). l ++ (records a.behind ++ drop (start + length (record_of v) + (used - cut)) b)) (take-add start (length (record_of v)) b)
        ∙ append_assoc (take start b) (take (length (record_of v)) (drop start b)) _)

    start-long : length (take start b) ≡ start
    start-long = length-take-le start b (omega arith)

    written : sets (moved b cut used to) start (record_of v) ≡ take start b ++ (record_of v ++ (records a.behind ++ drop end b))
    written =
        let l = length-drop start b in
        let k : length (take (length (record_of v)) (drop start b)) ≡ length (record_of v) = length-take-le _ (drop start b) (omega arith) in
        ap (λ (t : List ℕ). sets t start (record_of v)) tail-moved ∙ overwrite (take (length (record_of v)) (drop start b)) (record_of v) (take start b) _ start start-long k

    rest-is : List ℕ
    rest-is = records a.before ++ (record_of v ++ (records a.behind ++ drop end b))

    spread : sets (moved b cut used to) start (record_of v) ≡ mark ++ le_bytes 1 2 ++ (le_bytes (length vs) 4 ++ rest-is)
    unfolding rest-is
    spread =
        written ∙ ap (λ (l : List ℕ). l ++ (record_of v ++ (records a.behind ++ drop end b))) front-is
        ∙ append_assoc (header (length vs)) (records a.before) _ ∙ opens vs _

    joined : mark ++ le_bytes 1 2 ++ (le_bytes (length ws) 4 ++ rest-is) ≡ encode ws ++ drop end b
    unfolding rest-is
    joined =
        sym (opens ws _)
        ∙ ap (λ (l : List ℕ). header (length ws) ++ l)
        (ap (λ (l : List ℕ). records a.before ++ l) (sym (append_assoc (record_of v) (records a.behind) (drop end b)))
        ∙ sym (append_assoc (records a.before) (record_of v ++ records a.behind) (drop end b)))
        ∙ sym (append_assoc (header (length ws)) (records a.before ++ (record_of v ++ records a.behind)) (drop end b))
        ∙ ap (λ (l : List ℕ). header (length ws) ++ l ++ drop end b) (sym records-are)
        ∙ ap (λ (l : List ℕ). l ++ drop end b) (sym (encode-is ws))

    counted : (n : ℕ) → n ≡ length ws → sets (sets (moved b cut used to) start (record_of v)) 5 (le_bytes n 4) ≡ encode ws ++ drop end b
    counted n e =
        let k : length (le_bytes (length vs) 4) ≡ length (le_bytes n 4) = length-le (length vs) 4 ∙ sym (length-le n 4) in
        ap (λ (t : List ℕ). sets t 5 (le_bytes n 4)) spread ∙ overwrite (le_bytes (length vs) 4) (le_bytes n 4) (mark ++ le_bytes 1 2) rest-is 5 five k
        ∙ ap (λ (j : ℕ). mark ++ le_bytes 1 2 ++ (le_bytes j 4 ++ rest-is)) e ∙ joined

    cleared : sets (encode ws ++ drop end b) end (replicate (used - end) 0) ≡ encode ws ++ (replicate (used - end) 0 ++ drop (max used end) b)
    cleared =
        let l = length-drop end b in
        let e = length-replicate {A = ℕ} (used - end) 0 in
        let k : length (take (used - end) (drop end b)) ≡ used - end = length-take-le (used - end) (drop end b) (omega arith) in
        let m : end + (used - end) ≡ max used end = omega arith in
        ap (λ (t : List ℕ). sets (encode ws ++ t) end (replicate (used - end) 0))
        (sym (take-append-drop (used - end) (drop end b)) ∙ ap (λ (t : List ℕ). take (used - end) (drop end b) ++ t) (drop-drop (used - end) end b ∙ ap (λ (j : ℕ). drop j b) m))
        ∙ overwrite (take (used - end) (drop end b)) (replicate (used - end) 0) (encode ws) (drop (max used end) b) end end_is (k ∙ sym e)

    pub spliced-is : (n : ℕ) → n ≡ length (insert v vs) → spliced b used start cut n v ≡ buffer_after used b (Ok (insert v vs))
    unfolding spliced buffer_after
    spliced-is n e =
        ap (λ (t : List ℕ). sets t (start + length (record_of v) + (used - cut)) (replicate (used - (start + length (record_of v) + (used - cut))) 0)) (counted n e)
        ∙ cleared
        ∙ rw end_is (sym (append_assoc (encode (insert v vs)) _ _))
