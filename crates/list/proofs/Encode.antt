-- The encoding of fine versions is accepted and holds them, because each record reads back as its version and the order is theirs.
use Rattle.std.specs.Prelude.{Ok}
use Prim.Native.Nat.{ℕ, zero, suc, ◌+◌, ◌*◌, ◌≤◌, ◌<◌}
use mathlib.Core.Path.{◌≡◌, refl, sym, ap, ap₂, ◌∙◌}
use mathlib.Core.List.{List, [], ◌∷◌, ◌++◌, map}
use native.Mathlib.Omega.{arith}
use native.Mathlib.Nat.{add-zero, zero-add}
use lib.ListN.{length, take, drop, length-append}
use Rattle.list.specs.Field.{le_at, le_bytes}
use Rattle.list.specs.Limits.{header_size, record_size, list_limit}
use Rattle.list.specs.ValueType.{tag_of}
use Rattle.list.specs.Record.{key_of, no_record}
use Rattle.list.specs.Check.{order, check_from, mark, count_in, check_list}
use Rattle.list.specs.Version.{Version, record_of, records, header, encode, records_at, Bytes, Fits, AllFit, ordered, Above, InOrder, Fine, version_at, versions_of}
use Rattle.list.proofs.Order.{key-less}
use Rattle.list.proofs.Strict.{empty-first, agree}
use Rattle.list.proofs.Checking.{next-less, goes_on}
use Rattle.list.proofs.Checking as checking
use Rattle.list.proofs.Header.{h-counts, list-yes}
use Rattle.list.proofs.Numbers.{le_read}
use Rattle.list.proofs.Fits.{record_for, next-is, reads, holds, ends, length-record}
use Rattle.list.proofs.Parts.{bytes-append, bytes_le}
use Rattle.std.specs.declared.cmp.Ordering.TheVariants.{Less}
use Rattle.list.specs.declared.record.Record.{Record}
use Rattle.list.specs.Pick.{on_result}

-- records are ordered as the versions that they hold
pub order_is : (s : List ℕ) (p e : Record) → order s p e ≡ ordered (version_at s p) (version_at s e)
unfolding order ordered version_at
order_is s p e = refl

pub accepts : (vs : List Version) (s : List ℕ) (at : ℕ) (p : Record) (done : ℕ) → AllFit vs → Above (version_at s p) vs
    → at + length (records vs) ≡ length s → drop at s ≡ records vs → check_from (length vs) s at p done ≡ Ok (done + length vs)
unfolding AllFit Above records
accepts [] s at p done f o l h = checking.ends s at p done (omega arith) ∙ ap Ok (sym (add-zero done))
accepts (v ∷ vs) s at p done f o l h =
    let e = record_for at v in
    let hv : version_at s e ≡ v = holds s (records vs) at v f.0 h in
    let r : order s p e ≡ Less = order_is s p e ∙ ap (λ (x : Version). ordered (version_at s p) x) hv ∙ o.0 in
    let n : drop e.next s ≡ records vs = ends s (records vs) at v f.0 h in
    let a : Above (version_at s e) vs = rw hv o.1 in
    let q : e.next + length (records vs) ≡ length s = omega (arith, next-is at v, length-append (record_of v) (records vs)) in
    let d : done + 1 + length vs ≡ done + suc (length vs) = omega arith in
    goes_on s at p done (suc (length vs)) (length vs) refl e (sym (next-less s p at _ refl e (reads s (records vs) at v f.0 h) _ refl r))
    ∙ accepts vs s e.next e (done + 1) f.1 a q n
    ∙ ap Ok d

pub length-header : (count : ℕ) → length (header count) ≡ header_size
unfolding header_size header mark le_bytes
length-header count = refl

-- what stands in the bytes of a list
module _ (vs : List Version) where
  pub mark-stands : take 3 (encode vs) ≡ mark
  unfolding encode header mark
  mark-stands = refl

  pub version-stands : le_at (encode vs) 3 2 ≡ 1
  unfolding encode header mark le_at le_bytes
  version-stands = refl

  pub count-stands : drop 5 (encode vs) ≡ le_bytes (length vs) 4 ++ records vs
  unfolding encode header mark le_bytes
  count-stands = refl

  pub records-stand : drop header_size (encode vs) ≡ records vs
  unfolding header_size encode header mark le_bytes
  records-stand = refl

  pub length-encode : length (encode vs) ≡ header_size + length (records vs)
  unfolding header_size encode header mark le_bytes
  length-encode = omega arith

many : (vs : List Version) → AllFit vs → 16 * length vs ≤ length (records vs)
unfolding record_size records AllFit
many [] f = omega arith
many (v ∷ vs) f =
    let a = length-append (record_of v) (records vs) in
    let b = length-record v in
    let c = many vs f.1 in
    let d = f.0.keyed in
    omega arith

-- as many as the limit lets in
pub fine-few : (vs : List Version) → Fine vs → length vs ≤ 65535
unfolding header_size list_limit
fine-few vs f = let a = length-encode vs in let b = many vs f.fit in let c = f.small in omega arith

pub count-reads : (vs : List Version) → Fine vs → count_in (encode vs) ≡ length vs
unfolding count_in
count-reads vs f = let a = fine-few vs f in let b : length vs < 4294967296 = omega arith in le_read 4 (encode vs) (records vs) 5 (length vs) (count-stands vs) b

first_above : (vs : List Version) (s : List ℕ) → AllFit vs → InOrder vs → Above (version_at s no_record) vs
unfolding AllFit InOrder Above ordered version_at key_of no_record
first_above [] s f o = tt
first_above (v ∷ vs) s f o = (key-less [] 0 v.key v.seqno (empty-first v.key f.0.keyed), o)

-- law A
pub encode-accepted : (vs : List Version) → Fine vs → check_list (encode vs) ≡ Ok (length vs)
encode-accepted vs f =
    let l = length-encode vs in
    let h = h-counts (encode vs) f.small (omega arith) _ (sym (agree _ _ (mark-stands vs))) refl _ (sym (version-stands vs)) refl (length vs) (sym (count-reads vs f)) in
    let a = accepts vs (encode vs) header_size no_record 0 f.fit (first_above vs (encode vs) f.fit f.in_order) (sym l) (records-stand vs) in
    sym (list-yes (encode vs) _ h (length vs) refl _ refl) ∙ a
    ∙ ap Ok (zero-add (length vs))

found_all : (vs : List Version) (s : List ℕ) (at : ℕ) → AllFit vs → drop at s ≡ records vs → map (version_at s) (records_at (length vs) s at) ≡ vs
unfolding AllFit records records_at on_result
found_all [] s at f h = refl
found_all (v ∷ vs) s at f h =
    rw (reads s (records vs) at v f.0 h)
    (ap₂ ◌∷◌ (holds s (records vs) at v f.0 h) (found_all vs s (record_for at v).next f.1 (ends s (records vs) at v f.0 h)))

-- a list holds the versions that were written
pub versions-encode : (vs : List Version) → Fine vs → versions_of (encode vs) ≡ vs
unfolding versions_of
versions-encode vs f = rw (count-reads vs f) (found_all vs (encode vs) header_size f.fit (records-stand vs))

-- one encoding, one meaning
pub encode_injective : (vs ws : List Version) → Fine vs → Fine ws → encode vs ≡ encode ws → vs ≡ ws
encode_injective vs ws f g h = sym (versions-encode vs f) ∙ ap versions_of h ∙ versions-encode ws g

bytes-none : Bytes []
unfolding Bytes
bytes-none i = omega arith

bytes-mark : Bytes mark
unfolding Bytes mark
bytes-mark zero = omega arith
bytes-mark (suc zero) = omega arith
bytes-mark (suc (suc zero)) = omega arith
bytes-mark (suc (suc (suc i))) = omega arith

bytes-record : (v : Version) → Fits v → Bytes (record_of v)
unfolding record_of
bytes-record v f =
    bytes-append _ v.value
    (bytes-append _ (le_bytes (length v.value) 4)
    (bytes-append _ (le_bytes (tag_of v.kind) 1)
    (bytes-append _ (le_bytes v.seqno 8)
    (bytes-append (le_bytes (length v.key) 2) v.key (bytes_le 2 _) f.key-bytes)
    (bytes_le 8 _))
    (bytes_le 1 _))
    (bytes_le 4 _))
    f.value-bytes

bytes-records : (vs : List Version) → AllFit vs → Bytes (records vs)
unfolding records AllFit
bytes-records [] f = bytes-none
bytes-records (v ∷ vs) f = bytes-append _ _ (bytes-record v f.0) (bytes-records vs f.1)

-- what is written are bytes
pub bytes-encode : (vs : List Version) → Fine vs → Bytes (encode vs)
unfolding encode header
bytes-encode vs f =
    bytes-append (mark ++ le_bytes 1 2 ++ le_bytes (length vs) 4) (records vs)
    (bytes-append (mark ++ le_bytes 1 2) _ (bytes-append mark _ bytes-mark (bytes_le 2 1)) (bytes_le 4 (length vs)))
    (bytes-records vs f.fit)
