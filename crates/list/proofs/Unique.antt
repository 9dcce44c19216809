-- Each contract leaves one result and one content of what is lent, because it is an equation for both; of a part it fixes the bytes and the place where it begins.
use Prim.Native.Nat.{ℕ}
use mathlib.Core.Path.{◌≡◌, sym, ◌∙◌}
use contract.Lifetimes.{Lfts}
use Rattle.list.proofs.refusal.U64FromRefusal.from.Reads as number-reads
use Rattle.list.proofs.refusal.RefusedFromRefusal.from.Reads as refused-reads
use Rattle.list.proofs.value_type.ValueTypeTryFromU8.try_from.Reads as try-from-reads
use Rattle.list.proofs.value_type.U8FromValueType.from.Reads as tag-reads
use Rattle.list.proofs.value_type.ValueType.is_tombstone.Reads as is-tombstone-reads
use Rattle.list.proofs.field.le.Reads as le-reads
use Rattle.list.proofs.field.put_le.Reads as put-le-reads
use Rattle.list.proofs.field.words_in.Reads as words-in-reads
use Rattle.list.proofs.field.word_at.Reads as word-at-reads
use Rattle.list.proofs.field.put_word.Reads as put-word-reads
use Rattle.list.proofs.key.compare_keys.Reads as compare-keys-reads
use Rattle.list.proofs.key.compare_versions.Reads as compare-versions-reads
use Rattle.list.proofs.key.is_less.Reads as is-less-reads
use Rattle.list.proofs.key.same_key.Reads as same-key-reads
use Rattle.list.proofs.record.no_record.Reads as no-record-reads
use Rattle.list.proofs.record.read_whole.Reads as read-whole-reads
use Rattle.list.proofs.record.read_record.Reads as read-record-reads
use Rattle.list.proofs.value.key_of.Reads as key-of-reads
use Rattle.list.proofs.value.value_of.Reads as value-of-reads
use Rattle.list.proofs.value.seqno_by.Reads as seqno-by-reads
use Rattle.list.proofs.value.kind_by.Reads as kind-by-reads
use Rattle.list.proofs.checker.next_record.Reads as next-record-reads
use Rattle.list.proofs.checker.count_in.Reads as count-in-reads
use Rattle.list.proofs.checker.check_header.Reads as check-header-reads
use Rattle.list.proofs.checker.check_list.Reads as check-list-reads
use Rattle.list.proofs.writer.put_count.Reads as put-count-reads
use Rattle.list.proofs.writer.write_header.Reads as write-header-reads
use Rattle.list.proofs.writer.write_record.Reads as write-record-reads
use Rattle.list.proofs.writer.copy_bytes.Reads as copy-bytes-reads
use Rattle.list.proofs.writer.copy_record.Reads as copy-record-reads

one : {A : Type 0} {r r' d : A} → r ≡ d → r' ≡ d → r ≡ r'
one p q = p ∙ sym q

pub number : (κs : Lfts 0) (a : _) (r r' : _) (x x' : _) → number-reads.Post κs a r x → number-reads.Post κs a r' x' → r ≡ r'
number κs a r r' x x' p q = one p q

pub refused : (κs : Lfts 0) (a : _) (r r' : _) (x x' : _) → refused-reads.Post κs a r x → refused-reads.Post κs a r' x' → r ≡ r'
refused κs a r r' x x' p q = one p q

pub try-from : (κs : Lfts 0) (a : _) (r r' : _) (x x' : _) → try-from-reads.Post κs a r x → try-from-reads.Post κs a r' x' → r ≡ r'
try-from κs a r r' x x' p q = one p q

pub tag : (κs : Lfts 0) (a : _) (r r' : _) (x x' : _) → tag-reads.Post κs a r x → tag-reads.Post κs a r' x' → r ≡ r'
tag κs a r r' x x' p q = one p q

pub is-tombstone : (κs : Lfts 0) (a : _) (r r' : _) (x x' : _) → is-tombstone-reads.Post κs a r x → is-tombstone-reads.Post κs a r' x' → r ≡ r'
is-tombstone κs a r r' x x' p q = one p q

pub le : (n : ℕ) (f : _) (κs : Lfts 2) (a : _) (r r' : _) (x x' : _) → le-reads.Post n f κs a r x → le-reads.Post n f κs a r' x' → r ≡ r'
le n f κs a r r' x x' p q = one p.0 q.0

pub put-le : (κs : Lfts 1) (a : _) (r r' : _) (x x' : _) → put-le-reads.Post κs a r x → put-le-reads.Post κs a r' x' → x.0.now ≡ x'.0.now
put-le κs a r r' x x' p q = one p q

pub words-in : (κs : Lfts 1) (a : _) (r r' : _) (x x' : _) → words-in-reads.Post κs a r x → words-in-reads.Post κs a r' x' → r ≡ r'
words-in κs a r r' x x' p q = one p q

pub word-at : (κs : Lfts 1) (a : _) (r r' : _) (x x' : _) → word-at-reads.Post κs a r x → word-at-reads.Post κs a r' x' → r ≡ r'
word-at κs a r r' x x' p q = one p.0 q.0

pub put_word : (κs : Lfts 1) (a : _) (r r' : _) (x x' : _) → put-word-reads.Post κs a r x → put-word-reads.Post κs a r' x' → x.0.now ≡ x'.0.now
put_word κs a r r' x x' p q = one p q

pub compare-keys : (κs : Lfts 2) (a : _) (r r' : _) (x x' : _) → compare-keys-reads.Post κs a r x → compare-keys-reads.Post κs a r' x' → r ≡ r'
compare-keys κs a r r' x x' p q = one p q

pub compare-versions : (κs : Lfts 2) (a : _) (r r' : _) (x x' : _) → compare-versions-reads.Post κs a r x → compare-versions-reads.Post κs a r' x' → r ≡ r'
compare-versions κs a r r' x x' p q = one p q

pub is-less : (κs : Lfts 2) (a : _) (r r' : _) (x x' : _) → is-less-reads.Post κs a r x → is-less-reads.Post κs a r' x' → r ≡ r'
is-less κs a r r' x x' p q = one p q

pub same_key : (κs : Lfts 2) (a : _) (r r' : _) (x x' : _) → same-key-reads.Post κs a r x → same-key-reads.Post κs a r' x' → r ≡ r'
same_key κs a r r' x x' p q = one p q

pub no_record : (κs : Lfts 0) (a : _) (r r' : _) (x x' : _) → no-record-reads.Post κs a r x → no-record-reads.Post κs a r' x' → r ≡ r'
no_record κs a r r' x x' p q = one p q

pub read_whole : (κs : Lfts 1) (a : _) (r r' : _) (x x' : _) → read-whole-reads.Post κs a r x → read-whole-reads.Post κs a r' x' → r ≡ r'
read_whole κs a r r' x x' p q = one p q

pub read-record : (κs : Lfts 1) (a : _) (r r' : _) (x x' : _) → read-record-reads.Post κs a r x → read-record-reads.Post κs a r' x' → r ≡ r'
read-record κs a r r' x x' p q = one p q

pub key_of : (κs : Lfts 1) (a : _) (r r' : _) (x x' : _) → key-of-reads.Post κs a r x → key-of-reads.Post κs a r' x' → (r.now ≡ r'.now) × (r.ref_ptr ≡ r'.ref_ptr)
key_of κs a r r' x x' p q = (one p.0 q.0, one p.1 q.1)

pub value_of : (κs : Lfts 1) (a : _) (r r' : _) (x x' : _) → value-of-reads.Post κs a r x → value-of-reads.Post κs a r' x' → (r.now ≡ r'.now) × (r.ref_ptr ≡ r'.ref_ptr)
value_of κs a r r' x x' p q = (one p.0 q.0, one p.1 q.1)

pub seqno-by : (κs : Lfts 1) (a : _) (r r' : _) (x x' : _) → seqno-by-reads.Post κs a r x → seqno-by-reads.Post κs a r' x' → r ≡ r'
seqno-by κs a r r' x x' p q = one p q

pub kind-by : (κs : Lfts 1) (a : _) (r r' : _) (x x' : _) → kind-by-reads.Post κs a r x → kind-by-reads.Post κs a r' x' → r ≡ r'
kind-by κs a r r' x x' p q = one p q

pub next-record : (κs : Lfts 1) (a : _) (r r' : _) (x x' : _) → next-record-reads.Post κs a r x → next-record-reads.Post κs a r' x' → r ≡ r'
next-record κs a r r' x x' p q = one p q

pub count-in : (κs : Lfts 1) (a : _) (r r' : _) (x x' : _) → count-in-reads.Post κs a r x → count-in-reads.Post κs a r' x' → r ≡ r'
count-in κs a r r' x x' p q = one p.0 q.0

pub check-header : (κs : Lfts 1) (a : _) (r r' : _) (x x' : _) → check-header-reads.Post κs a r x → check-header-reads.Post κs a r' x' → r ≡ r'
check-header κs a r r' x x' p q = one p q

pub check-list : (κs : Lfts 1) (a : _) (r r' : _) (x x' : _) → check-list-reads.Post κs a r x → check-list-reads.Post κs a r' x' → r ≡ r'
check-list κs a r r' x x' p q = one p.0 q.0

pub put_count : (κs : Lfts 1) (a : _) (r r' : _) (x x' : _) → put-count-reads.Post κs a r x → put-count-reads.Post κs a r' x' → x.0.now ≡ x'.0.now
put_count κs a r r' x x' p q = one p q

pub write-header : (κs : Lfts 1) (a : _) (r r' : _) (x x' : _) → write-header-reads.Post κs a r x → write-header-reads.Post κs a r' x' → x.0.now ≡ x'.0.now
write-header κs a r r' x x' p q = one p q

pub write-record : (κs : Lfts 3) (a : _) (r r' : _) (x x' : _) → write-record-reads.Post κs a r x → write-record-reads.Post κs a r' x' → x.0.now ≡ x'.0.now
write-record κs a r r' x x' p q = one p q

pub copy-bytes : (κs : Lfts 2) (a : _) (r r' : _) (x x' : _) → copy-bytes-reads.Post κs a r x → copy-bytes-reads.Post κs a r' x' → x.1.1.1.0.now ≡ x'.1.1.1.0.now
copy-bytes κs a r r' x x' p q = one p q

pub copy-record : (κs : Lfts 2) (a : _) (r r' : _) (x x' : _) → copy-record-reads.Post κs a r x → copy-record-reads.Post κs a r' x' → x.1.1.1.0.now ≡ x'.1.1.1.0.now
copy-record κs a r r' x x' p q = one p q
