-- Each call has one possible answer and leaves one possible state and buffer, because its contract gives them by equations.
use mathlib.Core.Path.{◌≡◌, sym, ◌∙◌}
use contract.Lifetimes.{Lfts}
use Rattle.memtable.proofs.Memtable.new.Reads as new-reads
use Rattle.memtable.proofs.Memtable.create.Reads as create-reads
use Rattle.memtable.proofs.Memtable.insert.Reads as insert-reads
use Rattle.memtable.proofs.Memtable.get.Reads as get-reads
use Rattle.memtable.proofs.Memtable.size.Reads as size-reads
use Rattle.memtable.proofs.Memtable.len.Reads as len-reads
use Rattle.memtable.proofs.Memtable.is_empty.Reads as is-empty-reads
use Rattle.memtable.proofs.Memtable.get_highest_seqno.Reads as highest-reads
use Rattle.memtable.proofs.Memtable.flag_rotated.Reads as flag-reads
use Rattle.memtable.proofs.Memtable.is_flagged_for_rotation.Reads as flagged-reads
use Rattle.memtable.proofs.Memtable.id.Reads as id-reads

pub new : (κs : Lfts 0) (a : _) (r r' : _) (x x' : _) → new-reads.Post κs a r x → new-reads.Post κs a r' x' → r ≡ r'
new κs a r r' x x' p q = p ∙ sym q

pub create : (κs : Lfts 2) (a : _) (r r' : _) (x x' : _) → create-reads.Post κs a r x → create-reads.Post κs a r' x' → (r ≡ r') × (x.0.now ≡ x'.0.now) × (x.1.0.now ≡ x'.1.0.now)
create κs a r r' x x' p q = (p.0 ∙ sym q.0, p.1.0 ∙ sym q.1.0, p.1.1.0 ∙ sym q.1.1.0)

pub insert : (κs : Lfts 4) (a : _) (r r' : _) (x x' : _) → insert-reads.Post κs a r x → insert-reads.Post κs a r' x' → (r ≡ r') × (x.0.now ≡ x'.0.now) × (x.1.0.now ≡ x'.1.0.now)
insert κs a r r' x x' p q = (p.0 ∙ sym q.0, p.1.0 ∙ sym q.1.0, p.1.1.0 ∙ sym q.1.1.0)

pub get : (κs : Lfts 2) (a : _) (r r' : _) (x x' : _) → get-reads.Post κs a r x → get-reads.Post κs a r' x' → r ≡ r'
get κs a r r' x x' p q = p ∙ sym q

pub size : (κs : Lfts 1) (a : _) (r r' : _) (x x' : _) → size-reads.Post κs a r x → size-reads.Post κs a r' x' → r ≡ r'
size κs a r r' x x' p q = p ∙ sym q

pub len : (κs : Lfts 1) (a : _) (r r' : _) (x x' : _) → len-reads.Post κs a r x → len-reads.Post κs a r' x' → r ≡ r'
len κs a r r' x x' p q = p ∙ sym q

pub is-empty : (κs : Lfts 1) (a : _) (r r' : _) (x x' : _) → is-empty-reads.Post κs a r x → is-empty-reads.Post κs a r' x' → r ≡ r'
is-empty κs a r r' x x' p q = p ∙ sym q

pub get-highest-seqno : (κs : Lfts 1) (a : _) (r r' : _) (x x' : _) → highest-reads.Post κs a r x → highest-reads.Post κs a r' x' → r ≡ r'
get-highest-seqno κs a r r' x x' p q = p ∙ sym q

pub flag-rotated : (κs : Lfts 1) (a : _) (r r' : _) (x x' : _) → flag-reads.Post κs a r x → flag-reads.Post κs a r' x' → x.0.now ≡ x'.0.now
flag-rotated κs a r r' x x' p q = p ∙ sym q

pub is-flagged-for-rotation : (κs : Lfts 0) (a : _) (r r' : _) (x x' : _) → flagged-reads.Post κs a r x → flagged-reads.Post κs a r' x' → r ≡ r'
is-flagged-for-rotation κs a r r' x x' p q = p ∙ sym q

pub id : (κs : Lfts 0) (a : _) (r r' : _) (x x' : _) → id-reads.Post κs a r x → id-reads.Post κs a r' x' → r ≡ r'
id κs a r r' x x' p q = p ∙ sym q
