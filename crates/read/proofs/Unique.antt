-- Each contract leaves one result, and one content of everything lent, because it is an equation: also of a cursor, whose positions never differ, and of a part, whose place never does.
use mathlib.Core.Path.{◌≡◌, sym, ◌∙◌}
use Rattle.read.proofs.range.prefix_to_range.Reads as prefix-reads
use Rattle.read.proofs.begin.start.Reads as start-reads
use Rattle.read.proofs.cursor.Cursor.front.Reads as front_reads
use Rattle.read.proofs.cursor.Cursor.back.Reads as back-reads
use Rattle.read.proofs.place.place_of.Reads as place-reads
use Rattle.read.proofs.place.is_fit.Reads as fit-reads
use Rattle.read.proofs.place.value.Reads as value-reads
use Rattle.read.proofs.place.key.Reads as key_reads

pub prefix-to-range : (κs : _) (a : _) (r r' : _) (x x' : _) → prefix-reads.Post κs a r x → prefix-reads.Post κs a r' x' → (r ≡ r') × (x.1.0.now ≡ x'.1.0.now)
prefix-to-range κs a r r' x x' p q = (p.0 ∙ sym q.0, p.1 ∙ sym q.1)

pub start : (κs : _) (a : _) (r r' : _) (x x' : _) → start-reads.Post κs a r x → start-reads.Post κs a r' x' → r ≡ r'
start κs a r r' x x' p q = p ∙ sym q

pub front : (κs : _) (a : _) (r r' : _) (x x' : _) → front_reads.Post κs a r x → front_reads.Post κs a r' x' → (r ≡ r') × (x.0.now ≡ x'.0.now)
front κs a r r' x x' p q = (p.0 ∙ sym q.0, p.1 ∙ sym q.1)

pub back : (κs : _) (a : _) (r r' : _) (x x' : _) → back-reads.Post κs a r x → back-reads.Post κs a r' x' → (r ≡ r') × (x.0.now ≡ x'.0.now)
back κs a r r' x x' p q = (p.0 ∙ sym q.0, p.1 ∙ sym q.1)

pub place_of : (κs : _) (a : _) (r r' : _) (x x' : _) → place-reads.Post κs a r x → place-reads.Post κs a r' x' → r ≡ r'
place_of κs a r r' x x' p q = p ∙ sym q

pub is-fit : (κs : _) (a : _) (r r' : _) (x x' : _) → fit-reads.Post κs a r x → fit-reads.Post κs a r' x' → r ≡ r'
is-fit κs a r r' x x' p q = p ∙ sym q

pub value : (κs : _) (a : _) (r r' : _) (x x' : _) → value-reads.Post κs a r x → value-reads.Post κs a r' x' → (r.now ≡ r'.now) × (r.ref_ptr ≡ r'.ref_ptr)
value κs a r r' x x' p q = (p.0 ∙ sym q.0, p.1 ∙ sym q.1)

pub key : (κs : _) (a : _) (r r' : _) (x x' : _) → key_reads.Post κs a r x → key_reads.Post κs a r' x' → (r.now ≡ r'.now) × (r.ref_ptr ≡ r'.ref_ptr)
key κs a r r' x x' p q = (p.0 ∙ sym q.0, p.1 ∙ sym q.1)
