-- Each contract leaves one reply and one content of what is lent, because it is an equation for both.
use mathlib.Core.Path.{◌≡◌, sym, ◌∙◌}
use contract.Lifetimes.{Lfts}
use Rattle.merge.specs.Private.{reply_of, head_of, leader_of, has_twin}
use Rattle.merge.proofs.head.next_head.Reads as next-head-reads
use Rattle.merge.proofs.head.RefusedFromTorn.from.Reads as from-reads
use Rattle.merge.proofs.seen.Seen.key.Reads as key-reads
use Rattle.merge.proofs.seen.Seen.seqno.Reads as seqno-reads
use Rattle.merge.proofs.seen.Seen.kind.Reads as kind-reads
use Rattle.merge.proofs.plain.peek.Reads as peek-reads
use Rattle.merge.proofs.ends.Ends.left.Reads as left-reads
use Rattle.merge.proofs.ends.Ends.pop.Reads as pop-reads

pub next-head : (κs : Lfts 1) (a : _) (r r' : _) (x x' : _) → next-head-reads.Post κs a r x → next-head-reads.Post κs a r' x' → reply_of head_of r ≡ reply_of head_of r'
next-head κs a r r' x x' p q = p ∙ sym q

pub from-torn : (κs : Lfts 0) (a : _) (r r' : _) (x x' : _) → from-reads.Post κs a r x → from-reads.Post κs a r' x' → r ≡ r'
from-torn κs a r r' x x' p q = p ∙ sym q

pub key : (κs : Lfts 2) (a : _) (r r' : _) (x x' : _) → key-reads.Post κs a r x → key-reads.Post κs a r' x' → r.now ≡ r'.now
key κs a r r' x x' p q = p ∙ sym q

pub seqno : (κs : Lfts 2) (a : _) (r r' : _) (x x' : _) → seqno-reads.Post κs a r x → seqno-reads.Post κs a r' x' → r ≡ r'
seqno κs a r r' x x' p q = p ∙ sym q

pub kind : (κs : Lfts 2) (a : _) (r r' : _) (x x' : _) → kind-reads.Post κs a r x → kind-reads.Post κs a r' x' → r ≡ r'
kind κs a r r' x x' p q = p ∙ sym q

pub peek : (κs : Lfts 3) (a : _) (r r' : _) (x x' : _) → peek-reads.Post κs a r x → peek-reads.Post κs a r' x'
    → (reply_of leader_of r ≡ reply_of leader_of r') × (has_twin r ≡ has_twin r')
peek κs a r r' x x' p q = (p.0 ∙ sym q.0, p.1 ∙ sym q.1)

pub left : (κs : Lfts 1) (a : _) (r r' : _) (x x' : _) → left-reads.Post κs a r x → left-reads.Post κs a r' x' → r ≡ r'
left κs a r r' x x' p q = p ∙ sym q

pub pop : (κs : Lfts 1) (a : _) (r r' : _) (x x' : _) → pop-reads.Post κs a r x → pop-reads.Post κs a r' x' → x.0.now ≡ x'.0.now
pop κs a r r' x x' p q = p ∙ sym q
