-- Creation and insert: what they answer, and the whole buffer and state afterwards.
use Rattle.std.specs.Prelude.{ℕ, ◌-◌, max, List, [], ◌++◌, false, ltb, eqb, length, drop, replicate, Result, Ok, Err}
use Rattle.list.specs.Pick.{pick, on_result}
use Rattle.list.specs.Limits.{list_limit, key_limit}
use Rattle.list.specs.Refusal.{refuse}
use Rattle.list.specs.ValueType.{type_of}
use Rattle.list.specs.Version.{Version, version, encode}
use Rattle.list.specs.declared.refusal.Refusal.TheVariants.{EmptyKey, LongKey, TooLarge, NoRoom}
use Rattle.list.specs.declared.refusal.Refused.{Refused}
use Rattle.memtable.specs.Change.{insert}
use Rattle.memtable.specs.Figures.{size_of}
use Rattle.memtable.specs.Image.{Image, judge}
use Rattle.memtable.specs.declared.Memtable.{Memtable}

-- An image that is to be in a buffer of so many bytes: 9 over the limit, 10 over the buffer.
unfoldable pub in_room : ℕ → List Version → Image
in_room room vs =
    pick (ltb list_limit (length (encode vs))) (refuse TooLarge 0 0)
    (pick (ltb room (length (encode vs))) (refuse NoRoom 0 0) (Ok vs))

-- An insert's arguments, where the image holds vs: key (5 or 4), tag, then the image as it would be.
unfoldable pub tried : ℕ → List ℕ → ℕ → ℕ → List ℕ → List Version → Image
tried room key seqno tag value vs =
    pick (ltb key_limit (length key)) (refuse LongKey 0 0)
    (pick (eqb (length key) 0) (refuse EmptyKey 0 0)
    (on_result (type_of tag) (λ kind. in_room room (insert (version key seqno kind value) vs)) (λ why. refuse why 0 0)))

-- What an insert comes to: the image first, then the arguments.
unfoldable pub inserted : Memtable → List ℕ → List ℕ → ℕ → ℕ → List ℕ → Image
inserted m b key seqno tag value = on_result (judge m b) (tried (length b) key seqno tag value) Err

-- Creation writes the empty list: 10 below 9 bytes.
unfoldable pub created : List ℕ → Image
created b = in_room (length b) []

-- What is answered: that it is done, or the refusal.
unfoldable pub answered : Image → Result (Unit {0}) Refused
answered i = on_result i (λ _. Ok tt) Err

-- The buffer afterwards, used being the old end: the new image, zeros from the new end to the old one, and bytes past both stay. A refusal changes nothing.
unfoldable pub buffer_after : ℕ → List ℕ → Image → List ℕ
buffer_after used b (Ok vs) = encode vs ++ replicate (used - length (encode vs)) 0 ++ drop (max used (length (encode vs))) b
buffer_after used b (Err f) = b

-- The state afterwards: highest seqno is the larger of the old figure and the new, flag and id pass through. A refusal changes nothing.
unfoldable pub state_after : Memtable → ℕ → Image → Memtable
state_after m seqno (Ok vs) = record { used = length (encode vs); size = size_of vs; highest = max m.highest seqno; flagged = m.flagged; id = m.id }
state_after m seqno (Err f) = m

-- The state that a creation begins with: the id, flag off, all else 0.
unfoldable pub blank : ℕ → Memtable
blank id = record { used = 0; size = 0; highest = 0; flagged = false; id = id }

-- The state after a creation: of the table before only the id is left. A refusal changes nothing.
unfoldable pub state_created : Memtable → Image → Memtable
state_created m (Ok vs) = state_after (blank m.id) 0 (Ok vs)
state_created m (Err f) = m
