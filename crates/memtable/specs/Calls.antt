-- A memtable with its buffer, and calls on it, one after the other, as the theorems speak of them. Each record of a call says what its contract promises, and nothing more.
use Rattle.std.specs.Prelude.{ℕ, ◌<◌, ◌≡◌, List, Result, Ok}
use Rattle.list.specs.Version.{Bytes}
use Rattle.list.specs.declared.refusal.Refused.{Refused}
use Rattle.memtable.specs.Image.{Image}
use Rattle.memtable.specs.Insert.{inserted, created, answered, buffer_after, state_after, blank}
use Rattle.memtable.specs.Answers.{flagged}
use Rattle.memtable.specs.declared.Memtable.{Memtable}

-- How a creation or an insert came out.
abbrev pub Outcome : Type 0
Outcome = Result (Unit {0}) Refused

-- A state and the buffer that it belongs to.
pub record Table : Type 0 where
  pub state : Memtable
  pub buffer : List ℕ

-- An insert's arguments.
pub record Sent : Type 0 where
  pub key : List ℕ
  pub seqno : ℕ
  pub tag : ℕ
  pub value : List ℕ

-- What an insert of c into the table t comes to, and the table afterwards.
unfoldable pub comes_to : Table → Sent → Image
comes_to t c = inserted t.state t.buffer c.key c.seqno c.tag c.value

unfoldable pub table_after : Table → Sent → Table
table_after t c = record { state = state_after t.state c.seqno (comes_to t c); buffer = buffer_after t.state.used t.buffer (comes_to t c) }

-- A table just created in the buffer b.
unfoldable pub table_new : ℕ → List ℕ → Table
table_new id b = record { state = state_after (blank id) 0 (created b); buffer = buffer_after 0 b (created b) }

-- A creation in the buffer b, which answered o and gave the table t; bytes were lent.
pub record Creation (id : ℕ) (b : List ℕ) (o : Outcome) (t : Table) : Type 0 where
  pub answers : o ≡ answered (created b)
  pub gives : t ≡ table_new id b
  pub bytes : Bytes b

-- An insert of c into the table t, which answered o and gave the table u; bytes were lent, and a seqno of 64 bits.
pub record Insertion (t : Table) (c : Sent) (o : Outcome) (u : Table) : Type 0 where
  pub answers : o ≡ answered (comes_to t c)
  pub gives : u ≡ table_after t c
  pub bytes : Bytes t.buffer
  pub key-bytes : Bytes c.key
  pub value-bytes : Bytes c.value
  pub seqno-fits : c.seqno < 18446744073709551616

-- A table as calls make it: a creation that was not refused; then inserts, refused ones too, and flaggings, each on the table that the call before gave.
pub data Made : Table → Type 0 where
  new : {id : ℕ} {b : List ℕ} {t : Table} → Creation id b (Ok tt) t → Made t
  insert : {t u : Table} {c : Sent} {o : Outcome} → Made t → Insertion t c o u → Made u
  flag : {t u : Table} → Made t → u ≡ record { state = flagged t.state; buffer = t.buffer } → Made u
