-- What real calls make of a memtable: the image stays an accepted list and the state the image's, an insert that is written adds its version, and what was inserted reads back; each call enters by its public contract.
use Rattle.std.specs.Prelude.{Result, Ok, Err, Option, Some}
use Prim.Native.Nat.{ℕ, ◌+◌, ◌≤◌}
use mathlib.Core.Path.{◌≡◌, refl, sym, ap, ap₂, ◌∙◌, subst}
use mathlib.Core.List.{List}
use mathlib.Core.Bool.{true, false}
use contract.Lifetimes.{Lfts}
use lib.ListN.{length, take, drop}
use Rattle.list.specs.Limits.{header_size}
use Rattle.list.specs.Pick.{on_result}
use Rattle.list.proofs.Tests.{never}
use Rattle.list.specs.Refusal.{number_of}
use Rattle.list.specs.ValueType.{type_of}
use Rattle.list.specs.Version.{Version, version}
use Rattle.list.specs.declared.refusal.Refused.{Refused}
use Rattle.list.specs.declared.value_type.ValueType.{ValueType}
use Rattle.list.proofs.Parts.{Side, left, right, side}
use Rattle.memtable.specs.Change as change
use Rattle.memtable.specs.Image.{Image, agrees, judged, judge}
use Rattle.memtable.specs.Insert.{created, answered, buffer_after, state_after, state_created}
use Rattle.memtable.specs.Answers.{flagged}
use Rattle.memtable.specs.Get.{got}
use Rattle.memtable.specs.Calls.{Outcome, Table, Sent, comes_to, table_after, table_new, Creation, Insertion, Made, new, insert, flag}
use Rattle.memtable.specs.declared.Memtable.{Memtable}
use Rattle.memtable.specs.declared.Found.{Found}
use Rattle.memtable.proofs.Memtable.new.Reads as new-reads
use Rattle.memtable.proofs.Memtable.create.Reads as create-reads
use Rattle.memtable.proofs.Memtable.insert.Reads as insert-reads
use Rattle.memtable.proofs.Memtable.get.Reads as get-reads
use Rattle.memtable.proofs.Memtable.flag_rotated.Reads as flag-reads
use Rattle.memtable.proofs.Trying.{created-none, created-is}
use Rattle.memtable.proofs.Kept.{Sound, Inserted, inserted-is, new-sound, next-sound, never-unfit, insert-holds}
use Rattle.memtable.proofs.ReadBack.{reads-back}

-- a table, and an insert's arguments, as a call is given them
abbrev pub table : Memtable → List ℕ → Table
table m b = record { state = m; buffer = b }

abbrev pub sent : List ℕ → ℕ → ℕ → List ℕ → Sent
sent key seqno tag value = record { key = key; seqno = seqno; tag = tag; value = value }

-- a call of each function is one of those that the theorems speak of; a creation is `new` and, on what it answered, `create`
pub creates : (κs : Lfts 0) (a : _) (r : _) (x : _) → new-reads.Post κs a r x
    → (κs' : Lfts 2) (a' : _) (r' : _) (x' : _) → create-reads.Post κs' a' r' x' → a'.0.now ≡ r
    → Creation a.0 a'.1.0.now r' (table x'.0.now x'.1.0.now)
unfolding table_new
creates κs a r x p κs' a' r' x' q e = record {
  answers = q.0;
  gives = ap₂ table (q.1.0 ∙ ap (λ (m : Memtable). state_created m (created a'.1.0.now)) (e ∙ p) ∙ created-is a.0 (created a'.1.0.now)) q.1.1.0;
  bytes = q.1.1.1;
}

pub inserts : (κs : Lfts 4) (a : _) (r : _) (x : _) → insert-reads.Post κs a r x
    → Insertion (table a.0.now a.1.0.now) (sent a.1.1.0.now a.1.1.1.0 a.1.1.1.1.0 a.1.1.1.1.1.0.now) r (table x.0.now x.1.0.now)
unfolding table_after comes_to
inserts κs a r x p = record {
  answers = p.0;
  gives = ap₂ table p.1.0 p.1.1.0;
  bytes = p.1.1.1.0;
  key-bytes = p.1.1.1.1.0;
  value-bytes = p.1.1.1.1.1.0;
  seqno-fits = p.1.1.1.1.1.1;
}

pub flags : (κs : Lfts 1) (a : _) (r : _) (x : _) → flag-reads.Post κs a r x → (b : List ℕ) → Made (table a.0.now b) → Made (table x.0.now b)
flags κs a r x p b m = flag m (ap (λ (s : Memtable). table s b) p)

pub gets : (κs : Lfts 2) (a : _) (r : _) (x : _) → get-reads.Post κs a r x → r ≡ got a.1.1.0.now a.1.1.1.0 (judge a.0 a.1.0.now)
gets κs a r x p = p

-- what is done is not refused
done-refused : {A : Type 0} (f : Refused) → ◌≡◌ {A = Outcome} (Ok tt) (Err f) → A
unfolding on_result
done-refused f e = never (ap (λ (o : Outcome). on_result o (λ _. true) (λ _. false)) e)

created-room : (id : ℕ) (b : List ℕ) → Ok tt ≡ answered (created b) → header_size ≤ length b
unfolding answered on_result
created-room id b e = go (side (length b) header_size)
  where
    go : Side (length b) header_size → header_size ≤ length b
    go (left h) = done-refused _ (e ∙ sym (ap answered (created-none b h)))
    go (right h) = h

-- the flag takes no part in judging
flag-unjudged : (m : Memtable) (b : List ℕ) → judge (flagged m) b ≡ judge m b
unfolding judge judged agrees flagged
flag-unjudged m b = refl

sound : (t : Table) → Made t → Sound t
sound t (new {id = id} {b = b} c) = subst Sound (sym c.gives) (new-sound id b c.bytes (created-room id b c.answers))
sound t (insert {t = s} {c = c} m i) = subst Sound (sym i.gives) (next-sound s c (sound s m) i.key-bytes i.value-bytes i.seqno-fits)
sound t (flag {t = s} m e) = let w = sound s m in subst Sound (sym e) (record { bytes = w.bytes; vs = w.vs; held = flag-unjudged s.state s.buffer ∙ w.held })

-- A table that calls made holds versions: its image is an accepted list, and its state is the image's.
pub made-judged : (t : Table) → Made t → (vs : List Version) × (judge t.state t.buffer ≡ Ok vs)
made-judged t m = let s = sound t m in (s.vs, s.held)

-- So no insert into it is refused with 11.
pub made-never-unfit : (t u : Table) (c : Sent) (f : Refused) → Made t → Insertion t c (Err f) u → number_of f.refusal ≡ 11 → ⊥
made-never-unfit t u c f m i = never-unfit t c (sound t m) f (sym i.answers)

-- an insert that was not refused
module _ (t u : Table) (c : Sent) (i : Insertion t c (Ok tt) u) where
  record Written : Type 0 where
    held : List Version
    comes : comes_to t c ≡ Ok held
    state : u.state ≡ state_after t.state c.seqno (Ok held)
    buffer : u.buffer ≡ buffer_after t.state.used t.buffer (Ok held)

  written : Written
  unfolding table_after answered on_result
  written = go (comes_to t c) refl
    where
      go : (o : Image) → comes_to t c ≡ o → Written
      go (Ok ws) e = record {
        held = ws;
        comes = e;
        state = ap (λ (x : Table). x.state) i.gives ∙ ap (state_after t.state c.seqno) e;
        buffer = ap (λ (x : Table). x.buffer) i.gives ∙ ap (buffer_after t.state.used t.buffer) e;
      }
      go (Err f) e = done-refused f (i.answers ∙ ap answered e)

  passed : Inserted t.state t.buffer c.key c.seqno c.tag c.value written.held
  unfolding comes_to
  passed = inserted-is t.state t.buffer c.key c.seqno c.tag c.value written.held written.comes

  judged-after : judge u.state u.buffer ≡ judge (state_after t.state c.seqno (Ok written.held)) (buffer_after t.state.used t.buffer (Ok written.held))
  judged-after = ap₂ judge written.state written.buffer

  -- An insert that is written adds its version to those that the image held.
  pub insert-adds : (kind : ValueType) × (vs : List Version) × (type_of c.tag ≡ Ok kind) × (judge t.state t.buffer ≡ Ok vs)
      × (judge u.state u.buffer ≡ Ok (change.insert (version c.key c.seqno kind c.value) vs))
  unfolding comes_to
  insert-adds =
      let w = passed in
      let h = insert-holds t.state t.buffer c.key c.seqno c.tag c.value written.held i.bytes i.key-bytes i.value-bytes i.seqno-fits written.comes in
      (w.kind, w.vs, w.tagged, w.held, judged-after ∙ h ∙ ap Ok w.is)

  -- And just above its seqno a read of its key finds it, with the value's bytes at the place that the answer names.
  pub insert-reads-back : (g : Result (Option Found) Refused) → g ≡ got c.key (c.seqno + 1) (judge u.state u.buffer)
      → (number : ℕ) × (kind : ValueType) × (start : ℕ) × (type_of c.tag ≡ Ok kind) × (g ≡ Ok (Some (record { at = number; seqno = c.seqno; kind = kind; start = start; len = length c.value })))
      × (take (length c.value) (drop start (take u.state.used u.buffer)) ≡ c.value)
  unfolding comes_to passed
  insert-reads-back g e =
      let w = passed in
      let r = reads-back t.state t.buffer c.key c.seqno c.tag c.value written.held i.bytes i.key-bytes i.value-bytes i.seqno-fits written.comes in (
        r.number,
        w.kind,
        r.start,
        w.tagged,
        e ∙ ap (got c.key (c.seqno + 1)) judged-after ∙ r.answer,
        ap₂ (λ (n : ℕ) (b : List ℕ). take (length c.value) (drop r.start (take n b))) (ap (λ (m : Memtable). m.used) written.state) written.buffer ∙ r.bytes,
      )
