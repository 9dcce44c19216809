-- All is measured before the record is spliced in, so a refusal leaves everything as given.
-- The one lemma `ready` answers more than one goal, since each has a bound of its own.
use mathlib.Core.Path.{refl, sym, ap, ◌∙◌}
use native.Mathlib.Omega.{arith}
use lib.ListN.{length, take}
use lib.Seq.{length-take-le}
use Rattle.list.specs.Limits.{record_size, list_limit, key_limit}
use Rattle.list.specs.Version.{version, versions_of}
use Rattle.list.proofs.Lent.{bytes-lent}
use Rattle.memtable.specs.Change.{insert}
use Rattle.memtable.specs.Insert.{buffer_after}
use Rattle.memtable.specs.Private.{gap_of}
use Rattle.memtable.proofs.Trying.{w-large, w-full, w-holds, refuses, used-fits, gap-lies, ready, done, state-done}
use borrow.Author.Rules.{rules}
use Rattle.memtable.proofs.Memtable.put.Goals as goal

pub returns-then-version-gt-LIST_LIMIT : goal.returns-then-version-gt-LIST_LIMIT
unfolding list_limit key_limit
returns-then-version-gt-LIST_LIMIT c =
    let a = c.args in
    let r = ready _ _ _ _ _ (bytes-lent a.buffer.now (search rules)) c.requires.surveyed a.version.kind a.version.value.now (gap_of (take a.self.now.used a.buffer.now) a.version.key.now a.version.seqno a.survey.place.start a.survey.place.here) refl in
    let p = refuses a.self.now a.version.seqno a.self.now.used a.buffer.now _ _ (w-large (length a.buffer.now) _ (omega arith)) in
    record { answer = rw c.into.ensures p.answer; state_after = p.state; buffer_after = p.buffer }

pub slice_bounds-gives_way-end : goal.slice_bounds-gives_way-end
slice_bounds-gives_way-end c = used-fits _ _ _ _ _ (bytes-lent c.args.buffer.now (search rules)) c.requires.surveyed

pub slice_bounds-gives_way-end-2 : goal.slice_bounds-gives_way-end-2
slice_bounds-gives_way-end-2 c = sym (length-take-le _ c.args.buffer.now (used-fits _ _ _ _ _ (bytes-lent c.args.buffer.now (search rules)) c.requires.surveyed))

pub gives_way-gap-requires : goal.gives_way-gap-requires
gives_way-gap-requires c = gap-lies _ _ _ _ _ (bytes-lent c.args.buffer.now (search rules)) c.requires.surveyed

pub overflow_add-end : goal.overflow_add-end
unfolding list_limit key_limit
overflow_add-end c =
    let a = c.args in
    let r = ready _ _ _ _ _ (bytes-lent a.buffer.now (search rules)) c.requires.surveyed a.version.kind a.version.value.now _ c.gives_way-gap.ensures in
    omega arith

pub overflow_add-end-2 : goal.overflow_add-end-2
unfolding list_limit key_limit
overflow_add-end-2 c =
    let a = c.args in
    let r = ready _ _ _ _ _ (bytes-lent a.buffer.now (search rules)) c.requires.surveyed a.version.kind a.version.value.now _ c.gives_way-gap.ensures in
    omega arith

pub overflow_add-end-3 : goal.overflow_add-end-3
unfolding list_limit key_limit
overflow_add-end-3 c =
    let a = c.args in
    let r = ready _ _ _ _ _ (bytes-lent a.buffer.now (search rules)) c.requires.surveyed a.version.kind a.version.value.now _ c.gives_way-gap.ensures in
    omega arith

pub overflow_sub-tail : goal.overflow_sub-tail
unfolding list_limit key_limit
overflow_sub-tail c =
    let a = c.args in
    let r = ready _ _ _ _ _ (bytes-lent a.buffer.now (search rules)) c.requires.surveyed a.version.kind a.version.value.now _ c.gives_way-gap.ensures in
    omega arith

pub overflow_add-end-4 : goal.overflow_add-end-4
unfolding list_limit key_limit
overflow_add-end-4 c =
    let a = c.args in
    let r = ready _ _ _ _ _ (bytes-lent a.buffer.now (search rules)) c.requires.surveyed a.version.kind a.version.value.now _ c.gives_way-gap.ensures in
    omega arith

pub returns-then-end-gt-LIST_LIMIT : goal.returns-then-end-gt-LIST_LIMIT
unfolding record_size list_limit key_limit
returns-then-end-gt-LIST_LIMIT c =
    let a = c.args in
    let r = ready _ _ _ _ _ (bytes-lent a.buffer.now (search rules)) c.requires.surveyed a.version.kind a.version.value.now _ c.gives_way-gap.ensures in
    let p = refuses a.self.now a.version.seqno a.self.now.used a.buffer.now _ _ (w-large (length a.buffer.now) _ (omega arith)) in
    record { answer = rw c.into-then-end-gt-LIST_LIMIT.ensures p.answer; state_after = p.state; buffer_after = p.buffer }

pub returns-then-buffer-end : goal.returns-then-buffer-end
unfolding record_size list_limit key_limit
returns-then-buffer-end c =
    let a = c.args in
    let r = ready _ _ _ _ _ (bytes-lent a.buffer.now (search rules)) c.requires.surveyed a.version.kind a.version.value.now _ c.gives_way-gap.ensures in
    let p = refuses a.self.now a.version.seqno a.self.now.used a.buffer.now _ _ (w-full (length a.buffer.now) _ (omega arith) (omega arith)) in
    record { answer = rw c.into-then-buffer-end.ensures p.answer; state_after = p.state; buffer_after = p.buffer }

pub overflow_add-count : goal.overflow_add-count
unfolding list_limit key_limit
overflow_add-count c =
    let a = c.args in
    let r = ready _ _ _ _ _ (bytes-lent a.buffer.now (search rules)) c.requires.surveyed a.version.kind a.version.value.now _ c.gives_way-gap.ensures in
    omega arith

pub overflow_sub-count : goal.overflow_sub-count
unfolding list_limit key_limit
overflow_sub-count c =
    let a = c.args in
    let r = ready _ _ _ _ _ (bytes-lent a.buffer.now (search rules)) c.requires.surveyed a.version.kind a.version.value.now _ c.gives_way-gap.ensures in
    omega arith

pub splice-requires : goal.splice-requires
unfolding record_size list_limit key_limit
splice-requires c =
    let a = c.args in
    let r = ready _ _ _ _ _ (bytes-lent a.buffer.now (search rules)) c.requires.surveyed a.version.kind a.version.value.now _ c.gives_way-gap.ensures in
    record { in_order = (omega arith, omega arith, omega arith, omega arith); in_room = omega arith }

pub overflow_add-self : goal.overflow_add-self
unfolding list_limit key_limit
overflow_add-self c =
    let a = c.args in
    let r = ready _ _ _ _ _ (bytes-lent a.buffer.now (search rules)) c.requires.surveyed a.version.kind a.version.value.now _ c.gives_way-gap.ensures in
    omega arith

pub overflow_add-self-2 : goal.overflow_add-self-2
unfolding list_limit key_limit
overflow_add-self-2 c =
    let a = c.args in
    let r = ready _ _ _ _ _ (bytes-lent a.buffer.now (search rules)) c.requires.surveyed a.version.kind a.version.value.now _ c.gives_way-gap.ensures in
    omega arith

pub overflow_sub-self : goal.overflow_sub-self
unfolding list_limit key_limit
overflow_sub-self c =
    let a = c.args in
    let r = ready _ _ _ _ _ (bytes-lent a.buffer.now (search rules)) c.requires.surveyed a.version.kind a.version.value.now _ c.gives_way-gap.ensures in
    omega arith

pub returns : goal.returns
unfolding record_size list_limit key_limit
returns c =
    let a = c.args in
    let r = ready _ _ _ _ _ (bytes-lent a.buffer.now (search rules)) c.requires.surveyed a.version.kind a.version.value.now _ c.gives_way-gap.ensures in
    let w = w-holds (length a.buffer.now) (insert (version a.version.key.now a.version.seqno a.version.kind a.version.value.now) (versions_of (take a.self.now.used a.buffer.now))) (omega arith) (omega arith) in
    record {
      answer = done _ _ w;
      state_after = state-done _ _ _ _ _ _ _ w (sym r.end) (omega arith) c.max-self.ensures;
      buffer_after = c.splice.ensures ∙ r.buffer (omega arith) _ (omega arith) ∙ ap (buffer_after a.self.now.used a.buffer.now) w;
    }
