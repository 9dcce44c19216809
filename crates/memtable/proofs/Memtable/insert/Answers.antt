-- The image is judged first, then key and tag, and the rest is the write's.
use mathlib.Core.Path.{sym, ap, ◌∙◌}
use native.Mathlib.Omega.{arith}
use borrow.Author.Rules.{rules}
use borrow.Author.Tests.{eqb-true, eqb-false}
use Rattle.list.specs.Limits.{key_limit}
use Rattle.list.proofs.Lent.{bytes-lent}
use Rattle.memtable.specs.Insert.{answered, buffer_after, state_after}
use Rattle.memtable.proofs.Answering.{exits}
use Rattle.memtable.proofs.Judging.{is-refused, is_held}
use Rattle.memtable.proofs.Trying.{refuses, i-refused, i-long, i-empty, i-tag, puts}
use Rattle.memtable.proofs.Memtable.insert.Goals as goal

pub returns-in_err-survey : goal.returns-in_err-survey
returns-in_err-survey c =
    let a = c.args in
    let p = refuses a.self.now a.seqno a.self.now.used a.buffer.now _ _ (i-refused _ _ _ _ a.tag a.value.now _ (is-refused _ _ _ _ _ (bytes-lent a.buffer.now (search rules)) c.examine.ensures _ c.in_err-survey.was)) in
    record {
      answer = exits _ _ c.from_residual.ensures.1 ∙ p.answer;
      state_after = p.state;
      buffer_after = p.buffer;
      buffer_bytes = bytes-lent a.buffer.now (search rules);
      key_bytes = bytes-lent _ c.type_inv.key;
      value_bytes = bytes-lent _ c.type_inv.value;
      seqno_fits = omega (arith, c.ranges.seqno);
    }

pub returns-then-key-gt-KEY_LIMIT : goal.returns-then-key-gt-KEY_LIMIT
unfolding key_limit
returns-then-key-gt-KEY_LIMIT c =
    let a = c.args in
    let h = is_held _ _ _ _ _ (bytes-lent a.buffer.now (search rules)) c.examine.ensures _ c.in_ok-survey.was in
    let p = refuses a.self.now a.seqno a.self.now.used a.buffer.now _ _ (i-long _ _ _ a.seqno a.tag a.value.now _ h.held c.if-key-gt-KEY_LIMIT.true) in
    record {
      answer = rw c.into.ensures p.answer;
      state_after = p.state;
      buffer_after = p.buffer;
      buffer_bytes = bytes-lent a.buffer.now (search rules);
      key_bytes = bytes-lent _ c.type_inv.key;
      value_bytes = bytes-lent _ c.type_inv.value;
      seqno_fits = omega (arith, c.ranges.seqno);
    }

pub returns-then-is_empty : goal.returns-then-is_empty
unfolding key_limit
returns-then-is_empty c =
    let a = c.args in
    let h = is_held _ _ _ _ _ (bytes-lent a.buffer.now (search rules)) c.examine.ensures _ c.in_ok-survey.was in
    let p = refuses a.self.now a.seqno a.self.now.used a.buffer.now _ _ (i-empty _ _ _ a.seqno a.tag a.value.now _ h.held c.if-key-gt-KEY_LIMIT.false (eqb-true _ _ (sym c.is_empty.ensures ∙ c.if-is_empty.true))) in
    record {
      answer = rw c.into-then-is_empty.ensures p.answer;
      state_after = p.state;
      buffer_after = p.buffer;
      buffer_bytes = bytes-lent a.buffer.now (search rules);
      key_bytes = bytes-lent _ c.type_inv.key;
      value_bytes = bytes-lent _ c.type_inv.value;
      seqno_fits = omega (arith, c.ranges.seqno);
    }

pub returns-in_err-kind : goal.returns-in_err-kind
unfolding key_limit
returns-in_err-kind c =
    let a = c.args in
    let h = is_held _ _ _ _ _ (bytes-lent a.buffer.now (search rules)) c.examine.ensures _ c.in_ok-survey.was in
    let p = refuses a.self.now a.seqno a.self.now.used a.buffer.now _ _ (i-tag _ _ _ a.seqno _ a.value.now _ h.held c.if-key-gt-KEY_LIMIT.false (eqb-false _ _ (sym c.is_empty.ensures ∙ c.if-is_empty.false)) _ c.try_from.ensures _ c.in_err-kind.was) in
    record {
      answer = exits _ _ c.from_residual-in_err-kind.ensures.1 ∙ p.answer;
      state_after = p.state;
      buffer_after = p.buffer;
      buffer_bytes = bytes-lent a.buffer.now (search rules);
      key_bytes = bytes-lent _ c.type_inv.key;
      value_bytes = bytes-lent _ c.type_inv.value;
      seqno_fits = omega (arith, c.ranges.seqno);
    }

pub put-requires : goal.put-requires
unfolding key_limit
put-requires c = record { surveyed = sym c.examine.ensures ∙ c.in_ok-survey.was; key_in_limit = c.if-key-gt-KEY_LIMIT.false }

pub returns : goal.returns
unfolding key_limit
returns c =
    let a = c.args in
    let h = is_held _ _ _ _ _ (bytes-lent a.buffer.now (search rules)) c.examine.ensures _ c.in_ok-survey.was in
    let e = puts _ _ _ _ a.tag _ _ _ h.held h.known c.if-key-gt-KEY_LIMIT.false (eqb-false _ _ (sym c.is_empty.ensures ∙ c.if-is_empty.false)) _ c.try_from.ensures _ c.in_ok-kind.was in
    record {
      answer = c.put.ensures.answer ∙ ap answered e;
      state_after = c.put.ensures.state_after ∙ ap (state_after a.self.now a.seqno) e;
      buffer_after = c.put.ensures.buffer_after ∙ ap (buffer_after a.self.now.used a.buffer.now) e;
      buffer_bytes = bytes-lent a.buffer.now (search rules);
      key_bytes = bytes-lent _ c.type_inv.key;
      value_bytes = bytes-lent _ c.type_inv.value;
      seqno_fits = omega (arith, c.ranges.seqno);
    }
