-- The image is judged first, then seqno 0, the key's length and the place decide.
use mathlib.Core.Path.{sym, ◌∙◌}
use borrow.Author.Tests.{eqb-true, eqb-false}
use native.Mathlib.Omega.{arith}
use Rattle.list.specs.Limits.{key_limit}
use Rattle.list.proofs.Lent.{bytes-lent}
use Rattle.memtable.proofs.Answering.{exits}
use Rattle.memtable.proofs.Judging.{is-refused, is_held}
use lib.Seq.{length-take-le}
use Rattle.memtable.proofs.Trying.{used-fits, gap-lies}
use Rattle.memtable.proofs.Getting.{finds, g-refused, g-zero, g-long, g-empty, g-found}
use Rattle.memtable.proofs.Memtable.get.Goals as goal
use Rattle.memtable.proofs.Memtable.get.Goals.{then-seqno-eq0-via-then-seqno-eq0, then-seqno-eq0-via-else-seqno-eq0+then-is_empty}

pub returns-in_err-survey : goal.returns-in_err-survey
returns-in_err-survey c = exits _ _ c.from_residual.ensures.1 ∙ (g-refused _ _ _ _ (is-refused _ _ _ _ _ (bytes-lent _ c.type_inv.buffer) c.examine.ensures _ c.in_err-survey.was))

pub returns-then-seqno-eq0 : goal.returns-then-seqno-eq0
unfolding key_limit
returns-then-seqno-eq0 c =
    let h = is_held _ _ _ _ _ (bytes-lent _ c.type_inv.buffer) c.examine.ensures _ c.in_ok-survey.was in
    elim c.then-seqno-eq0.branch [
      | then-seqno-eq0-via-then-seqno-eq0 w ↦ g-zero _ _ _ _ h.held w.if-seqno-eq0.true
      | then-seqno-eq0-via-else-seqno-eq0+then-is_empty w ↦
          let e = eqb-true _ _ (sym w.is_empty.ensures ∙ w.if-is_empty.true) in g-empty _ _ _ _ h.held w.if-seqno-eq0.false (omega arith) e
    ]

pub returns-then-key-le-KEY_LIMIT : goal.returns-then-key-le-KEY_LIMIT
unfolding key_limit
returns-then-key-le-KEY_LIMIT c =
    let h = is_held _ _ _ _ _ (bytes-lent _ c.type_inv.buffer) c.examine.ensures _ c.in_ok-survey.was in
    let e = c.saturating_sub.ensures in
    g-found _ _ _ _ h.held c.if-seqno-eq0.false c.if-key-le-KEY_LIMIT.true (eqb-false _ _ (sym c.is_empty.ensures ∙ c.if-is_empty.false)) _
    (c.found_at.ensures ∙ finds _ _ _ (omega arith) _ _ _ h.known.image h.known.fine h.known.place)

pub returns : goal.returns
unfolding key_limit
returns c =
    let h = is_held _ _ _ _ _ (bytes-lent _ c.type_inv.buffer) c.examine.ensures _ c.in_ok-survey.was in
    rw c.into.ensures (g-long _ _ _ _ h.held c.if-seqno-eq0.false c.if-key-le-KEY_LIMIT.false)

pub slice_bounds-found_at-end : goal.slice_bounds-found_at-end
slice_bounds-found_at-end c =
    sym (length-take-le _ c.args.buffer.now (used-fits _ _ _ _ _ (bytes-lent _ c.type_inv.buffer) (sym c.examine.ensures ∙ c.in_ok-survey.was)))

pub found_at-requires : goal.found_at-requires
found_at-requires c = gap-lies _ _ _ _ _ (bytes-lent _ c.type_inv.buffer) (sym c.examine.ensures ∙ c.in_ok-survey.was)
