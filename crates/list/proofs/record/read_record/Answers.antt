-- The key's length is tested before the rest of the record is read.
use Rattle.std.proofs.lemmas.Result.{err_from_is_err_and}
use native.Mathlib.Omega.{arith}
use Rattle.list.proofs.Reading.{read_short, read-unkeyed, read-rest}
use Rattle.list.proofs.record.read_record.Goals as goal

pub returns-in_err-klen : goal.returns-in_err-klen
returns-in_err-klen c =
    let p = err_from_is_err_and c.from_residual.result c.from_residual.ensures.1 in
    let e = c.in_err-klen.ensures in
    rw (p.1, p.2, e.1) (read_short _ _ e.0)

pub returns-then-klen-eq0 : goal.returns-then-klen-eq0
returns-then-klen-eq0 c =
    let e = c.in_ok-klen.ensures in
    read-unkeyed _ _ _ e.is_read e.is_there (omega arith)

pub returns : goal.returns
returns c =
    let e = c.in_ok-klen.ensures in
    read-rest _ _ _ e.is_read e.is_there (omega arith) _ c.read_rest.ensures
