-- A key of any length is whole, so the rest of the record decides.
use Rattle.std.proofs.lemmas.Result.{err_from_is_err_and}
use Rattle.list.proofs.Reading.{whole-short, whole-rest}
use Rattle.list.proofs.record.read_whole.Goals as goal

pub returns-in_err-klen : goal.returns-in_err-klen
returns-in_err-klen c =
    let p = err_from_is_err_and c.from_residual.result c.from_residual.ensures.1 in
    let e = c.in_err-klen.ensures in
    rw (p.1, p.2, e.1) (whole-short _ _ e.0)

pub returns : goal.returns
returns c =
    let e = c.in_ok-klen.ensures in
    whole-rest _ _ _ e.is_read e.is_there _ c.read_rest.ensures
