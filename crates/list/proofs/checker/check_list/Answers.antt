-- The header decides, or else the records do.
use Rattle.std.proofs.lemmas.Result.{err_from_is_err_and}
use Rattle.list.proofs.Header.{list-no, list-yes}
use Rattle.list.proofs.Lent.{bytes-lent}
use Rattle.list.proofs.checker.check_list.Goals as goal

pub returns-in_err-count : goal.returns-in_err-count
returns-in_err-count c =
    let p = err_from_is_err_and c.from_residual.result c.from_residual.ensures.1 in
    record { value = rw (p.1, p.2) (list-no _ _ c.check_header.ensures _ c.in_err-count.was); bytes = bytes-lent _ c.type_inv.s }

pub returns : goal.returns
returns c =
    record { value = list-yes _ _ c.check_header.ensures _ c.in_ok-count.was _ c.check_records.ensures; bytes = bytes-lent _ c.type_inv.s }
