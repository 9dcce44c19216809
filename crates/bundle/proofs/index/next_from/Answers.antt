-- A whole record ends where the next starts; a broken one leaves the place.
use Rattle.bundle.proofs.Filling.{next-whole, next-broken}
use Rattle.bundle.proofs.index.next_from.Goals as goal

pub returns-in-Ok : goal.returns-in-Ok
returns-in-Ok c = next-whole _ _ _ c.read_record.ensures _ c.in-Ok.is

pub returns-in-Err : goal.returns-in-Err
returns-in-Err c = next-broken _ _ _ c.read_record.ensures _ c.in-Err.is
