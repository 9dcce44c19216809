-- A creation from the blank state leaves what the definitions say of one with this id.
use Rattle.memtable.specs.Insert.{created}
use Rattle.memtable.proofs.Trying.{created-is}
use Rattle.vls.proofs.tables.vls_memtable_new.Goals as goal

pub returns-clause-value : goal.returns-clause-value
returns-clause-value c =
    let e = c.create-created.ensures in
    rw (c.of.ensures, e.answer, e.state_after, c.new-state.ensures, created-is c.args.id (created c.args.buffer.now))
