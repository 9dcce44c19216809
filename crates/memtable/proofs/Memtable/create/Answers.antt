-- The empty list is written where there is room for it.
use Rattle.list.specs.Limits.{header_size}
use Rattle.list.proofs.Lent.{bytes-lent}
use Rattle.memtable.specs.Insert.{blank}
use Rattle.memtable.proofs.Trying.{created-none, created-some, created-bytes, created-state, refuses, done}
use borrow.Author.Rules.{rules}
use Rattle.memtable.proofs.Memtable.create.Goals as goal

pub returns-then-buffer-lt-HEADER_LEN : goal.returns-then-buffer-lt-HEADER_LEN
unfolding header_size
returns-then-buffer-lt-HEADER_LEN c =
    let p = refuses c.args.self.now 0 0 c.args.buffer.now _ _ (created-none c.args.buffer.now c.if-buffer-lt-HEADER_LEN.true) in
    record { answer = rw c.into.ensures p.answer; state_after = p.created; buffer_after = p.buffer; buffer_bytes = bytes-lent _ c.type_inv.buffer }

pub write_header-requires : goal.write_header-requires
unfolding header_size
write_header-requires c = search rules

pub returns : goal.returns
unfolding header_size blank
returns c =
    let h = c.if-buffer-lt-HEADER_LEN.false in
    let s = created-state c.args.self.now c.args.buffer.now h in
    record {
      answer = done _ _ (created-some _ h);
      state_after = rw c.new.ensures s;
      buffer_after = created-bytes _ _ h c.write_header.ensures;
      buffer_bytes = bytes-lent c.args.buffer.now (search rules);
    }
