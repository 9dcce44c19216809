-- The header's tests come in the paper's order.
use lib.Seq.{length-take-le}
use Rattle.list.specs.Limits.{header_size, list_limit}
use Rattle.list.specs.Check.{mark}
use Rattle.list.proofs.ByStd.{equal, off, on}
use Rattle.list.proofs.Header.{h-long, h-short, h-mark, h-version, h-counts}
use mathlib.Core.Path.{sym}
use native.Mathlib.Omega.{arith}
use borrow.Author.Rules.{rules}
use Rattle.list.proofs.checker.check_header.Goals as goal

pub returns-then-s-gt-LIST_LIMIT : goal.returns-then-s-gt-LIST_LIMIT
unfolding list_limit
returns-then-s-gt-LIST_LIMIT c = h-long _ c.if-s-gt-LIST_LIMIT.true

pub returns-then-s-lt-HEADER_LEN : goal.returns-then-s-lt-HEADER_LEN
unfolding header_size list_limit
returns-then-s-lt-HEADER_LEN c = h-short _ (omega arith) (omega arith)

pub slice_bounds-ne-end : goal.slice_bounds-ne-end
slice_bounds-ne-end c = sym (length-take-le 3 c.args.s.now (omega arith))

pub returns-then-ne : goal.returns-then-ne
unfolding header_size mark list_limit
returns-then-ne c = h-mark _ (omega arith) (omega arith) _ (equal _ _) (off _ c.if-ne.ensures)

pub returns-then-le-ne-VERSION : goal.returns-then-le-ne-VERSION
unfolding header_size mark list_limit
returns-then-le-ne-VERSION c =
    h-version _ (omega arith) (omega arith) _ (equal _ _) (on _ c.if-ne.ensures) _ c.le.ensures.value c.if-le-ne-VERSION.true

pub count_in-requires : goal.count_in-requires
unfolding header_size
count_in-requires c = search rules

pub returns : goal.returns
unfolding header_size mark list_limit
returns c =
    h-counts _ (omega arith) (omega arith) _ (equal _ _) (on _ c.if-ne.ensures) _ c.le.ensures.value c.if-le-ne-VERSION.false _ c.count_in.ensures.value
