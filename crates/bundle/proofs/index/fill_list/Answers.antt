-- What is left to write, at its place, makes the same table as the whole.
use mathlib.Core.Path.{refl}
use native.Mathlib.Omega.{arith}
use native.Mathlib.Nat.{add-sub_cancel_left}
use Rattle.list.specs.Limits.{header_size}
use Rattle.bundle.proofs.Filling.{next-most, fill-ends, fill-turn, word-left}
use Rattle.bundle.proofs.Looking.{words-most}
use Rattle.bundle.proofs.index.fill_list.Goals as goal

pub overflow_add-i-end : goal.overflow_add-i-end
overflow_add-i-end c = let w = words-most c.args.index.now in omega arith

pub loop-i-init : goal.loop-i-init
unfolding header_size
loop-i-init c = (refl, omega arith, rw add-sub_cancel_left)

pub put_word-requires : goal.put_word-requires
put_word-requires c = word-left _ _ _ _ c.loop-i.invariant.0 c.loop-i-test.true c.requires.room

pub loop-i-preserved : goal.loop-i-preserved
loop-i-preserved c =
    let n = next-most c.args.s.now c.loop-i.at (omega arith) in
    (omega (arith, c.put_word.auto.t), omega (arith, c.next_from-at.ensures), fill-turn _ _ _ _ _ _ _ c.loop-i.invariant.2 _ _ c.loop-i-test.true c.put_word.ensures c.next_from-at.ensures)

pub returns : goal.returns
returns c = fill-ends _ _ _ _ _ _ _ c.loop-i.invariant.2 c.loop-i-test.false
