-- If no bit of two words differs, their bytes are shared; else the lowest that does tells the first byte that is not.
use mathlib.Core.Path.{ap₂}
use native.Mathlib.Omega.{arith}
use lib.Bits.{bit_xor}
use Rattle.list.specs.Version.{Bytes}
use Rattle.list.proofs.Shared.{word_same, word-differs}
use Rattle.list.proofs.key.differ.Goals as goal

pub returns : goal.returns
unfolding Bytes
returns c =
    let s = c.args in
    let va : Bytes s.a.now = λ j. omega (arith, c.type_inv.a j) in
    let vb : Bytes s.b.now = λ j. omega (arith, c.type_inv.b j) in
    let x = ap₂ bit_xor c.word.ensures c.word-2.ensures in
    record { same = word_same s.a.now s.b.now s.i _ va vb (omega arith) (omega arith) x; first = word-differs s.a.now s.b.now s.i _ va vb (omega arith) (omega arith) x }
