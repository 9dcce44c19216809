-- Eight bytes are worth what the number in them is.
use Prim.Native.Nat.{ℕ, ◌+◌}
use mathlib.Core.Path.{◌≡◌, ap}
use native.Mathlib.Omega.{arith}
use lib.ListN.{get_or}
use Rattle.list.specs.Field.{le_at}
use Rattle.list.proofs.key.word.Goals as goal

pub returns : goal.returns
unfolding le_at
returns c =
    let at = λ (j : ℕ). get_or c.args.s.now j 0 in
    let i = c.args.i in
    let e2 : at (i + 1 + 1) ≡ at (i + 2) = ap at (omega arith) in
    let e3 : at (i + 1 + 1 + 1) ≡ at (i + 3) = ap at (omega arith) in
    let e4 : at (i + 1 + 1 + 1 + 1) ≡ at (i + 4) = ap at (omega arith) in
    let e5 : at (i + 1 + 1 + 1 + 1 + 1) ≡ at (i + 5) = ap at (omega arith) in
    let e6 : at (i + 1 + 1 + 1 + 1 + 1 + 1) ≡ at (i + 6) = ap at (omega arith) in
    let e7 : at (i + 1 + 1 + 1 + 1 + 1 + 1 + 1) ≡ at (i + 7) = ap at (omega arith) in
    omega (arith, c.from_le_bytes.ensures, e2, e3, e4, e5, e6, e7)
