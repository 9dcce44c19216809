-- A byte has eight bits, and a word has 64.
use mathlib.Core.Path.{refl}
use native.Mathlib.Omega.{arith}
use lib.Count.{trailing_le}
use Rattle.list.proofs.key.first_byte.Goals as goal

pub overflow_cast-result : goal.overflow_cast-result
overflow_cast-result c = omega (arith, trailing_le 64 c.args.d)

pub returns : goal.returns
returns c =
    record { value = refl; upper_bound = omega (arith, trailing_le 64 c.args.d) }
