-- What is lent as a slice of bytes holds bytes, because the language knows of each number in it that it is one.
use Prim.Native.Nat.{ℕ}
use mathlib.Core.List.{List}
use native.Mathlib.Omega.{arith}
use lib.ListN.{get_or}
use mir.Syntax.{w8}
use mir.Val.{Fits}
use Rattle.list.specs.Version.{Bytes}

pub bytes-lent : (s : List ℕ) → ((i : ℕ) → Fits w8 (get_or s i 0)) → Bytes s
unfolding Bytes
bytes-lent s known i = omega (arith, known i)
