-- A report's table reads back as the numbers that were put there, since each of them is below 2^32.
use Prim.Native.Nat.{ℕ, zero, suc, ◌+◌, ◌≤◌, ◌<◌}
use mathlib.Core.Path.{◌≡◌, sym, ap₂, ◌∙◌}
use mathlib.Core.List.{List, [], ◌∷◌, ◌++◌}
use mathlib.Core.Bool.{Bool, true, false}
use native.Mathlib.Omega.{arith}
use lib.ListN.{length, drop, get_or, drop_of_length-le}
use lib.Seq.{drop-cons}
use Rattle.list.specs.Field.{words, word_at}
use Rattle.list.proofs.Words.{word-at}
use Rattle.list.specs.Pick.{pick}
use Rattle.compaction.specs.Compact.{numbers}
use Rattle.compaction.specs.Read.{words_from}

-- Numbers below 2^32, put as a table's first entries, are read back there.
module _ (xs rest : List ℕ) (small : (i : ℕ) → get_or xs i 0 < 4294967296) where
  pub read_back : (n i : ℕ) → i + n ≡ length xs → words_from i n (words xs ++ rest) ≡ drop i xs
  unfolding words_from word_at
  read_back zero i e = let h : length xs ≤ i = omega arith in sym (drop_of_length-le xs h)
  read_back (suc n) i e =
      let h : i < length xs = omega arith in
      ap₂ ◌∷◌ (word-at xs rest i h (small i)) (read_back n (suc i) (omega arith)) ∙ sym (drop-cons xs i 0 h)

-- The numbers at which tests say yes are no greater than there are tests.
pub numbers-low : (n : ℕ) (bs : List Bool) (i : ℕ) → get_or (numbers n bs) i 0 ≤ n + length bs
unfolding numbers pick
numbers-low n [] i = omega arith
numbers-low n (true ∷ bs) zero = omega arith
numbers-low n (true ∷ bs) (suc i) = omega (arith, numbers-low (suc n) bs i)
numbers-low n (false ∷ bs) i = omega (arith, numbers-low (suc n) bs i)
