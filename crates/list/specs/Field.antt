-- Numbers in bytes, the lowest byte first.
use Rattle.std.specs.Prelude.{ℕ, zero, suc, ◌+◌, ◌*◌, ◌/◌, ◌%◌, List, [], ◌∷◌, ◌++◌, length, get_or}

-- The number in the n bytes from a place.
unfoldable pub le_at : List ℕ → ℕ → ℕ → ℕ
le_at s at zero = 0
le_at s at (suc n) = get_or s at 0 + 256 * le_at s (at + 1) n

-- The lowest n bytes of a number.
unfoldable pub le_bytes : ℕ → ℕ → List ℕ
le_bytes x zero = []
le_bytes x (suc n) = x % 256 ∷ le_bytes (x / 256) n

-- A table's entries, 32 bits each, end to end.
unfoldable pub words : List ℕ → List ℕ
words [] = []
words (x ∷ xs) = le_bytes x 4 ++ words xs

-- A table of n bytes has n / 4 entries; entry i stands in bytes 4i to 4i + 3.
unfoldable pub words_in : List ℕ → ℕ
words_in t = length t / 4

unfoldable pub word_at : List ℕ → ℕ → ℕ
word_at t i = le_at t (4 * i) 4
