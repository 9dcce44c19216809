-- A table's entries stand four bytes each, so the i-th reads at four times i.
use Prim.Native.Nat.{ℕ, zero, suc, ◌+◌, ◌*◌, ◌≤◌, ◌<◌}
use mathlib.Core.Path.{◌≡◌, refl, sym, ap, ◌∙◌}
use mathlib.Core.List.{List, [], ◌∷◌, ◌++◌, append_assoc}
use native.Mathlib.Omega.{arith}
use lib.ListN.{length, drop, get_or, length-append}
use lib.Seq.{sets, drop-drop}
use Rattle.list.specs.Field.{le_at, le_bytes, words, words_in}
use Rattle.list.proofs.Numbers.{after, le_read, length-le, sets-append}

pub length-words : (xs : List ℕ) → length (words xs) ≡ 4 * length xs
unfolding words
length-words [] = refl
length-words (x ∷ xs) = length-append (le_bytes x 4) (words xs) ∙ omega (arith, length-le x 4, length-words xs)

pub words_append : (xs ys : List ℕ) → words (xs ++ ys) ≡ words xs ++ words ys
unfolding words
words_append [] ys = refl
words_append (x ∷ xs) ys = rw (words_append xs ys) (sym (append_assoc (le_bytes x 4) (words xs) (words ys)))

-- a table written entry by entry
pub words-one : (t : List ℕ) (o x : ℕ) (xs : List ℕ) → sets t o (words (x ∷ xs)) ≡ sets (sets t o (le_bytes x 4)) (o + 4) (words xs)
unfolding words
words-one t o x xs = sets-append (le_bytes x 4) (words xs) t o ∙ ap (λ (k : ℕ). sets (sets t o (le_bytes x 4)) (o + k) (words xs)) (length-le x 4)

-- a table's i-th number
pub word_stands : (xs : List ℕ) (i : ℕ) (rest : List ℕ) → i < length xs → drop (4 * i) (words xs ++ rest) ≡ le_bytes (get_or xs i 0) 4 ++ (words (drop (suc i) xs) ++ rest)
unfolding words
word_stands [] i rest h = absurd (omega arith)
word_stands (x ∷ xs) zero rest h = append_assoc (le_bytes x 4) (words xs) rest
word_stands (x ∷ xs) (suc i) rest h =
    let e : 4 * suc i ≡ 4 + 4 * i = omega arith in
    rw e (sym (drop-drop (4 * i) 4 _) ∙ ap (drop (4 * i)) (after (le_bytes x 4 ++ words xs ++ rest) (le_bytes x 4) (words xs ++ rest) 0 4 (length-le x 4) (append_assoc (le_bytes x 4) (words xs) rest) 4 refl)
    ∙ word_stands xs i rest (omega arith))

pub word-at : (xs rest : List ℕ) (i : ℕ) → i < length xs → get_or xs i 0 < 4294967296 → le_at (words xs ++ rest) (4 * i) 4 ≡ get_or xs i 0
word-at xs rest i h b = le_read 4 (words xs ++ rest) _ (4 * i) (get_or xs i 0) (word_stands xs i rest h) b

-- an entry that a table has lies inside it
pub word_room : (t : List ℕ) (i : ℕ) → i < words_in t → 4 * i + 4 ≤ length t
unfolding words_in
word_room t i h = omega arith

pub room_word : (t : List ℕ) (n : ℕ) → 4 * n ≤ length t → n ≤ words_in t
unfolding words_in
room_word t n h = omega arith
