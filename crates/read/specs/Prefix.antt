-- A prefix, as bounds: the lower is the prefix itself, included; the upper, excluded, is told of and written.
use Rattle.std.specs.Prelude.{ℕ, suc, List, [], ◌∷◌, Bool, true, false, ◌&&◌, ltb, eqb, length, take, Option, Some, None, Result, Ok, Err}
use Rattle.std.proofs.lemmas.List.Edits.{sets}
use Rattle.list.specs.Pick.{pick}
use Rattle.list.specs.Limits.{key_limit}
use Rattle.list.specs.declared.refusal.Refusal.{Refusal}
use Rattle.list.specs.declared.refusal.Refusal.TheVariants.{LongKey, NoRoom}

-- The key starts with the prefix: of the keys that the bounds hold a theorem says so.
unfoldable pub starts_with : List ℕ → List ℕ → Bool
starts_with [] k = true
starts_with (x ∷ p) [] = false
starts_with (x ∷ p) (y ∷ k) = eqb x y && starts_with p k

-- How many bytes stand up to the last below 255; with none, 0.
unfoldable pub cut_at : List ℕ → ℕ
cut_at [] = 0
cut_at (x ∷ p) = pick (ltb 0 (cut_at p)) (suc (cut_at p)) (pick (ltb x 255) 1 0)

-- The last byte raised by one.
unfoldable pub raised : List ℕ → List ℕ
raised [] = []
raised (x ∷ []) = suc x ∷ []
raised (x ∷ y ∷ p) = x ∷ raised (y ∷ p)

-- The prefix cut after its last byte below 255, that byte raised by one.
unfoldable pub upper_bytes : List ℕ → List ℕ
upper_bytes p = raised (take (cut_at p) p)

-- What is told of an upper bound: how many bytes it has, or that there is none; or a refusal.
abbrev pub Prefixed : Type 0
Prefixed = Result (Option ℕ) Refusal

-- The answer, with room for so many bytes: 5 on the prefix, then 10 exactly when there is an upper bound and it has more bytes than the buffer.
unfoldable pub prefixed : List ℕ → ℕ → Prefixed
prefixed p room =
    pick (ltb key_limit (length p)) (Err LongKey)
    (pick (eqb (cut_at p) 0) (Ok None)
    (pick (ltb room (cut_at p)) (Err NoRoom) (Ok (Some (cut_at p)))))

-- The upper bound is written to the lent buffer; bytes past it stay, and on a refusal all of it.
unfoldable pub upper_written : Prefixed → List ℕ → List ℕ → List ℕ
upper_written (Ok (Some length)) p t = sets t 0 (upper_bytes p)
upper_written (Ok None) p t = t
upper_written (Err refusal) p t = t
