-- What a list's header decides: each test of it settles one answer, and a header that passes them leaves the verdict to the records.
use Rattle.std.specs.Prelude.{Ok, Result, Err}
use Prim.Native.Nat.{ℕ, ◌≤◌, ◌<◌}
use mathlib.Core.Path.{◌≡◌, ap, ◌∙◌}
use mathlib.Core.List.{List}
use mathlib.Core.Bool.{Bool, true, false}
use borrow.Author.Tests.{lt-ltb, le-ltb, eq-eqb, ne_eqb}
use lib.ListN.{length, take}
use Rattle.list.specs.Pick.{pick, on_result}
use Rattle.list.specs.Limits.{header_size, list_limit}
use Rattle.list.specs.Field.{le_at}
use Rattle.list.specs.Order.{compare, is_equal}
use Rattle.list.specs.Record.{no_record}
use Rattle.list.specs.Check.{check_from, mark, count_in, check_header, check_list}
use Rattle.list.specs.declared.refusal.Refusal.{Refusal}
use Rattle.list.specs.declared.refusal.Refusal.TheVariants.{Truncated, BadMark, BadVersion, TooLarge}
use Rattle.list.specs.Check.{Verdict}
use Rattle.list.specs.Refusal.{refuse}

module _ (s : List ℕ) where
  pub h-long : list_limit < length s → Err TooLarge ≡ check_header s
  unfolding check_header pick
  h-long h = simp (lt-ltb _ _ h)

  module _ (a : length s ≤ list_limit) where
    pub h-short : length s < header_size → Err Truncated ≡ check_header s
    unfolding check_header pick
    h-short h = simp (le-ltb _ _ a, lt-ltb _ _ h)

    module _ (b : header_size ≤ length s) (m : Bool) (c : m ≡ is_equal (compare (take 3 s) mark)) where
      pub h-mark : m ≡ false → Err BadMark ≡ check_header s
      unfolding check_header pick
      h-mark e = simp (le-ltb _ _ a, le-ltb _ _ b, ← c, e)

      module _ (e : m ≡ true) (w : ℕ) (f : w ≡ le_at s 3 2) where
        pub h-version : (w ≡ 1 → ⊥) → Err BadVersion ≡ check_header s
        unfolding check_header pick
        h-version h = simp (le-ltb _ _ a, le-ltb _ _ b, ← c, e, ← f, ne_eqb _ _ h)

        pub h-counts : w ≡ 1 → (k : ℕ) → k ≡ count_in s → Ok k ≡ check_header s
        unfolding check_header pick
        h-counts h k g = ap Ok g ∙ simp (le-ltb _ _ a, le-ltb _ _ b, ← c, e, ← f, eq-eqb _ _ h)

-- the list's verdict, h being what its header came to
module _ (s : List ℕ) (h : Result ℕ Refusal) (a : h ≡ check_header s) where
  pub list-no : (why : Refusal) → h ≡ Err why → refuse why 0 0 ≡ check_list s
  unfolding check_list on_result
  list-no why b = rw (← a, b)

  pub list-yes : (n : ℕ) → h ≡ Ok n → (v : Verdict) → v ≡ check_from n s header_size no_record 0 → v ≡ check_list s
  unfolding check_list on_result
  list-yes n b v i = i ∙ rw (← a, b)
