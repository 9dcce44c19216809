-- The code's verdict on a record is the table's: its words are the four entries, and a judged replacement lies in the lent values.
use Rattle.std.proofs.lemmas.Bool.{and_parts}
use Rattle.list.specs.declared.refusal.Refusal.{Refusal}
use Rattle.list.specs.declared.refusal.Refusal.TheVariants.{BadTag}
use Rattle.std.specs.Prelude.{Result, Ok, Err}
use Rattle.std.specs.Borrow.{Bor}
use Rattle.std.specs.Result.{is_ok, result_unwrap_or}
use Prim.Native.Nat.{ℕ, zero, suc, ◌+◌, ◌-◌, ◌*◌, ◌/◌, ◌≤◌, ◌<◌}
use mathlib.Core.Path.{◌≡◌, refl, sym, ap, ◌∙◌}
use mathlib.Core.List.{List, [], ◌∷◌}
use mathlib.Core.Bool.{Bool, true, false, ◌&&◌, ◌||◌, and-false}
use native.Mathlib.Omega.{arith}
use native.Mathlib.Numerals.{add-one}
use native.Mathlib.Nat.{add-sub_cancel_left}
use borrow.Author.Tests.{lt-ltb, le-ltb, ltb-true, ltb-false, leb-true, eqb-true, eq-eqb, ne_eqb}
use lib.Dec.{ltb, leb, eqb}
use lib.ListN.{length, take, drop, length-take}
use Rattle.list.specs.Pick.{pick, on_result}
use Rattle.list.specs.Field.{word_at}
use Rattle.list.specs.ValueType.{type_of, is_tombstone}
use Rattle.list.specs.Version.{Version, Bytes}
use Rattle.list.specs.declared.value_type.ValueType.{ValueType}
use Rattle.list.specs.declared.value_type.ValueType.TheVariants.{Value}
use Rattle.list.proofs.Numbers.{le-bound}
use Rattle.list.proofs.Parts.{bytes_drop, bytes_take}
use Rattle.list.proofs.Tests.{never}
use Rattle.compaction.specs.declared.filter.StreamFilterVerdict.{StreamFilterVerdict}
use Rattle.compaction.specs.declared.filter.StreamFilterVerdict.TheVariants as code
use Rattle.compaction.specs.Fate.{FilterVerdict, Keep, Drop, Replace, with_verdicts}
use Rattle.compaction.specs.Filter.{verdicts_in, is_replacement, is_verdict, are_verdicts, kind_of, verdict_at}
use Rattle.compaction.specs.Turn.{meant, verdict_for, ShortValue, Ready, drops, replaces, Decided, told_by}
use Rattle.compaction.proofs.Kept.{AllShort}

-- what is no drop and no replacement
pub no-drop : (q : StreamFilterVerdict) → (q ≡ code.Drop → ⊥) → false ≡ drops (meant q)
unfolding drops meant
no-drop code.Keep n = refl
no-drop code.Drop n = absurd (n refl)
no-drop (code.Replace kind value) n = refl

pub no-replacement : (q : StreamFilterVerdict) → ((kind : ValueType) (value : Bor (List ℕ)) → q ≡ code.Replace kind value → ⊥) → false ≡ replaces (meant q)
unfolding replaces meant
no-replacement code.Keep n = refl
no-replacement code.Drop n = refl
no-replacement (code.Replace kind value) n = absurd (n kind value refl)

-- an entry has 32 bits
pub word_bound : (t : List ℕ) (i : ℕ) → Bytes t → word_at t i < 4294967296
unfolding word_at
word_bound t i b = le-bound 4 t (4 * i) b

-- the first verdicts of a filter that says short values
pub all_short : (q : ℕ → FilterVerdict) (i : ℕ) (vs : List Version) → ((k : ℕ) → k < i + length vs → ShortValue (q k)) → AllShort (with_verdicts q i vs)
unfolding with_verdicts AllShort
all_short q i [] h = tt
all_short q i (v ∷ vs) h = (h i (omega arith), all_short q (suc i) vs (λ k l. h k (omega arith)))

module _ (t values : List ℕ) where
  -- a replacement's value is no longer than an entry can say, and bytes
  pub verdict-short : Bytes t → Bytes values → (i : ℕ) → ShortValue (verdict_at t values i)
  unfolding verdict_at pick ShortValue
  verdict-short b c i = go (eqb (word_at t (4 * i)) 0) (eqb (word_at t (4 * i)) 1)
    where
      go : (y z : Bool) → ShortValue (pick y Keep (pick z Drop
          (Replace (kind_of (word_at t (4 * i + 1))) (take (word_at t (4 * i + 3)) (drop (word_at t (4 * i + 2)) values)))))
      go true z = tt
      go false true = tt
      go false false = (omega (arith, word_bound t (4 * i + 3) b, length-take (word_at t (4 * i + 3)) (drop (word_at t (4 * i + 2)) values)), bytes_take (word_at t (4 * i + 3)) (drop (word_at t (4 * i + 2)) values) (bytes_drop (word_at t (4 * i + 2)) values c))

  -- a judged verdict's value lies in the values
  replacement-lies : (tag start n : ℕ) → is_replacement values tag start n ≡ true → start + n ≤ length values
  unfolding is_replacement on_result
  replacement-lies tag start n e = go (type_of tag) e
    where
      go : (k : Result ValueType Refusal) → on_result k (λ kind. leb (start + n) (length values)) (λ why. false) ≡ true → start + n ≤ length values
      go (Ok k) e = leb-true _ _ e
      go (Err why) e = never (sym e)

  -- the three things that a verdict says, x being what stands first
  module _ (i x : ℕ) (first : x ≡ word_at t (4 * i + 0)) where
    what : x ≡ word_at t (4 * i)
    what = first ∙ ap (word_at t) (omega arith)

    pub i-keep : x ≡ 0 → Keep ≡ verdict_at t values i
    unfolding verdict_at pick
    i-keep e = simp (eq-eqb (word_at t (4 * i)) 0 (sym what ∙ e))

    module _ (z : x ≡ 0 → ⊥) where
      pub i-drop : x ≡ 1 → Drop ≡ verdict_at t values i
      unfolding verdict_at pick
      i-drop e = simp (ne_eqb (word_at t (4 * i)) 0 (λ y. z (what ∙ y)), eq-eqb (word_at t (4 * i)) 1 (sym what ∙ e))

      module _ (o : x ≡ 1 → ⊥) (start n : ℕ) (b : start ≡ word_at t (4 * i + 2)) (c : n ≡ word_at t (4 * i + 3)) where
        pub i-lies : is_verdict t values i ≡ true → start + n ≤ length values
        unfolding is_verdict
        i-lies good = rw (b, c) (replacement-lies (word_at t (4 * i + 1)) (word_at t (4 * i + 2)) (word_at t (4 * i + 3)) (last good))
          where
            high : ltb (word_at t (4 * i)) 2 ≡ false
            high = le-ltb (word_at t (4 * i)) 2 (omega (arith, what, z, o))

            last : (ltb (word_at t (4 * i)) 2 || (eqb (word_at t (4 * i)) 2 && is_replacement values (word_at t (4 * i + 1)) (word_at t (4 * i + 2)) (word_at t (4 * i + 3)))) ≡ true
                → is_replacement values (word_at t (4 * i + 1)) (word_at t (4 * i + 2)) (word_at t (4 * i + 3)) ≡ true
            last g = (and_parts (eqb (word_at t (4 * i)) 2) _ (rw high at g)).1

        pub i-replace : (kind : ValueType) → kind ≡ kind_of (word_at t (4 * i + 1)) → Replace kind (take (start + n - start) (drop start values)) ≡ verdict_at t values i
        unfolding verdict_at pick
        i-replace kind k =
            rw (add-sub_cancel_left start n, k, b, c) (simp (ne_eqb (word_at t (4 * i)) 0 (λ y. z (what ∙ y)), ne_eqb (word_at t (4 * i)) 1 (λ y. o (what ∙ y))))

  -- each of the first n verdicts is one
  pub verdict-at : (n i : ℕ) → are_verdicts n t values ≡ true → i < n → is_verdict t values i ≡ true
  unfolding are_verdicts
  verdict-at zero i e l = absurd (omega arith)
  verdict-at (suc n) i e l = go (λ x y. verdict-at n i x y) (ltb i n) refl
    where
      both : (are_verdicts n t values ≡ true) × (is_verdict t values n ≡ true)
      both = and_parts _ _ e

      go : (are_verdicts n t values ≡ true → i < n → is_verdict t values i ≡ true) → (b : Bool) → ltb i n ≡ b → is_verdict t values i ≡ true
      go ih true f = ih both.0 (ltb-true i n f)
      go ih false f = let z : n ≡ i = omega (arith, ltb-false i n f) in rw z at both.1

  -- so a table that was judged can be asked about each record
  pub judged-ready : Bytes t → Bytes values → (count : ℕ) → (eqb (verdicts_in t) count && are_verdicts count t values) ≡ true
      → Ready (λ i. (i < verdicts_in t) × (is_verdict t values i ≡ true)) (verdict_at t values) count
  unfolding Ready
  judged-ready b c count judged i l =
      let (e, good) = and_parts _ _ judged in
      (((let n : verdicts_in t ≡ count = eqb-true (verdicts_in t) count e in omega (arith, n)), verdict-at count i good l), verdict-short b c i)

-- with no filter every record can be asked about
pub none-ready : (count : ℕ) → Ready (λ i. Unit {0}) (λ i. Keep) count
unfolding Ready ShortValue
none-ready count i l = (tt, tt)

-- a verdict that is none is found
pub verdict-none : (t values : List ℕ) (n i : ℕ) → i < n → is_verdict t values i ≡ false → are_verdicts n t values ≡ false
unfolding are_verdicts
verdict-none t values zero i l e = absurd (omega arith)
verdict-none t values (suc n) i l e = go (λ x. verdict-none t values n i x e) (ltb i n) refl
  where
    go : (i < n → are_verdicts n t values ≡ false) → (b : Bool) → ltb i n ≡ b → (are_verdicts n t values && is_verdict t values n) ≡ false
    go ih true f = rw (ih (ltb-true i n f))
    go ih false f = let z : i ≡ n = omega (arith, ltb-false i n f) in rw (rw z at e) (and-false (are_verdicts n t values))

-- one more
pub verdicts-nil : (t values : List ℕ) → are_verdicts 0 t values ≡ true
unfolding are_verdicts
verdicts-nil t values = refl

pub verdicts-on : (t values : List ℕ) (n : ℕ) → are_verdicts n t values ≡ true → (r : Bool) → r ≡ is_verdict t values n → r ≡ true → are_verdicts (n + 1) t values ≡ true
unfolding are_verdicts
verdicts-on t values n e r i f = rw add-one (rw (e, sym i ∙ f))

-- as many as the records, and each is one
module _ (t values : List ℕ) (count : ℕ) where
  pub all-other : (length t / 16 ≡ count → ⊥) → false ≡ (eqb (verdicts_in t) count && are_verdicts count t values)
  unfolding verdicts_in
  all-other n = rw (ne_eqb (length t / 16) count n)

  module _ (i : ℕ) (e : length t / 16 ≡ count) where
    pub all_none : i < length t / 16 → (r : Bool) → r ≡ is_verdict t values i → r ≡ false → false ≡ (eqb (verdicts_in t) count && are_verdicts count t values)
    all_none l r v f = sym (rw (verdict-none t values count i (omega arith) (sym v ∙ f)) (and-false (eqb (verdicts_in t) count)))

    pub all_one : i ≤ length t / 16 → length t / 16 ≤ i → are_verdicts i t values ≡ true → true ≡ (eqb (verdicts_in t) count && are_verdicts count t values)
    unfolding verdicts_in
    all_one l m a = let z : i ≡ count = omega arith in rw (eq-eqb (length t / 16) count e, rw z at a)

-- no tag is above a byte
pub tag-high : (n : ℕ) → 255 < n → (Err BadTag) ≡ type_of n
unfolding type_of pick
tag-high n h = simp (ne_eqb n 0 (λ e. omega arith), ne_eqb n 1 (λ e. omega arith), ne_eqb n 2 (λ e. omega arith), ne_eqb n 4 (λ e. omega arith))

-- the kind of a tag, and whether it is one and its value lies in the values
module _ (tag : ℕ) (r : Result ValueType Refusal) (says : r ≡ type_of tag) where
  pub kind-is : result_unwrap_or r Value ≡ kind_of tag
  unfolding kind_of
  kind-is = rw says (go (type_of tag))
    where
      go : (r : Result ValueType Refusal) → result_unwrap_or r Value ≡ on_result r (λ kind. kind) (λ why. Value)
      go (Ok kind) = unfold on_result in refl
      go (Err why) = unfold on_result in refl

  pub replacement-is : (values : List ℕ) (start n : ℕ) → (is_ok r && leb (start + n) (length values)) ≡ is_replacement values tag start n
  unfolding is_replacement
  replacement-is values start n = rw says (go (type_of tag))
    where
      go : (r : Result ValueType Refusal) → (is_ok r && leb (start + n) (length values)) ≡ on_result r (λ kind. leb (start + n) (length values)) (λ why. false)
      go (Ok kind) = unfold on_result in refl
      go (Err why) = unfold on_result in refl

-- whether verdict i is one, x being what it is
module _ (t values : List ℕ) (i x : ℕ) (first : x ≡ word_at t (4 * i + 0)) where
  stands : x ≡ word_at t (4 * i)
  stands = first ∙ ap (word_at t) (omega arith)

  pub v-plain : x < 2 → true ≡ is_verdict t values i
  unfolding is_verdict
  v-plain h = rw (lt-ltb (word_at t (4 * i)) 2 (omega (arith, stands)))

  pub v-other : 2 ≤ x → (x ≡ 2 → ⊥) → false ≡ is_verdict t values i
  unfolding is_verdict
  v-other h n = simp (le-ltb (word_at t (4 * i)) 2 (omega (arith, stands)), ne_eqb (word_at t (4 * i)) 2 (λ e. n (stands ∙ e)))

  pub v-replace : 2 ≤ x → x ≡ 2 → (tag start n : ℕ) → tag ≡ word_at t (4 * i + 1) → start ≡ word_at t (4 * i + 2) → n ≡ word_at t (4 * i + 3)
      → (r : Bool) → r ≡ is_replacement values tag start n → r ≡ is_verdict t values i
  unfolding is_verdict
  v-replace h e tag start n a b c r s = s ∙ rw (a, b, c) (simp (le-ltb (word_at t (4 * i)) 2 (omega (arith, stands)), eq-eqb (word_at t (4 * i)) 2 (sym stands ∙ e)))

-- how the record leaves is short if the verdict is
pub told-short : (q : FilterVerdict) (d : Decided) → ShortValue q → ShortValue (told_by q d).leaves
unfolding told_by
told-short q d h = go d.kept
  where
    go : (b : Bool) → ShortValue (pick b q Drop)
    go true = unfold pick in h
    go false = unfold pick ShortValue in tt

-- and so is the verdict for a kind
pub for-short : (old : ValueType) (q : FilterVerdict) → ShortValue q → ShortValue (verdict_for old q)
unfolding verdict_for
for-short old q h = go (is_tombstone old)
  where
    go : (b : Bool) → ShortValue (pick b Keep q)
    go true = unfold pick ShortValue in tt
    go false = unfold pick in h
