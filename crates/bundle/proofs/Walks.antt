-- A walk comes as far as the lists lie in the bundle and have headers; one that does not stops it, since no later list makes up for it.
use Rattle.std.proofs.lemmas.Bool.{and_parts, and_right}
use Prim.Native.Nat.{ℕ, zero, suc, ◌+◌, ◌-◌, ◌*◌, ◌≤◌, ◌<◌}
use mathlib.Core.Path.{◌≡◌, refl, sym, ap, ◌∙◌}
use mathlib.Core.List.{List}
use mathlib.Core.Bool.{Bool, true, false, ◌&&◌}
use native.Mathlib.Omega.{arith}
use native.Mathlib.Numerals.{add-one}
use borrow.Author.Tests.{le-leb, lt-leb, leb-true, eq-eqb, ne_eqb, eqb-true, eqb-false}
use lib.Dec.{leb, eqb}
use lib.ListN.{length, take, drop}
use Rattle.std.specs.Prelude.{Some, None}
use Rattle.std.proofs.lemmas.Option.{same_Some, none-some}
use Rattle.list.specs.Check.{count_in}
use Rattle.list.specs.Limits.{header_size}
use Rattle.list.specs.Pick.{pick}
use Rattle.list.specs.Field.{words_in, word_at}
use Rattle.list.specs.Version.{Bytes}
use Rattle.list.proofs.Numbers.{le-bound}
use Rattle.list.proofs.Parts.{bytes_take, bytes_drop}
use Rattle.list.proofs.Tests.{never}
use Rattle.bundle.specs.Bundle.{bundle_limit, start_at, list_at}
use Rattle.bundle.specs.Index.{count_at}
use Rattle.bundle.specs.Look.{base_at, headed, lengths_cover, covers}
use Rattle.bundle.specs.Private.{reaches, reached, fence, first, fence_at}
use Rattle.bundle.specs.declared.walk.Fence.{Fence}
use Rattle.bundle.proofs.Starts.{start-next, base-next, start-before}
use Rattle.bundle.proofs.Looking.{headed-at, headed-all, cover-sum, covered, covers-not, covers-by}

module _ (b lens : List ℕ) where
  -- what a walk knows that has come to list k
  pub record Come (k : ℕ) (at : Fence) : Type 0 where
    pub fence_is : at ≡ fence b lens k
    pub start_is : at.start ≡ start_at lens k
    pub base-is : at.base ≡ base_at b lens k
    pub few-lists : words_in lens ≤ bundle_limit
    pub inside : at.start ≤ length b
    pub headed-so : headed k lens ≡ true

  reaches-says : (k : ℕ) → reaches b lens k ≡ true → (words_in lens ≤ bundle_limit) × (headed k lens ≡ true) × (start_at lens k ≤ length b)
  unfolding reaches
  reaches-says k r =
      let z = and_parts _ _ r in
      let y = and_parts _ _ z.0 in
      (leb-true _ _ y.0, y.1, leb-true _ _ z.1)

  pub come : (k : ℕ) (at : Fence) → Some at ≡ fence_at b lens k → Come k at
  unfolding fence_at pick
  come k at e = go (reaches b lens k) refl e
    where
      go : (u : Bool) → reaches b lens k ≡ u → Some at ≡ pick u (Some (fence b lens k)) None → Come k at
      go true r q =
          let z = reaches-says k r in
          let m = same_Some at (fence b lens k) q in
          let s = ap (λ (x : Fence). x.start) m in
          record { fence_is = m; start_is = s; base-is = ap (λ (x : Fence). x.base) m; few-lists = z.0; inside = omega (arith, z.2); headed-so = z.1 }
      go false r q = absurd (none-some at (sym q))

  on : words_in lens ≤ bundle_limit → (k : ℕ) (at : Fence) → headed k lens ≡ true → start_at lens k ≤ length b → at.start ≡ start_at lens k → at.base ≡ base_at b lens k → Some at ≡ fence_at b lens k
  unfolding fence_at reaches pick
  on few k at h i p q = rw (le-leb _ _ few, h, le-leb (start_at lens k) (length b) i, ← p, ← q)

  off : (k : ℕ) → reaches b lens k ≡ false → None ≡ fence_at b lens k
  unfolding fence_at pick
  off k r = rw r

  pub walk_first : words_in lens ≤ bundle_limit → Some first ≡ fence_at b lens 0
  unfolding headed start_at base_at
  walk_first few = on few 0 first refl (omega arith) refl refl

  -- a turn past list k
  module _ (k : ℕ) (at : Fence) (v : Some at ≡ fence_at b lens k) (len : ℕ) (e : len ≡ word_at lens k) where
    next : at.start + len ≡ start_at lens (k + 1)
    next = omega (arith, (come k at v).start_is, start-next lens k)

    pub walk-long : length b - at.start < len → None ≡ fence_at b lens (k + 1)
    unfolding reaches
    walk-long h = off (k + 1) (and_right (leb (words_in lens) bundle_limit && headed (k + 1) lens) _ (lt-leb _ _ (omega (arith, (come k at v).inside, next))))

    pub walk-short : len < header_size → None ≡ fence_at b lens (k + 1)
    unfolding reaches headed
    walk-short h = off (k + 1) (rw (le-leb _ _ (come k at v).few-lists, add-one, ← e) (simp (lt-leb _ _ h)))

    module _ (l : len ≤ length b - at.start) (h : header_size ≤ len) (s : List ℕ) (f : s ≡ take len (drop at.start b)) (count : ℕ) (c : count ≡ count_in s) where
      listed : s ≡ list_at b lens k
      unfolding list_at
      listed = f ∙ rw (e, (come k at v).start_is)

      counted : count ≡ count_at b lens k
      unfolding count_at
      counted = c ∙ ap count_in listed

      pub walk-on : Some (record { start = at.start + len; base = at.base + count }) ≡ fence_at b lens (k + 1)
      unfolding headed
      walk-on =
          let w = come k at v in
          let g : headed (k + 1) lens ≡ true = rw (add-one, ← e) (simp (le-leb _ _ h, w.headed-so)) in
          on w.few-lists (k + 1) _ g (omega (arith, w.inside, next)) next (omega (arith, w.base-is, base-next b lens k, counted))

  -- lists that do not fit are not made up for by later ones
  reaches-before : (k n : ℕ) → k ≤ n → reaches b lens n ≡ true → reaches b lens k ≡ true
  unfolding reaches
  reaches-before k n h r =
      let z = reaches-says n r in
      let g = headed-all k lens (λ i l. headed-at n lens z.1 i (omega arith)) in
      rw (le-leb _ _ z.0, g, le-leb (start_at lens k) (length b) (omega (arith, z.2, start-before lens k n h)))

  reaches-no-more : (k n : ℕ) → k ≤ n → reaches b lens k ≡ false → reaches b lens n ≡ false
  reaches-no-more k n h r = go (reaches b lens n) refl
    where
      go : (u : Bool) → reaches b lens n ≡ u → u ≡ false
      go true e = never (sym (reaches-before k n h e) ∙ r)
      go false e = refl

  unreached : (k : ℕ) → fence_at b lens k ≡ None → reaches b lens k ≡ false
  unfolding fence_at pick
  unreached k e = go (reaches b lens k) e
    where
      go : (u : Bool) → pick u (Some (fence b lens k)) None ≡ None → u ≡ false
      go true q = absurd (none-some (fence b lens k) (sym q))
      go false q = refl

  pub walk-stops : (k n : ℕ) → k ≤ n → fence_at b lens k ≡ None → None ≡ fence_at b lens n
  walk-stops k n h e = off n (reaches-no-more k n h (unreached k e))

  there : (k : ℕ) (at : Fence) → Some at ≡ fence_at b lens k → reaches b lens k ≡ true
  unfolding fence_at pick
  there k at e = go (reaches b lens k) e
    where
      go : (u : Bool) → Some at ≡ pick u (Some (fence b lens k)) None → u ≡ true
      go true q = refl
      go false q = absurd (none-some at (sym q))

  -- a walk that ends at list k has reached k lists
  reached-is : (k : ℕ) → reaches b lens k ≡ true → (n : ℕ) → k ≤ n → (k < n → reaches b lens (k + 1) ≡ false) → reached n b lens ≡ k
  unfolding reached pick
  reached-is k r zero h s = omega arith
  reached-is k r (suc n) h s = go (reached-is k r n) (reaches b lens (suc n)) refl
    where
      go : (k ≤ n → (k < n → reaches b lens (k + 1) ≡ false) → reached n b lens ≡ k)
          → (u : Bool) → reaches b lens (suc n) ≡ u → pick u (suc n) (reached n b lens) ≡ k
      go ih true e = same (eqb k (suc n)) refl
        where
          same : (u : Bool) → eqb k (suc n) ≡ u → suc n ≡ k
          same true f = sym (eqb-true k (suc n) f)
          same false f =
              let l : k < suc n = omega (arith, eqb-false k (suc n) f) in
              never (sym e ∙ reaches-no-more (k + 1) (suc n) (omega arith) (s l))
      go ih false e =
          let d : k ≡ suc n → ⊥ = λ q. never (sym r ∙ ap (reaches b lens) q ∙ e) in
          ih (omega (arith, d)) (λ l. s (omega arith))

  pub reached-to : (k : ℕ) (at : Fence) → Some at ≡ fence_at b lens k → (n : ℕ) → k ≤ n → (k < n → fence_at b lens (k + 1) ≡ None) → reached n b lens ≡ k
  reached-to k at v n h s = reached-is k (there k at v) n h (λ l. unreached (k + 1) (s l))

  -- what is not reached does not cover
  not-reached : (k : ℕ) → k ≤ words_in lens → reaches b lens k ≡ false → false ≡ lengths_cover b lens
  not-reached k l f = go (lengths_cover b lens) refl
    where
      go : (u : Bool) → lengths_cover b lens ≡ u → false ≡ u
      go true e =
          let z = covered b lens e in
          let r : reaches b lens (words_in lens) ≡ true = unfold reaches in rw (le-leb _ _ z.few-lists, headed-all (words_in lens) lens z.each, le-leb (start_at lens (words_in lens)) (length b) (omega (arith, z.add-up))) in
          never (sym r ∙ reaches-no-more k (words_in lens) l f)
      go false e = refl

  module _ (t : List ℕ) where
    pub stopped : (k : ℕ) → k ≤ words_in lens → fence_at b lens k ≡ None → false ≡ covers b lens t
    stopped k l e = covers-not b lens t (sym (not-reached k l (unreached k e)))

    -- all lists passed: whether lengths and index cover the bundle
    module _ (end : Fence) (v : Some end ≡ fence_at b lens (words_in lens)) where
      by-sum : eqb end.start (length b) ≡ lengths_cover b lens
      by-sum = let w = come (words_in lens) end v in cover-sum b lens (words_in lens) refl w.few-lists w.headed-so end.start w.start_is

      pub covered-sum : (end.start ≡ length b → ⊥) → false ≡ covers b lens t
      covered-sum q = covers-not b lens t (sym by-sum ∙ ne_eqb _ _ q)

      pub covered-room : end.start ≡ length b → (m : ℕ) → m ≡ words_in t → leb end.base m ≡ covers b lens t
      covered-room q m o = covers-by b lens t (sym by-sum ∙ eq-eqb _ _ q) (words_in lens) refl end.base m (come (words_in lens) end v).base-is o

  -- the records before a list are few enough for a sum
  pub base-most : Bytes b → (k : ℕ) → base_at b lens k ≤ 4294967296 * k
  unfolding base_at count_at count_in list_at
  base-most y zero = omega arith
  base-most y (suc k) =
      let c = le-bound 4 (list_at b lens k) 5 (bytes_take (word_at lens k) _ (bytes_drop (start_at lens k) b y)) in
      let m : count_at b lens k < 4294967296 = c in
      let r = base-most y k in
      omega arith
