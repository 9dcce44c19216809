-- One fate for each record, since the loop makes one a turn; and the numbers kept and reported tell exactly the fates.
use Prim.Native.Nat.{ℕ, zero, suc, ◌+◌, ◌≤◌}
use mathlib.Core.Path.{◌≡◌, refl, sym, ap, ap₂, ◌∙◌, subst}
use mathlib.Core.List.Memᴰ
use mathlib.Core.List.{List, [], ◌∷◌, map, flat_map, filter_map, Memᴰ}
use mathlib.Core.Bool.{Bool, true, false}
use mathlib.Core.Option.{Option-elim}
use mathlib.Core.Logic.{◌⊎◌, inl, inr, ◌↔◌}
use native.Mathlib.Omega.{arith}
use lib.ListN.{get_or, length}
use Rattle.list.specs.Pick.{pick}
use Rattle.list.specs.Version.{Version}
use Rattle.list.specs.declared.value_type.ValueType.{ValueType}
use Rattle.compaction.specs.declared.stream.Job.{Job}
use Rattle.compaction.specs.Fate.{Fate, is_kept, WithVerdict, Keep, leave, dropped, head_fate, histories, fates}
use Rattle.compaction.specs.Compact.{compacted, numbers, kept, report}
use Rattle.compaction.specs.Read.{made}
use Rattle.compaction.proofs.Loop.{fate_of, fate_if, tailed, loop, loop-is}
use Rattle.compaction.proofs.Kept.{output, told, gone, item, Heads, keeps, Each, over, stayed, left_out, each}
use Rattle.list.proofs.Tests.{never}

loop-length : (j : Job) (t : Bool) (a : WithVerdict) (bs : List WithVerdict) → length (loop j t a bs) ≡ suc (length bs)
unfolding loop
loop-length j t a [] = refl
loop-length j t a (b ∷ bs) = ap suc (loop-length j (tailed j t a b) b bs)

-- There is one fate for each record.
pub one_each : (j : Job) (bs : List WithVerdict) → length (fates j bs) ≡ length bs
unfolding fates histories flat_map
one_each j [] = refl
one_each j (a ∷ bs) = rw (← (loop-is j a bs)) (loop-length j false a bs)

in-numbers : (bs : List Bool) (m k : ℕ) → get_or bs k false ≡ true → Memᴰ (m + k) (numbers m bs)
unfolding numbers pick
in-numbers [] m k e = never (sym e)
in-numbers (b ∷ bs) m zero e = rw e (Memᴰ.head {x = m} (omega arith))
in-numbers (b ∷ bs) m (suc k) e = go b (Memᴰ.cast (omega arith) (in-numbers bs (suc m) k e))
  where
    go : (b : Bool) → Memᴰ (m + suc k) (numbers (suc m) bs) → Memᴰ (m + suc k) (pick b (m ∷ numbers (suc m) bs) (numbers (suc m) bs))
    go true h = Memᴰ.tail h
    go false h = h

tells : (bs : List Bool) (m n : ℕ) → Memᴰ n (numbers m bs) → (k : ℕ) × (n ≡ m + k) × (get_or bs k false ≡ true)
unfolding numbers pick
tells [] m n h = absurd (Memᴰ.not-nil h)
tells (b ∷ bs) m n h = go b refl (tells bs (suc m) n) h
  where
    later : (k : ℕ) × (n ≡ suc m + k) × (get_or bs k false ≡ true) → (k : ℕ) × (n ≡ m + k) × (get_or (b ∷ bs) k false ≡ true)
    later t = let (k, e, g) = t in (suc k, omega arith, g)

    go : (c : Bool) → b ≡ c → (Memᴰ n (numbers (suc m) bs) → (k : ℕ) × (n ≡ suc m + k) × (get_or bs k false ≡ true))
        → Memᴰ n (pick c (m ∷ numbers (suc m) bs) (numbers (suc m) bs)) → (k : ℕ) × (n ≡ m + k) × (get_or (b ∷ bs) k false ≡ true)
    go true e ih h = by (Memᴰ.cases_cons h)
      where
        by : (n ≡ m) ⊎ Memᴰ n (numbers (suc m) bs) → (k : ℕ) × (n ≡ m + k) × (get_or (b ∷ bs) k false ≡ true)
        by (inl i) = (0, omega arith, e)
        by (inr l) = later (ih l)
    go false e ih h = later (ih h)

-- the numbers tell exactly the tests that say yes
tell : (bs : List Bool) (n : ℕ) → Memᴰ n (numbers 0 bs) ↔ (get_or bs n false ≡ true)
tell bs n = (there, λ e. Memᴰ.cast (omega arith) (in-numbers bs 0 n e))
  where
    there : Memᴰ n (numbers 0 bs) → get_or bs n false ≡ true
    there h =
        let (k, e, g) = tells bs 0 n h in
        let i : k ≡ n = omega arith in
        subst (λ (m : ℕ). get_or bs m false ≡ true) i g

-- a test of each fate, past the last too
fate-test : (q : Fate → Bool) → q (gone false) ≡ false → (fs : List Fate) (n : ℕ) → get_or (map q fs) n false ≡ q (get_or fs n (gone false))
fate-test q z [] n = sym z
fate-test q z (f ∷ fs) zero = refl
fate-test q z (f ∷ fs) (suc n) = fate-test q z fs n

-- The numbers at which a test of fates says yes are those of the records whose fate passes it.
of-fate : (q : Fate → Bool) → q (gone false) ≡ false → (j : Job) (bs : List WithVerdict) (n : ℕ)
    → Memᴰ n (numbers 0 (map q (fates j bs))) ↔ (q (fate_of j bs n) ≡ true)
unfolding fate_of
of-fate q z j bs n =
    let t = tell (map q (fates j bs)) n in
    let e = fate-test q z (fates j bs) n in
    (λ h. sym e ∙ t.0 h, λ g. t.1 (e ∙ g))

-- So `kept` holds exactly the numbers of the kept records, and the report those of the reported ones.
pub in_kept : (j : Job) (bs : List WithVerdict) (n : ℕ) → Memᴰ n (kept j bs) ↔ (is_kept (fate_of j bs n) ≡ true)
unfolding kept is_kept Option-elim
in_kept = of-fate is_kept refl

pub in-report : (j : Job) (bs : List WithVerdict) (n : ℕ) → Memᴰ n (report j bs) ↔ (told (fate_of j bs n) ≡ true)
unfolding report
in-report = of-fate told refl

-- A reported record whose verdict is keep is not kept.
one_apart : (j : Job) (t : Bool) (a : WithVerdict) (us : List Version) → a.verdict ≡ Keep → told (fate_if j t a us) ≡ true → is_kept (fate_if j t a us) ≡ true → ⊥
unfolding fate_if dropped head_fate is_kept pick Option-elim
one_apart j true a us k x y = never (sym y)
one_apart j false a us k x y = never (sym (rw (keeps a k) at x))

loop-apart : (j : Job) (t : Bool) (a : WithVerdict) (bs : List WithVerdict) (z : WithVerdict) (n : ℕ) → (get_or (a ∷ bs) n z).verdict ≡ Keep
    → told (get_or (loop j t a bs) n (gone false)) ≡ true → is_kept (get_or (loop j t a bs) n (gone false)) ≡ true → ⊥
unfolding loop
loop-apart j t a [] z zero k x y = one_apart j t a [] k x y
loop-apart j t a [] z (suc n) k x y = never (sym x)
loop-apart j t a (b ∷ bs) z zero k x y = one_apart j t a _ k x y
loop-apart j t a (b ∷ bs) z (suc n) k x y = loop-apart j (tailed j t a b) b bs z n k x y

pub reported-not-kept : (j : Job) (bs : List WithVerdict) (z : WithVerdict) (n : ℕ) → (get_or bs n z).verdict ≡ Keep → Memᴰ n (report j bs) → Memᴰ n (kept j bs) → ⊥
reported-not-kept j bs z n k x y = go bs k ((in-report j bs n).0 x) ((in_kept j bs n).0 y)
  where
    go : (bs : List WithVerdict) → (get_or bs n z).verdict ≡ Keep → told (fate_of j bs n) ≡ true → is_kept (fate_of j bs n) ≡ true → ⊥
    go [] k x y = unfold fate_of fates histories flat_map in never (sym x)
    go (a ∷ bs) k x y = unfold fate_of in loop-apart j false a bs z n k (rw (← (loop-is j a bs)) at x) (rw (← (loop-is j a bs)) at y)

made-head : (a : WithVerdict) {kind : ValueType} {value : List ℕ} {b : Bool} → Heads a kind value b → made a ≡ item a kind value
unfolding made Option-elim
made-head a h = rw h

-- The output's records are those of the kept numbers, in order: what the filter made of each, unchanged but for a zeroed seqno.
output-numbers : (j : Job) (d : WithVerdict) (us : List WithVerdict) (m : ℕ) {fs : List Fate} {bs : List WithVerdict} → Each j fs bs
    → ((k : ℕ) → get_or us (m + k) d ≡ get_or bs k d) → output fs ≡ map (λ (n : ℕ). leave j (made (get_or us n d))) (numbers m (map is_kept fs))
unfolding filter_map Option-elim numbers is_kept pick
output-numbers j d us m over e = refl
output-numbers j d us m (stayed {a = a} q r) e =
    let here : get_or us m d ≡ a = ap (λ (n : ℕ). get_or us n d) (omega arith) ∙ e 0 in
    ap₂ ◌∷◌ (ap (leave j) (sym (ap made here ∙ made-head a q))) (output-numbers j d us (suc m) r (λ k. ap (λ (n : ℕ). get_or us n d) (omega arith) ∙ e (suc k)))
output-numbers j d us m (left_out r) e = output-numbers j d us (suc m) r (λ k. ap (λ (n : ℕ). get_or us n d) (omega arith) ∙ e (suc k))

pub output-is-kept : (j : Job) (bs : List WithVerdict) (z : WithVerdict) → compacted j bs ≡ map (λ (n : ℕ). leave j (made (get_or bs n z))) (kept j bs)
unfolding compacted kept
output-is-kept j bs z = output-numbers j z bs 0 (each j bs) (λ k. ap (λ (n : ℕ). get_or bs n z) (omega arith))

-- Tests that say yes only where others do give no more numbers.
pub fewer : (m : ℕ) (bs cs : List Bool) → ((n : ℕ) → get_or bs n false ≡ true → get_or cs n false ≡ true) → length (numbers m bs) ≤ length (numbers m cs)
unfolding numbers pick
fewer m [] cs h = omega arith
fewer m (true ∷ bs) [] h = never (sym (h 0 refl))
fewer m (false ∷ bs) [] h = fewer (suc m) bs [] (λ n. h (suc n))
fewer m (true ∷ bs) (true ∷ cs) h = omega (arith, fewer (suc m) bs cs (λ n. h (suc n)))
fewer m (true ∷ bs) (false ∷ cs) h = never (sym (h 0 refl))
fewer m (false ∷ bs) (true ∷ cs) h = omega (arith, fewer (suc m) bs cs (λ n. h (suc n)))
fewer m (false ∷ bs) (false ∷ cs) h = fewer (suc m) bs cs (λ n. h (suc n))

pub fewer-kept : (j j' : Job) (bs : List WithVerdict) → ((n : ℕ) → is_kept (fate_of j' bs n) ≡ true → is_kept (fate_of j bs n) ≡ true) → length (kept j' bs) ≤ length (kept j bs)
unfolding kept fate_of is_kept Option-elim
fewer-kept j j' bs h = fewer 0 (map is_kept (fates j' bs)) (map is_kept (fates j bs)) (λ n e. fate-test is_kept refl (fates j bs) n ∙ h n (sym (fate-test is_kept refl (fates j' bs) n) ∙ e))
