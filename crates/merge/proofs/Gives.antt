-- A merge stands for versions in order when what is next at an end is what stands there, and past it stand the others. The plain search over opened sources does, since the least of the sources' next is the least of all that is left, and so at the back.
use Prim.Native.Nat.{ℕ, zero, suc, ◌+◌, ◌≤◌}
use mathlib.Core.Path.{◌≡◌, refl, sym, ap, ap₂, ◌∙◌}
use mathlib.Core.List.{List, [], ◌∷◌, ◌++◌}
use mathlib.Core.Bool.{Bool, true, false}
use mathlib.Core.Option.{Option}
use native.Mathlib.Omega.{arith}
use lib.ListN.{length, length-append}
use Rattle.list.specs.Pick.{pick}
use Rattle.merge.specs.Placed.{Placed, before}
use Rattle.merge.specs.Merged.{gather, among, sort}
use Rattle.merge.specs.Merge.{Reply, Nothing, Found, on_reply, Merge, Torn}
use Rattle.merge.specs.Plain.{Ends, left, Head, ahead, past, plain}
use Rattle.merge.specs.Private.{Fitting}
use Rattle.merge.specs.declared.ends.End.{End}
use Rattle.merge.proofs.Lists.{All, all-sort, put, Sooner, sort-put}
use Rattle.merge.proofs.Turn.{run, window, Opened, Turn, over, met, turn, still-fits}

-- what stands next at an end of a state
pub data Next {S : Type 0} (m : Merge S) (Good : S → Type 0) (rest : S → List Placed) (e : End) (s : S) : Reply Placed → Type 0 where
  nothing : rest s ≡ [] → Next m Good rest e s Nothing
  found : {x : Placed} → rest s ≡ put e x (rest (m.pop e s)) → All (Sooner e x) (rest (m.pop e s)) → Good (m.pop e s) → Next m Good rest e s (Found x)

-- the good states of a merge stand for versions in order
pub record Gives {S : Type 0} (m : Merge S) (Good : S → Type 0) (rest : S → List Placed) : Type 0 where
  pub next : (e : End) (s : S) → Good s → Next m Good rest e s (m.peek e s)
  pub count : (s : S) → Good s → m.left s ≡ length (rest s)

-- how much is left
length_run : (ver : ℕ → ℕ → Placed) (k i m : ℕ) → length (run ver k i m) ≡ m
unfolding run
length_run ver k i zero = refl
length_run ver k i (suc m) = ap suc (length_run ver k (suc i) m)

left_is : (ver : ℕ → ℕ → Placed) (c : Ends) (n : ℕ) → length (gather n (window ver c)) ≡ left n c
unfolding gather left window
left_is ver c zero = refl
left_is ver c (suc n) = length-append (gather n (window ver c)) (window ver c n) ∙ ap₂ ◌+◌ (left_is ver c n) (length_run ver n _ _)

length-among : (x : Placed) (l : List Placed) → length (among x l) ≡ suc (length l)
unfolding among pick
length-among x [] = refl
length-among x (y ∷ l) = go (before y x) (length-among x l)
  where
    go : (b : Bool) → length (among x l) ≡ suc (length l) → length (pick b (y ∷ among x l) (x ∷ y ∷ l)) ≡ suc (suc (length l))
    go true h = ap suc h
    go false h = refl

length-sort : (l : List Placed) → length (sort l) ≡ length l
unfolding sort
length-sort [] = refl
length-sort (x ∷ l) = length-among x (sort l) ∙ ap suc (length-sort l)

-- ends on more sources are ends on some of them
narrow : (n m : ℕ) (size : ℕ → ℕ) (c : Ends) → n ≤ m → Fitting m size c → Fitting n size c
narrow n m size c h f = record {
  front-room = omega (arith, f.front-room);
  back-room = omega (arith, f.back-room);
  uncrossed = λ k l. f.uncrossed k (omega arith);
  inside = λ k l. f.inside k (omega arith);
}

module _ (n : ℕ) (look : ℕ → ℕ → Option Placed) (ver : ℕ → ℕ → Placed) (size : ℕ → ℕ) (opened : Opened n look ver size) (m : ℕ) (few : n ≤ m) where
  -- the versions between two ends, in order
  abbrev pub standing : Ends → List Placed
  standing c = sort (gather n (window ver c))

  next_of : (e : End) (c : Ends) → Fitting m size c → (a : Reply Head) → ahead n e look c ≡ a → Turn e ver c n a
      → Next (plain n look) (Fitting m size) standing e c (on_reply a Nothing (λ x. Found x.placed))
  unfolding plain on_reply past sort
  next_of e c f Nothing q (over h) = nothing (ap sort h)
  next_of e c f (Found x) q (met a b p r s l g v) =
      found (ap sort p ∙ sort-put e a x.placed b s ∙ ap (put e x.placed) (ap sort (sym r) ∙ stood))
      (rw (← stood, r) (all-sort _ (a ++ b) s))
      (rw q (still-fits m size c f x.source (omega arith) g e))
    where
      stood : sort (gather n (window ver (past e (Found x) c))) ≡ standing ((plain n look).pop e c)
      stood = ap (λ y. sort (gather n (window ver (past e y c)))) (sym q)
  next_of e c f Torn q x'' = elim x'' [ ]

  pub plain-gives : Gives (plain n look) (Fitting m size) standing
  unfolding plain
  plain-gives = record {
    next = λ e c f. next_of e c f (ahead n e look c) refl (turn n look ver size opened c (narrow n m size c few f) e);
    count = λ c f. sym (length-sort _ ∙ left_is ver c n);
  }
