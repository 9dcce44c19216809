-- A source with nothing left changes no choice, and a record that isn't whole spoils all that are made after it, by cases on what was chosen before.
use native.Mathlib.Omega.{arith}
use mathlib.Core.Bool.{Bool, false}
use mathlib.Core.Path.{refl, ◌≡◌}
use mathlib.Core.Option.{Option}
use Prim.Native.Nat.{ℕ, zero, suc, ◌<◌}
use Rattle.list.proofs.Strict.{Three, eq, gt, lt, three}
use Rattle.merge.specs.Placed.{Placed}
use Rattle.merge.specs.Merge.{Reply, Nothing, Found, Torn}
use Rattle.merge.specs.Plain.{Ends, Head, next, choose, ahead}
use Rattle.merge.specs.Private.{twin_of, twins}
use Rattle.merge.specs.declared.ends.End.{End}

choose-torn : (e : End) (s : Reply Head) → choose e s Torn ≡ Torn
unfolding choose
choose-torn e Nothing = refl
choose-torn e (Found x) = refl
choose-torn e Torn = refl

pub choose-nothing : (e : End) (s : Reply Head) → choose e s Nothing ≡ s
unfolding choose
choose-nothing e Nothing = refl
choose-nothing e (Found x) = refl
choose-nothing e Torn = refl

pub twin-nothing : (e : End) (t : Bool) (s : Reply Head) → twin_of e t s Nothing ≡ t
unfolding twin_of
twin-nothing e t Nothing = refl
twin-nothing e t (Found x) = refl
twin-nothing e t Torn = refl

twin-torn : (e : End) (t : Bool) (s : Reply Head) → twin_of e t s Torn ≡ false
unfolding twin_of
twin-torn e t Nothing = refl
twin-torn e t (Found x) = refl
twin-torn e t Torn = refl

no-twin : (e : End) (v : Reply Head) → twin_of e false Torn v ≡ false
unfolding twin_of
no-twin e Nothing = refl
no-twin e (Found x) = refl
no-twin e Torn = refl

pub torn-from : (e : End) (look : ℕ → ℕ → Option Placed) (c : Ends) (k : ℕ) → next e look c k ≡ Torn → (m : ℕ) → k < m → (ahead m e look c ≡ Torn) × (twins m e look c ≡ false)
unfolding ahead twins choose
torn-from e look c k h zero l = absurd (omega arith)
torn-from e look c k h (suc m) l = go (three k m) (torn-from e look c k h m)
  where
    go : Three k m → (k < m → (ahead m e look c ≡ Torn) × (twins m e look c ≡ false))
        → (choose e (ahead m e look c) (next e look c m) ≡ Torn) × (twin_of e (twins m e look c) (ahead m e look c) (next e look c m) ≡ false)
    go (lt i) ih = let z = ih i in (rw z.0, rw (z.0, z.1) (no-twin e (next e look c m)))
    go (eq i) ih =
        let z : next e look c m ≡ Torn = rw (← i) h in
        (rw z (choose-torn e (ahead m e look c)), rw z (twin-torn e (twins m e look c) (ahead m e look c)))
    go (gt i) ih = absurd (omega arith)
