-- Of a key whose verdicts are all keep, exactly the versions below T that are not its newest are reported: the loop stands in a tail exactly where the version is below T and what was passed holds a newer one.
use Prim.Native.Nat.{ℕ, zero, suc, ◌≤◌, ◌<◌}
use mathlib.Core.Path.{◌≡◌, refl, sym, ap, ◌∙◌, subst}
use mathlib.Core.List.{List, [], ◌∷◌, flat_map}
use mathlib.Core.Bool.{Bool, true, false, ◌&&◌, not, and-false, and-true, and_assoc}
use native.Mathlib.Omega.{arith}
use borrow.Author.Tests.{lt-ltb, le-ltb}
use lib.Dec.{ltb}
use lib.ListN.{length, get_or}
use Rattle.list.specs.Order.{compare}
use Rattle.list.specs.Version.{Version, Above, InOrder}
use Rattle.list.specs.PointRead.{of_key}
use Rattle.std.specs.declared.cmp.Ordering.TheVariants.{Less}
use Rattle.compaction.specs.declared.stream.Job.{Job}
use Rattle.compaction.specs.Fate.{Fate, WithVerdict, Keep, below, fates, histories}
use Rattle.compaction.specs.Read.{is_newest, droppable}
use Rattle.list.proofs.Neighbours.{Next, same, other, near, far}
use Rattle.list.proofs.OfKey.{is_key, above-key, under-key}
use Rattle.list.proofs.Strict.{compare-trans}
use Rattle.compaction.proofs.Loop.{loop-is}
use Rattle.compaction.proofs.Kept.{versions, told, gone, not-dropped, unreported}
use Rattle.compaction.proofs.AllKeep.{Holds, keep-here, keep-on}
use Rattle.compaction.proofs.Run.{Run, tail-ends, tail-on, tail-over, head-ends, head-over, head_tail, head-on, drop-on, Headed, stays, leaves_none, is-dropped, run}

-- w is a newer version of v's key
abbrev pub newer : Version → Version → Bool
newer v w = of_key v.key w && ltb v.seqno w.seqno

is-newer : (v w : Version) → v.key ≡ w.key → v.seqno < w.seqno → newer v w ≡ true
is-newer v w e h = simp (is_key v.key w e, lt-ltb _ _ h)

not-newer : (v w : Version) → w.seqno ≤ v.seqno → newer v w ≡ false
not-newer v w h = simp (le-ltb _ _ h, and-false)

not-newer-above : (v w : Version) → compare v.key w.key ≡ Less → newer v w ≡ false
not-newer-above v w e = simp (above-key v.key w e)

not-newer-under : (v w : Version) → compare w.key v.key ≡ Less → newer v w ≡ false
not-newer-under v w e = simp (under-key v.key w e)

-- x at or before w
data Upto (x w : Version) : Type 0 where
  here : x.key ≡ w.key → w.seqno ≤ x.seqno → Upto x w
  past : compare x.key w.key ≡ Less → Upto x w

step : (x v w : Version) → Upto x v → Next v w → Upto x w
step x v w (here e h) (same f g) = here (e ∙ f) (omega arith)
step x v w (here e h) (other f) = past (rw e f)
step x v w (past e) (same f g) = past (rw f at e)
step x v w (past e) (other f) = past (compare-trans _ _ _ e f)

not-newer-upto : (x w : Version) → Upto x w → newer x w ≡ false
not-newer-upto x w (here e h) = not-newer x w h
not-newer-upto x w (past e) = not-newer-above x w e

none-newer : (x v : Version) (vs : List Version) → Upto x v → Above v vs → is_newest (v ∷ vs) x ≡ true
unfolding is_newest
none-newer x v [] u r = simp (not-newer-upto x v u)
none-newer x v (w ∷ ws) u r = simp (not-newer-upto x v u) (none-newer x w ws (step x v w u (near v w ws r)) (far v w ws r))

-- where the loop stands, q x saying that nothing already passed is newer than x
data Stand (j : Job) (q : Version → Bool) (v : Version) : Bool → Type 0 where
  in_tail : q v ≡ false → v.seqno < j.threshold → Stand j q v true
  first : q v ≡ true → Stand j q v false
  high : j.threshold ≤ v.seqno → Stand j q v false

-- q after v is passed
abbrev after : (Version → Bool) → Version → Version → Bool
after q v x = q x && not (newer x v)

-- one record
now-so : (j : Job) (us : List Version) (t : Bool) (v : Version) (vs : List Version) (q : Version → Bool)
    → Above v vs → is_newest us v ≡ q v && is_newest (v ∷ vs) v → Stand j q v t → droppable j us v ≡ t
unfolding droppable below
now-so j us t v vs q r e s = go s
  where
    n : is_newest us v ≡ q v
    n = e ∙ ap (λ (b : Bool). q v && b) (none-newer v v vs (here refl (omega arith)) r) ∙ and-true (q v)

    go : {t : Bool} → Stand j q v t → droppable j us v ≡ t
    go (in_tail a h) = simp (n, a, lt-ltb _ _ h)
    go (first a) = simp (n, a, and-false)
    go (high h) = simp (le-ltb _ _ h)

head-so : {j : Job} {a : WithVerdict} {f : Fate} → a.verdict ≡ Keep → Headed j a f → told f ≡ false
head-so {a = a} k (stays q) = unreported a k q
head-so {a = a} k (leaves_none q t) = unreported a k q
head-so {a = a} k (is-dropped d) = not-dropped a k d

stands-below : {j : Job} {q : Version → Bool} {v : Version} → Stand j q v true → v.seqno < j.threshold
stands-below (in_tail a h) = h

-- what holds of q when v is passed and w is next
module _ (us : List Version) (q : Version → Bool) (v w : Version) (ws : List Version) where
  still-all : ((x : Version) → is_newest us x ≡ q x && is_newest (v ∷ w ∷ ws) x) → (x : Version) → is_newest us x ≡ after q v x && is_newest (w ∷ ws) x
  unfolding is_newest
  still-all e x = e x ∙ sym (and_assoc (q x) (not (newer x v)) (is_newest (w ∷ ws) x))

  still-keys : Next v w → ((x : Version) → compare v.key x.key ≡ Less → q x ≡ true)
      → (x : Version) → compare w.key x.key ≡ Less → after q v x ≡ true
  still-keys o k x c = go o
    where
      by : compare v.key x.key ≡ Less → after q v x ≡ true
      by d = simp (k x d, not-newer-under x v d)

      go : Next v w → after q v x ≡ true
      go (same f h) = by (rw f c)
      go (other f) = by (compare-trans _ _ _ f c)

  older-now : v.key ≡ w.key → w.seqno < v.seqno → after q v w ≡ false
  older-now f h = simp (is-newer w v (sym f) h, and-false)

  newest-now : compare v.key w.key ≡ Less → ((x : Version) → compare v.key x.key ≡ Less → q x ≡ true) → after q v w ≡ true
  newest-now f k = simp (k w f, not-newer-under w v f)

-- of each record of such a key: it is reported exactly if q says so
unfoldable pub Agrees : (List ℕ → Type 0) → (Version → Bool) → List Fate → List WithVerdict → Type 0
Agrees P q [] bs = Unit {0}
Agrees P q (f ∷ fs) [] = Unit {0}
Agrees P q (f ∷ fs) (a ∷ bs) = (P a.version.key → told f ≡ q a.version) × Agrees P q fs bs

module _ (j : Job) (us : List Version) (P : List ℕ → Type 0) where
  dropped-so : {t : Bool} {a : WithVerdict} {bs : List WithVerdict} {fs : List Fate} → Run j t a bs fs → (q : Version → Bool)
      → Above a.version (versions bs) → ((x : Version) → is_newest us x ≡ q x && is_newest (versions (a ∷ bs)) x)
      → ((x : Version) → compare a.version.key x.key ≡ Less → q x ≡ true) → Holds P (a ∷ bs)
      → (P a.version.key → Stand j q a.version t) → Agrees P (droppable j us) fs (a ∷ bs)
  unfolding Agrees
  dropped-so (tail-ends {a = a}) q o e k m s = (λ p. sym (now-so j us true a.version [] q o (e a.version) (s p)), tt)
  dropped-so (tail-on {a = a} {b = b} {bs = bs} f h r) q o e k m s = (
    λ p. sym (now-so j us true a.version (versions (b ∷ bs)) q o (e a.version) (s p)),
    dropped-so r (after q a.version) (far a.version b.version (versions bs) o) (still-all us q a.version b.version (versions bs) e)
        (still-keys us q a.version b.version (versions bs) (near a.version b.version (versions bs) o) k) (keep-on P a (b ∷ bs) m)
        (λ p. in_tail (older-now us q a.version b.version (versions bs) f h) (omega (arith, stands-below (s (subst P (sym f) p))))),
  )
  dropped-so (tail-over {a = a} {b = b} {bs = bs} f r) q o e k m s = (
    λ p. sym (now-so j us true a.version (versions (b ∷ bs)) q o (e a.version) (s p)),
    dropped-so r (after q a.version) (far a.version b.version (versions bs) o) (still-all us q a.version b.version (versions bs) e)
        (still-keys us q a.version b.version (versions bs) (near a.version b.version (versions bs) o) k) (keep-on P a (b ∷ bs) m)
        (λ p. first (newest-now us q a.version b.version (versions bs) f k)),
  )
  dropped-so (head-ends {a = a} g) q o e k m s = (λ p. head-so (keep-here P a [] m p) g ∙ sym (now-so j us false a.version [] q o (e a.version) (s p)), tt)
  dropped-so (head-over {a = a} {b = b} {bs = bs} g f r) q o e k m s = (
    λ p. head-so (keep-here P a (b ∷ bs) m p) g ∙ sym (now-so j us false a.version (versions (b ∷ bs)) q o (e a.version) (s p)),
    dropped-so r (after q a.version) (far a.version b.version (versions bs) o) (still-all us q a.version b.version (versions bs) e)
        (still-keys us q a.version b.version (versions bs) (near a.version b.version (versions bs) o) k) (keep-on P a (b ∷ bs) m)
        (λ p. first (newest-now us q a.version b.version (versions bs) f k)),
  )
  dropped-so (head_tail {a = a} {b = b} {bs = bs} g f h l r) q o e k m s = (
    λ p. head-so (keep-here P a (b ∷ bs) m p) g ∙ sym (now-so j us false a.version (versions (b ∷ bs)) q o (e a.version) (s p)),
    dropped-so r (after q a.version) (far a.version b.version (versions bs) o) (still-all us q a.version b.version (versions bs) e)
        (still-keys us q a.version b.version (versions bs) (near a.version b.version (versions bs) o) k) (keep-on P a (b ∷ bs) m)
        (λ p. in_tail (older-now us q a.version b.version (versions bs) f h) l),
  )
  dropped-so (head-on {a = a} {b = b} {bs = bs} g f h l r) q o e k m s = (
    λ p. unreported a (keep-here P a (b ∷ bs) m p) g ∙ sym (now-so j us false a.version (versions (b ∷ bs)) q o (e a.version) (s p)),
    dropped-so r (after q a.version) (far a.version b.version (versions bs) o) (still-all us q a.version b.version (versions bs) e)
        (still-keys us q a.version b.version (versions bs) (near a.version b.version (versions bs) o) k) (keep-on P a (b ∷ bs) m) (λ p. high l),
  )
  dropped-so (drop-on {a = a} {b = b} {bs = bs} d f h r) q o e k m s = (
    λ p. not-dropped a (keep-here P a (b ∷ bs) m p) d,
    dropped-so r (after q a.version) (far a.version b.version (versions bs) o) (still-all us q a.version b.version (versions bs) e)
        (still-keys us q a.version b.version (versions bs) (near a.version b.version (versions bs) o) k) (keep-on P a (b ∷ bs) m)
        (λ p. not-dropped a (keep-here P a (b ∷ bs) m (subst P (sym f) p)) d),
  )

-- Of the records of a key whose verdicts are all keep, exactly those below T that are not their key's newest are reported.
pub reported-exactly : (j : Job) (P : List ℕ → Type 0) (bs : List WithVerdict) → InOrder (versions bs) → Holds P bs → Agrees P (droppable j (versions bs)) (fates j bs) bs
unfolding fates histories flat_map InOrder Agrees
reported-exactly j P [] o m = tt
reported-exactly j P (a ∷ bs) o m = rw (← (loop-is j a bs))
    (dropped-so j (versions (a ∷ bs)) P (run j false a bs o) (λ x. true) o (λ x. refl) (λ x c. refl) m (λ p. first refl))

-- that of record n
pub agrees_at : (P : List ℕ → Type 0) (q : Version → Bool) (fs : List Fate) (bs : List WithVerdict) → length fs ≡ length bs → Agrees P q fs bs
    → (z : Version) (n : ℕ) → n < length bs → P (get_or (versions bs) n z).key → told (get_or fs n (gone false)) ≡ q (get_or (versions bs) n z)
unfolding Agrees
agrees_at P q [] [] e m z n l p = absurd (omega arith)
agrees_at P q [] (a ∷ bs) e m z n l p = absurd (omega arith)
agrees_at P q (f ∷ fs) [] e m z n l p = absurd (omega arith)
agrees_at P q (f ∷ fs) (a ∷ bs) e m z zero l p = m.0 p
agrees_at P q (f ∷ fs) (a ∷ bs) e m z (suc n) l p = agrees_at P q fs bs (omega arith) m.1 z n (omega arith) p
