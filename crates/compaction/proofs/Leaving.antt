-- The output is in strict order: what is put out after p is of a greater key, or of p's key with a lower seqno, and then zeroing did not touch p.
use Prim.Native.Nat.{ℕ, ◌≤◌, ◌<◌}
use mathlib.Core.Path.{◌≡◌, sym, ◌∙◌, subst}
use mathlib.Core.List.{List, [], ◌∷◌, flat_map, filter_map}
use mathlib.Core.Bool.{Bool, true, false}
use mathlib.Core.Option.{Option-elim}
use native.Mathlib.Omega.{arith}
use Rattle.list.specs.Order.{compare}
use Rattle.list.specs.Version.{Version, with_seqno, ordered, Above, InOrder}
use Rattle.std.specs.declared.cmp.Ordering.TheVariants.{Less}
use Rattle.compaction.specs.declared.stream.Job.{Job}
use Rattle.compaction.specs.Fate.{Fate, WithVerdict, leave, fates, histories}
use Rattle.compaction.specs.Compact.{compacted}
use Rattle.compaction.proofs.Kept.{leave_low, leave_same, versions, output, item}
use Rattle.list.proofs.Strict.{compare-trans}
use Rattle.list.proofs.Neighbours.{key-before, seqno-before}
use Rattle.compaction.proofs.Loop.{loop-is}
use Rattle.compaction.proofs.Run.{Run, tail-ends, tail-on, tail-over, head-ends, head-over, head_tail, head-on, drop-on, stays, leaves_none, is-dropped, run}

-- p, the last that was put out, and the key and the seqno of the version that is looked at
data After (p : Version) (k : List ℕ) (n : ℕ) : Bool → Type 0 where
  greater : {t : Bool} → compare p.key k ≡ Less → After p k n t
  tailed : p.key ≡ k → After p k n true
  above : p.key ≡ k → n < p.seqno → After p k n false

module _ (j : Job) where
  out-before : (p v : Version) → After p v.key v.seqno false → ordered p (leave j v) ≡ Less
  out-before p v (greater c) = key-before p (leave j v) (unfold leave with_seqno in c)
  out-before p v (above e h) = seqno-before p (leave j v) (unfold leave with_seqno in e) (omega (arith, leave_low j v))

  -- to the next version, of the same key and in the tail, or of the same key after one that was dropped, or of another key
  to-tail : {p : Version} {k l : List ℕ} {m n : ℕ} {t : Bool} → After p k m t → k ≡ l → After p l n true
  to-tail (greater c) e = greater (rw e at c)
  to-tail (tailed f) e = tailed (f ∙ e)
  to-tail (above f h) e = tailed (f ∙ e)

  to-next : {p : Version} {k l : List ℕ} {m n : ℕ} → After p k m false → k ≡ l → n < m → After p l n false
  to-next (greater c) e h = greater (rw e at c)
  to-next (above f g) e h = above (f ∙ e) (omega arith)

  to-other : {p : Version} {k l : List ℕ} {m n : ℕ} {t : Bool} → After p k m t → compare k l ≡ Less → After p l n false
  to-other (greater c) g = greater (compare-trans _ _ _ c g)
  to-other (tailed e) g = greater (rw e g)
  to-other (above e h) g = greater (rw e g)

  -- the same from v itself, put out
  from_tail : (v w : Version) → v.key ≡ w.key → After (leave j v) w.key w.seqno true
  unfolding leave with_seqno
  from_tail v w e = tailed e

  from-other : (v w : Version) → compare v.key w.key ≡ Less → After (leave j v) w.key w.seqno false
  unfolding leave with_seqno
  from-other v w g = greater g

  from_on : (v w : Version) → v.key ≡ w.key → w.seqno < v.seqno → j.threshold ≤ w.seqno → After (leave j v) w.key w.seqno false
  from_on v w e h b = subst (λ (y : Version). After y w.key w.seqno false) (sym (leave_same j v (omega arith))) (above e h)

  rises : {t : Bool} {a : WithVerdict} {bs : List WithVerdict} {fs : List Fate} → Run j t a bs fs → (p : Version) → After p a.version.key a.version.seqno t → Above p (output fs)
  unfolding filter_map Option-elim Above
  rises tail-ends p x = tt
  rises (tail-on f h r) p x = rises r p (to-tail x f)
  rises (tail-over f r) p x = rises r p (to-other x f)
  rises (head-ends {a = a} (stays {kind = kind} {value = value} q)) p x = (out-before p (item a kind value) x, tt)
  rises (head-ends (leaves_none q z)) p x = tt
  rises (head-ends (is-dropped d)) p x = tt
  rises (head-over {a = a} {b = b} (stays {kind = kind} {value = value} q) g r) p x =
      (out-before p (item a kind value) x, rises r (leave j (item a kind value)) (from-other (item a kind value) b.version g))
  rises (head-over (leaves_none q z) g r) p x = rises r p (to-other x g)
  rises (head-over (is-dropped d) g r) p x = rises r p (to-other x g)
  rises (head_tail {a = a} {b = b} (stays {kind = kind} {value = value} q) g h l r) p x =
      (out-before p (item a kind value) x, rises r (leave j (item a kind value)) (from_tail (item a kind value) b.version g))
  rises (head_tail (leaves_none q z) g h l r) p x = rises r p (to-tail x g)
  rises (head_tail (is-dropped d) g h l r) p x = rises r p (to-tail x g)
  rises (head-on {kind = kind} {value = value} {a = a} {b = b} q g h l r) p x =
      (out-before p (item a kind value) x, rises r (leave j (item a kind value)) (from_on (item a kind value) b.version g h l))
  rises (drop-on d g h r) p x = rises r p (to-next x g h)

  starts : {t : Bool} {a : WithVerdict} {bs : List WithVerdict} {fs : List Fate} → Run j t a bs fs → InOrder (output fs)
  unfolding filter_map Option-elim InOrder Above
  starts tail-ends = tt
  starts (tail-on f h r) = starts r
  starts (tail-over f r) = starts r
  starts (head-ends (stays q)) = tt
  starts (head-ends (leaves_none q z)) = tt
  starts (head-ends (is-dropped d)) = tt
  starts (head-over {a = a} {b = b} (stays {kind = kind} {value = value} q) g r) = rises r (leave j (item a kind value)) (from-other (item a kind value) b.version g)
  starts (head-over (leaves_none q z) g r) = starts r
  starts (head-over (is-dropped d) g r) = starts r
  starts (head_tail {a = a} {b = b} (stays {kind = kind} {value = value} q) g h l r) = rises r (leave j (item a kind value)) (from_tail (item a kind value) b.version g)
  starts (head_tail (leaves_none q z) g h l r) = starts r
  starts (head_tail (is-dropped d) g h l r) = starts r
  starts (head-on {kind = kind} {value = value} {a = a} {b = b} q g h l r) = rises r (leave j (item a kind value)) (from_on (item a kind value) b.version g h l)
  starts (drop-on d g h r) = starts r

-- The output is in strict order again, with zeroing or without: a version below T that leaves is the last of its key to leave, since the tail follows it.
pub in_order : (j : Job) (bs : List WithVerdict) → InOrder (versions bs) → InOrder (compacted j bs)
unfolding compacted fates histories flat_map filter_map InOrder
in_order j [] o = tt
in_order j (a ∷ bs) o = rw (← (loop-is j a bs)) (starts j (run j false a bs o))
