-- What leads once a leader is passed, on any bytes: without a twin, its own source's next record if that has its key; with one, its own source's next record or another source's of the same key, since nothing stands between two versions of a key.
use native.Mathlib.Omega.{arith}
use mathlib.Core.Bool.{Bool, true, false}
use mathlib.Core.Option.{Option}
use mathlib.Core.Path.{refl, sym, ap, subst, ◌≡◌, ◌∙◌}
use Prim.Native.Nat.{ℕ, zero, suc, ◌≤◌, ◌<◌}
use Rattle.list.specs.Pick.{pick}
use Rattle.list.proofs.Strict.{Three, eq, gt, lt, three}
use Rattle.list.proofs.Tests.{never}
use Rattle.merge.specs.Placed.{Placed, same_key}
use Rattle.merge.specs.Merge.{Reply, Nothing, Found, Torn}
use Rattle.merge.specs.Plain.{Ends, Head, next, sooner, choose, ahead, pass}
use Rattle.merge.specs.Private.{twin_of, twins}
use Rattle.merge.specs.declared.ends.End.{End}
use Rattle.merge.specs.declared.ends.End.TheVariants.{Back, Front}
use Rattle.merge.proofs.Order.{by_key, by-seqno, by-list, before-true, before-false, same-key-true, same-flip}
use Rattle.merge.proofs.Lists.{Sooner}
use Rattle.merge.proofs.Lead.{Other, another, Apart, differ, differs, Behind, none-there, behind, Lead, leads, lead, next_of}
use Rattle.merge.proofs.Replies.{found-found, nothing-found, torn-found}
use Rattle.merge.proofs.Shrinks.{next-other}

sooner-yes : (e : End) (x y : Placed) → Sooner e x y → sooner e x y ≡ true
unfolding sooner
sooner-yes Front x y h = before-true x y h
sooner-yes Back x y h = before-true y x h

sooner-no : (e : End) (x y : Placed) → Sooner e x y → sooner e y x ≡ false
unfolding sooner
sooner-no Front x y h = before-false y x h
sooner-no Back x y h = before-false x y h

-- a version of x's key stands to other keys as x does
in-its-place : (e : End) (x y z : Placed) → x.version.key ≡ y.version.key → Other x z → Sooner e x z → Sooner e y z
in-its-place Front x y z q d (by_key p) = by_key (rw (← q) p)
in-its-place Front x y z q d (by-seqno p h) = absurd (d p)
in-its-place Front x y z q d (by-list p g h) = absurd (d p)
in-its-place Back x y z q d (by_key p) = by_key (rw (← q) p)
in-its-place Back x y z q d (by-seqno p h) = absurd (d (sym p))
in-its-place Back x y z q d (by-list p g h) = absurd (d (sym p))

-- a source's record that stands before all others' next, which have other keys, leads alone
module _ (n : ℕ) (e : End) (look : ℕ → ℕ → Option Placed) (c : Ends) (y : Head) (l : y.source < n) (m : next e look c y.source ≡ Found y)
    (others : (j : ℕ) → j < n → (j ≡ y.source → ⊥) → Behind e y false (next e look c j)) where
  -- the best of k sources, and whether it has a twin
  data Upto (k : ℕ) : Bool → Reply Head → Type 0 where
    nothing_yet : {u : Bool} → k ≤ y.source → Upto k u Nothing
    not_yet : {u : Bool} {z : Head} → k ≤ y.source → Sooner e y.placed z.placed → same_key y.placed z.placed ≡ false → Upto k u (Found z)
    from-now : y.source < k → Upto k false (Found y)

  before-it : (k : ℕ) → k < y.source → (u : Bool) (s v : Reply Head) → Upto k u s → Behind e y false v → Upto (suc k) (twin_of e u s v) (choose e s v)
  unfolding choose
  before-it k i u Nothing Nothing (nothing_yet h) none-there = nothing_yet (omega arith)
  before-it k i u Nothing (Found z) (nothing_yet h) (behind a b) = not_yet {z = z} (omega arith) a (b refl)
  before-it k i u (Found w) Nothing (not_yet h a b) none-there = not_yet {z = w} (omega arith) a b
  before-it k i u (Found w) (Found z) (not_yet h a b) (behind f g) = go (sooner e z.placed w.placed)
    where
      go : (r : Bool) → Upto (suc k) (twin_of e u (Found w) (Found z)) (pick r (Found z) (Found w))
      go true = unfold pick in not_yet {z = z} (omega arith) f (g refl)
      go false = unfold pick in not_yet {z = w} (omega arith) a b
  before-it k i u (Found w) v (from-now h) b = absurd (omega arith)
  before-it k i u Nothing Torn _ b = elim b [ ]
  before-it k i u (Found w) Torn (not_yet h a b) x9 = elim x9 [ ]
  before-it k i u Torn v x4 b = elim x4 [ ]

  at-it : (u : Bool) (s : Reply Head) → Upto y.source u s → Upto (suc y.source) (twin_of e u s (Found y)) (choose e s (Found y))
  unfolding choose twin_of
  at-it u Nothing (nothing_yet h) = from-now (omega arith)
  at-it u (Found w) (not_yet h a b) = rw (sooner-yes e y.placed w.placed a) (unfold pick in rw (same-flip w.placed y.placed ∙ b) (from-now (omega arith)))
  at-it u (Found w) (from-now h) = absurd (omega arith)
  at-it u Torn x' = elim x' [ ]

  past-it : (k : ℕ) → y.source < k → (u : Bool) (s v : Reply Head) → Upto k u s → Behind e y false v → Upto (suc k) (twin_of e u s v) (choose e s v)
  unfolding choose twin_of
  past-it k i u Nothing v (nothing_yet h) b = absurd (omega arith)
  past-it k i u (Found w) v (not_yet h a f) b = absurd (omega arith)
  past-it k i u (Found w) Nothing (from-now h) none-there = from-now (omega arith)
  past-it k i u (Found w) (Found z) (from-now h) (behind a b) = rw (sooner-no e y.placed z.placed a) (unfold pick in rw (b refl) (from-now (omega arith)))
  past-it k i _ (Found _) Torn (from-now h) b = elim b [ ]
  past-it k i u Torn v x3 b = elim x3 [ ]

  upto : (k : ℕ) → k ≤ n → Upto k (twins k e look c) (ahead k e look c)
  unfolding ahead twins
  upto zero h = nothing_yet (omega arith)
  upto (suc k) h = go (three k y.source) (upto k (omega arith))
    where
      go : Three k y.source → Upto k (twins k e look c) (ahead k e look c) → Upto (suc k) (twin_of e (twins k e look c) (ahead k e look c) (next e look c k)) (choose e (ahead k e look c) (next e look c k))
      go (lt i) t = before-it k i _ _ _ t (others k (omega arith) (λ q. omega arith))
      go (eq i) t = rw (i, m) (at-it _ _ (rw i at t))
      go (gt i) t = past-it k i _ _ _ t (others k (omega arith) (λ q. omega arith))

  leads-alone : (ahead n e look c ≡ Found y) × (twins n e look c ≡ false)
  leads-alone = go (twins n e look c) (ahead n e look c) refl refl (upto n (omega arith))
    where
      go : (u : Bool) (s : Reply Head) → twins n e look c ≡ u → ahead n e look c ≡ s → Upto n u s → (ahead n e look c ≡ Found y) × (twins n e look c ≡ false)
      go u Nothing p q (nothing_yet h) = absurd (omega arith)
      go u (Found z) p q (not_yet h a b) = absurd (omega arith)
      go u (Found z) p q (from-now h) = (q, p)
      go u Torn p q x3 = elim x3 [ ]

-- another source has x's key next
record Paired (n : ℕ) (e : End) (look : ℕ → ℕ → Option Placed) (c : Ends) (x : Head) : Type 0 where
  from : ℕ
  twin : Head
  there : from < n
  elsewhere : from ≡ x.source → ⊥
  next-is : next e look c from ≡ Found twin
  one_key : same_key x.placed twin.placed ≡ true

module _ (e : End) (look : ℕ → ℕ → Option Placed) (apart : Apart look) (c : Ends) where
  led : (n : ℕ) (x : Head) → ahead n e look c ≡ Found x → Lead n e look c (twins n e look c) (Found x)
  led n x q = subst (Lead n e look c (twins n e look c)) q (lead n e look apart c)

  one_more : (n : ℕ) (x : Head) → Paired n e look c x → Paired (suc n) e look c x
  one_more n x p = record { from = p.from; twin = p.twin; there = omega (arith, p.there); elsewhere = p.elsewhere; next-is = p.next-is; one_key = p.one_key }

  paired : (n : ℕ) (x : Head) → ahead n e look c ≡ Found x → twins n e look c ≡ true → Paired n e look c x
  unfolding ahead twins choose twin_of pick
  paired zero x q t = nothing-found q
  paired (suc n) x q t = go (λ a b. paired n x a b) (ahead n e look c) (next e look c n) refl refl q t
    where
      go : (ahead n e look c ≡ Found x → twins n e look c ≡ true → Paired n e look c x) → (s v : Reply Head) → ahead n e look c ≡ s → next e look c n ≡ v → choose e s v ≡ Found x → twin_of e (twins n e look c) s v ≡ true → Paired (suc n) e look c x
      go ih Nothing Nothing a b f g = nothing-found f
      go ih Nothing (Found y) a b f g = never (sym g)
      go ih Nothing Torn a b f g = torn-found f
      go ih Torn Nothing a b f g = torn-found f
      go ih Torn (Found y) a b f g = torn-found f
      go ih Torn Torn a b f g = torn-found f
      go ih (Found w) Nothing a b f g = one_more n x (ih (a ∙ f) g)
      go ih (Found w) Torn a b f g = torn-found f
      go ih (Found w) (Found y) a b f g = by (sooner e y.placed w.placed) f g
        where
          here : y.source ≡ n
          here = (next_of e look c n y b).of-source

          first : Lead n e look c (twins n e look c) (Found w) → w.source < n
          first (leads l m h) = l

          there-too : Lead n e look c (twins n e look c) (Found w) → next e look c w.source ≡ Found w
          there-too (leads l m h) = m

          by : (r : Bool) → pick r (Found y) (Found w) ≡ Found x → pick r (same_key w.placed y.placed) (pick (same_key w.placed y.placed) true (twins n e look c)) ≡ true → Paired (suc n) e look c x
          by true f g =
              let z : y ≡ x = found-found f in
              let i : w.source < n = first (led n w a) in
              rw (← z) (record { from = w.source; twin = w; there = omega arith; elsewhere = λ k. omega (arith, here); next-is = there-too (led n w a); one_key = same-flip y.placed w.placed ∙ g })
          by false f g = again (same_key w.placed y.placed) refl g
            where
              again : (r : Bool) → same_key w.placed y.placed ≡ r → pick r true (twins n e look c) ≡ true → Paired (suc n) e look c x
              again true p g =
                  let i : w.source < n = first (led n w a) in
                  rw (← found-found f) (record { from = n; twin = y; there = omega arith; elsewhere = λ k. omega arith; next-is = b; one_key = p })
              again false p g = one_more n x (ih (a ∙ f) g)

  module _ (n : ℕ) (x : Head) (q : ahead n e look c ≡ Found x) where
    -- no twin: the source itself goes on with its key
    pub own-next : twins n e look c ≡ false → (y : Head) → next e look (pass e c x.source) x.source ≡ Found y → same_key x.placed y.placed ≡ true
        → (ahead n e look (pass e c x.source) ≡ Found y) × (twins n e look (pass e c x.source) ≡ false)
    own-next t y m k = go (led n x q)
      where
        same : y.source ≡ x.source
        same = (next_of e look (pass e c x.source) x.source y m).of-source

        then : (s : Reply Head) → Behind e x (twins n e look c) s → Behind e y false s
        then Nothing none-there = none-there
        then (Found z) (behind a b) =
            let d : Other x.placed z.placed = differ x.placed z.placed (b t) in
            let o : x.placed.version.key ≡ y.placed.version.key = same-key-true x.placed y.placed k in
            behind (in-its-place e x.placed y.placed z.placed o d a) (λ _. differs y.placed z.placed (λ w. d (o ∙ w)))
        then Torn x'' = elim x'' [ ]

        go : Lead n e look c (twins n e look c) (Found x) → (ahead n e look (pass e c x.source) ≡ Found y) × (twins n e look (pass e c x.source) ≡ false)
        go (leads l f h) = leads-alone n e look (pass e c x.source) y (rw same l) (ap (next e look (pass e c x.source)) same ∙ m)
            (λ j i d. rw (next-other e look c x.source j (λ w. d (w ∙ sym same))) (then _ (h j i (λ w. d (w ∙ sym same)))))

    -- a twin: if another source leads now, then by a record of the same key
    pub twin-next : twins n e look c ≡ true → (y : Head) → ahead n e look (pass e c x.source) ≡ Found y → (y.source ≡ x.source → ⊥) → x.placed.version.key ≡ y.placed.version.key
    twin-next t y p d = go (led n x q) (subst (Lead n e look (pass e c x.source) (twins n e look (pass e c x.source))) p (lead n e look apart (pass e c x.source)))
      where
        o : Paired n e look c x
        o = paired n x q t

        key : x.placed.version.key ≡ o.twin.placed.version.key
        key = same-key-true x.placed o.twin.placed o.one_key

        go : Lead n e look c (twins n e look c) (Found x) → Lead n e look (pass e c x.source) (twins n e look (pass e c x.source)) (Found y) → x.placed.version.key ≡ y.placed.version.key
        go (leads l m h) (leads i f g) = by (three o.from y.source)
          where
            at_y : next e look c y.source ≡ Found y
            at_y = sym (next-other e look c x.source y.source d) ∙ f

            behind-x : (s : Reply Head) → s ≡ Found y → Behind e x (twins n e look c) s → Sooner e x.placed y.placed
            behind-x Nothing w none-there = nothing-found w
            behind-x (Found z) w (behind a b) = subst (λ v. Sooner e x.placed v.placed) (found-found w) a
            behind-x Torn w x10 = elim x10 [ ]

            before-twin : (s : Reply Head) → s ≡ Found o.twin → Behind e y (twins n e look (pass e c x.source)) s → Sooner e y.placed o.twin.placed
            before-twin Nothing w none-there = nothing-found w
            before-twin (Found z) w (behind a b) = subst (λ v. Sooner e y.placed v.placed) (found-found w) a
            before-twin Torn w x10 = elim x10 [ ]

            between : (o.from ≡ y.source → ⊥) → x.placed.version.key ≡ y.placed.version.key
            between w = decide (same_key x.placed y.placed) refl
              where
                decide : (r : Bool) → same_key x.placed y.placed ≡ r → x.placed.version.key ≡ y.placed.version.key
                decide true a = same-key-true x.placed y.placed a
                decide false a = absurd (another e x.placed y.placed o.twin.placed (differ x.placed y.placed a)
                    (behind-x _ at_y (h y.source i d))
                    (before-twin _ (next-other e look c x.source o.from o.elsewhere ∙ o.next-is) (g o.from o.there w)) key)

            by : Three o.from y.source → x.placed.version.key ≡ y.placed.version.key
            by (lt w) = between (λ v. omega arith)
            by (gt w) = between (λ v. omega arith)
            by (eq w) = key ∙ ap (λ (v : Head). v.placed.version.key) (found-found (sym o.next-is ∙ ap (next e look c) w ∙ at_y))
