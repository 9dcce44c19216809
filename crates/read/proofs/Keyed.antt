-- The turns of the code that drains a key: what each makes of the rest of the definition is what was left of it.
use Rattle.std.proofs.lemmas.Bool.{and_parts, and_right}
use native.Mathlib.Omega.{arith}
use mathlib.Core.List.{List}
use mathlib.Core.Bool.{Bool, true, false, ◌&&◌}
use borrow.Author.Tests.{eqb-false}
use mathlib.Core.Path.{refl, sym, ap, ap₂, ◌≡◌, ◌∙◌}
use Prim.Native.Nat.{ℕ, ◌≤◌, ◌<◌}
use Rattle.std.specs.Prelude.{Option, Some, None, Result, Ok, Err, is_some}
use Rattle.list.specs.Pick.{pick}
use Rattle.list.specs.Field.{words_in}
use Rattle.list.proofs.Tests.{never}
use Rattle.bundle.specs.Index.{count_at}
use Rattle.merge.specs.Placed.{Placed, same_key}
use Rattle.merge.specs.Merge.{Reply, Nothing, Found, Torn, on_reply}
use Rattle.merge.specs.Plain.{front_at, back_at, left, next, ahead, pass, plain}
use Rattle.merge.specs.declared.ends.Ends.{Ends}
use Rattle.merge.specs.Reader.{reader}
use Rattle.merge.specs.Private.{Fitting, has_twin, head_of, leader_of, placed_at, reply_of, twins}
use Rattle.merge.specs.declared.ends.End.{End}
use Rattle.merge.specs.declared.seen.Seen.{Seen}
use Rattle.merge.specs.declared.head.Torn as code
use Rattle.merge.specs.declared.plain.Best.{Best}
use Rattle.merge.proofs.Turn.{still-fits}
use Rattle.merge.proofs.Shrinks.{plain-shrinks, left_passed}
use Rattle.merge.proofs.Order.{same-key-true}
use Rattle.merge.proofs.Lead.{next_of}
use Rattle.merge.proofs.Followers.{own-next, twin-next}
use Rattle.merge.proofs.Looking.{reader-apart}
use Rattle.read.specs.Entries.{visible}
use Rattle.read.specs.Mvcc.{hold, counts, Entry, settle, drain}
use Rattle.read.specs.Private.{held_of, entry_at, is_asked, is_over, Led, Sure, Drains}
use Rattle.read.specs.declared.mvcc_stream.Drained.{Drained}
use Rattle.read.proofs.Draining.{turn-of, drain-turn}
use Rattle.read.proofs.Passing.{Else, no_more, other_key, held-key, still-counts, key_counts, passed-there, key-goes, key-ends, key-torn}

-- with none held
pub sure-none : (b lens t : List ℕ) (e : End) (c : Ends) (k : Option ℕ) → Sure b lens t e (held_of None) c k
unfolding Sure counts held_of
sure-none b lens t e c k x q i = refl

-- an entry that is held, or none, is how the key settles
settles-as : (c : Ends) (held : Option Seen) → reply_of (entry_at c) (Ok held) ≡ settle (held_of held) c
unfolding reply_of entry_at settle held_of
settles-as c None = refl
settles-as c (Some x) = refl

over-asked : (held : Option Seen) (k : ℕ) → is_over (record { held = held; asks = Some k }) ≡ false
unfolding is_over
over-asked held k = and_right (is_some held) false refl

module _ (b lens t : List ℕ) (e : End) (s : ℕ) (held : Option Seen) (c : Ends) (w : Reply (Entry Ends)) (fits : Fitting (words_in lens) (count_at b lens) c)
    (inv : drain (left (words_in lens) c) (plain (words_in lens) (reader b lens t)) e (visible s) (held_of held) c ≡ w)
    (h : Result (Option Best) code.Torn) (ahead-is : reply_of leader_of h ≡ ahead (words_in lens) e (reader b lens t) c) where
  turns : turn-of (plain (words_in lens) (reader b lens t)) (Fitting (words_in lens) (count_at b lens)) (plain-shrinks (words_in lens) (reader b lens t) (reader-apart b lens t) (words_in lens) (count_at b lens) (omega arith)) e (visible s) (held_of held) c ≡ w
  unfolding plain
  turns = sym (drain-turn (plain (words_in lens) (reader b lens t)) (Fitting (words_in lens) (count_at b lens)) (plain-shrinks (words_in lens) (reader b lens t) (reader-apart b lens t) (words_in lens) (count_at b lens) (omega arith)) e (visible s) (held_of held) c) ∙ inv

  -- no record is next
  pub turn-none : h ≡ Ok None → reply_of (entry_at c) (Ok held) ≡ w
  unfolding turn-of plain on_reply
  turn-none q =
      let z : ahead (words_in lens) e (reader b lens t) c ≡ Nothing = sym ahead-is ∙ (unfold reply_of in rw q) in
      settles-as c held ∙ (rw z at turns)

  -- a record isn't whole
  pub turn-torn : (why : code.Torn) → h ≡ Err why → Torn ≡ w
  unfolding turn-of plain on_reply reply_of
  turn-torn why q =
      let z : ahead (words_in lens) e (reader b lens t) c ≡ Torn = sym ahead-is ∙ rw q in
      rw z at turns

  module _ (best : Best) (q : h ≡ Ok (Some best)) where
    found-x : ahead (words_in lens) e (reader b lens t) c ≡ Found (head_of best.seen)
    unfolding reply_of leader_of
    found-x = sym ahead-is ∙ rw q

    -- the entry counts
    pub turn-counts : (k : Option ℕ) (r : Bool) → r ≡ (is_asked k best.seen.list && counts (held_of held) (placed_at best.seen)) → r ≡ true → reply_of (entry_at c) (Ok held) ≡ w
    unfolding head_of
    turn-counts k r f g =
        settles-as c held ∙ sym (key_counts (words_in lens) e (reader b lens t) (reader-apart b lens t) (count_at b lens) (visible s) (held_of held) c fits (head_of best.seen) found-x
        (and_parts (is_asked k best.seen.list) (counts (held_of held) (placed_at best.seen)) (sym f ∙ g)).1) ∙ inv

    -- it doesn't, so the record leads a key's rest
    pub turn-led : (k : Option ℕ) → Sure b lens t e (held_of held) c k
        → (r : Bool) → r ≡ (is_asked k best.seen.list && counts (held_of held) (placed_at best.seen)) → r ≡ false
        → has_twin h ≡ twins (words_in lens) e (reader b lens t) c → Led b lens t e c held best.seen best.twin
    unfolding has_twin
    turn-led k sure r f g v = record { fits = fits; leads = found-x; twin-is = rw q at v; of-key = go (is_asked k best.seen.list) refl (sym f ∙ g) }
      where
        go : (a : Bool) → is_asked k best.seen.list ≡ a → (a && counts (held_of held) (placed_at best.seen)) ≡ false → counts (held_of held) (placed_at best.seen) ≡ false
        go true q p = p
        go false q p = (unfold Sure head_of in sure (head_of best.seen) found-x q)

-- a key's rest, once records of it were passed
module _ (b lens t : List ℕ) (e : End) (s : ℕ) (held : Option Seen) (c : Ends) (w : Reply (Entry Ends))
    (inv : drain (left (words_in lens) c) (plain (words_in lens) (reader b lens t)) e (visible s) (held_of held) c ≡ w)
    (r : Drained) (d : Ends) (o : Drains b lens t e s held c r d) where
  pub rest_over : is_over r ≡ true → reply_of (entry_at d) (Ok r.held) ≡ w
  unfolding pick
  rest_over g =
      let z : settle (held_of r.held) d ≡ drain (left (words_in lens) c) (plain (words_in lens) (reader b lens t)) e (visible s) (held_of held) c = rw g at o.goes in
      settles-as d r.held ∙ z ∙ inv

  pub rest_goes : is_over r ≡ false → drain (left (words_in lens) d) (plain (words_in lens) (reader b lens t)) e (visible s) (held_of r.held) d ≡ w
  unfolding pick
  rest_goes g =
      let z : drain (left (words_in lens) d) (plain (words_in lens) (reader b lens t)) e (visible s) (held_of r.held) d
      ≡ drain (left (words_in lens) c) (plain (words_in lens) (reader b lens t)) e (visible s) (held_of held) c = rw g at o.goes in
      z ∙ inv

-- a key that is being drained, having come from the ends c₀ with h₀ to the ends c with what is held there: the record x of source k leads
pub record Turns (b lens t : List ℕ) (e : End) (s : ℕ) (h₀ : Option Seen) (c₀ : Ends) (held : Option Seen) (c : Ends) (x : Seen) (k : ℕ) (twin : Bool) : Type 0 where
  pub of-source : x.list ≡ k
  pub led : Led b lens t e c held x twin
  pub drains : drain (left (words_in lens) c) (plain (words_in lens) (reader b lens t)) e (visible s) (held_of held) c
      ≡ drain (left (words_in lens) c₀) (plain (words_in lens) (reader b lens t)) e (visible s) (held_of h₀) c₀
  pub fewer : left (words_in lens) c ≤ left (words_in lens) c₀

-- what is left of it once that record is passed
module _ {b lens t : List ℕ} {e : End} {s : ℕ} {h₀ : Option Seen} {c₀ : Ends} {held : Option Seen} {c : Ends} {x : Seen} {k : ℕ} {twin : Bool} (turns : Turns b lens t e s h₀ c₀ held c x k twin) where
  abbrev o : Led b lens t e c held x twin
  o = turns.led

  there : (x.list < words_in lens) × (front_at c x.list < back_at c x.list)
  unfolding head_of
  there = passed-there (words_in lens) e (reader b lens t) (reader-apart b lens t) (count_at b lens) (visible s) (held_of held) c o.fits (head_of x) o.leads

  pub led-there : (k < words_in lens) × (front_at c k < back_at c k)
  led-there = rw (← turns.of-source) there

  module _ (then : Option Seen) (holds : held_of then ≡ hold e (visible s) (held_of held) (placed_at x)) (d : Ends) (popped : d ≡ pass e c k) where
    passed : d ≡ pass e c x.list
    passed = popped ∙ ap (pass e c) (sym turns.of-source)

    pub led-fits : Fitting (words_in lens) (count_at b lens) d
    led-fits = rw passed (still-fits (words_in lens) (count_at b lens) c o.fits x.list there.0 there.1 e)

    pub led-goes : drain (left (words_in lens) d) (plain (words_in lens) (reader b lens t)) e (visible s) (held_of then) d
        ≡ drain (left (words_in lens) c₀) (plain (words_in lens) (reader b lens t)) e (visible s) (held_of h₀) c₀
    unfolding head_of
    led-goes = rw (passed, holds) (sym (key-goes (words_in lens) e (reader b lens t) (reader-apart b lens t) (count_at b lens) (visible s) (held_of held) c o.fits (head_of x) o.leads o.of-key) ∙ turns.drains)

    pub led-falls : left (words_in lens) d < left (words_in lens) c
    led-falls = rw passed (omega (arith, left_passed e c x.list (omega (arith, there.0, o.fits.front-room)) (omega (arith, there.0, o.fits.back-room)) there.1 (words_in lens) there.0))

    same-key-on : (y : Placed) → (placed_at x).version.key ≡ y.version.key → counts (held_of then) y ≡ false
    same-key-on y q = still-counts (held_of then) (placed_at x) y (λ p i. held-key e (visible s) (held_of held) (placed_at x) p (sym holds ∙ i) o.of-key) q

    -- another source has the key next
    pub led-twin : twin ≡ true → Drains b lens t e s h₀ c₀ (record { held = then; asks = Some k }) d
    led-twin f = record {
      fits = led-fits;
      falls = omega (arith, led-falls, turns.fewer);
      goes = unfold pick in rw (over-asked then k) led-goes;
      sure = λ _. unfold Sure is_asked in
          (λ y p i. same-key-on y.placed (unfold head_of in twin-next e (reader b lens t) (reader-apart b lens t) c (words_in lens) (head_of x) o.leads (sym o.twin-is ∙ f) y (rw (← passed) p) (λ w. eqb-false y.source k i (w ∙ turns.of-source))));
    }

    module _ (f : twin ≡ false) (h : Result (Option Seen) code.Torn) (read_as : reply_of head_of h ≡ next e (reader b lens t) d k) where
      no-twin : twins (words_in lens) e (reader b lens t) c ≡ false
      no-twin = sym o.twin-is ∙ f

      own : reply_of head_of h ≡ next e (reader b lens t) (pass e c x.list) x.list
      own = read_as ∙ ap₂ (next e (reader b lens t)) passed (sym turns.of-source)

      -- a record isn't whole
      pub led-torn : (why : code.Torn) → h ≡ Err why → drain (left (words_in lens) c₀) (plain (words_in lens) (reader b lens t)) e (visible s) (held_of h₀) c₀ ≡ Torn
      led-torn why q =
          let z : next e (reader b lens t) d k ≡ Torn = sym read_as ∙ (unfold reply_of in rw q) in
          sym led-goes ∙ key-torn (words_in lens) e (reader b lens t) (reader-apart b lens t) (count_at b lens) (visible s) (held_of then) d k z led-there.0

      -- the source has no more of the key: an entry counts
      over : (u : Option Seen) → then ≡ u → Else (placed_at x) (reply_of head_of h)
          → pick (is_over (record { held = u; asks = None })) (settle (held_of then) d) (drain (left (words_in lens) d) (plain (words_in lens) (reader b lens t)) e (visible s) (held_of then) d)
          ≡ drain (left (words_in lens) c₀) (plain (words_in lens) (reader b lens t)) e (visible s) (held_of h₀) c₀
      unfolding is_over pick head_of held_of
      over None q other = led-goes
      over (Some p) q other =
          let z = key-ends (words_in lens) e (reader b lens t) (reader-apart b lens t) (count_at b lens) (visible s) (held_of held) c o.fits (head_of x) o.leads o.of-key no-twin
          (rw (← own) other) (placed_at p) (sym holds ∙ rw q) in
          let y : settle (held_of then) d ≡ drain (left (words_in lens) d) (plain (words_in lens) (reader b lens t)) e (visible s) (held_of then) d = rw (passed, holds) (sym z) in
          y ∙ led-goes

      sure-over : (u : Option Seen) → is_over (record { held = u; asks = None }) ≡ false → Sure b lens t e (held_of u) d None
      unfolding is_over
      sure-over None i = sure-none b lens t e d None
      sure-over (Some p) i = never i

      ends : Else (placed_at x) (reply_of head_of h) → Drains b lens t e s h₀ c₀ (record { held = then; asks = None }) d
      ends other = record {
        fits = led-fits;
        falls = omega (arith, led-falls, turns.fewer);
        goes = over then refl other;
        sure = sure-over then;
      }

      pub led-over : h ≡ Ok None → Drains b lens t e s h₀ c₀ (record { held = then; asks = None }) d
      led-over q = ends (unfold reply_of in rw q no_more)

      module _ (y : Seen) (q : h ≡ Ok (Some y)) (u : Bool) (told : u ≡ same_key (placed_at x) (placed_at y)) where
        found-y : reply_of head_of h ≡ Found (head_of y)
        unfolding reply_of
        found-y = rw q

        pub led-other : u ≡ false → Drains b lens t e s h₀ c₀ (record { held = then; asks = None }) d
        led-other g = ends (rw found-y (other_key {z = head_of y} (unfold head_of in sym told ∙ g)))

        -- it goes on with the key
        pub led_on : u ≡ true → Turns b lens t e s h₀ c₀ then d y k twin
        unfolding head_of
        led_on g =
            let z = own-next e (reader b lens t) (reader-apart b lens t) c (words_in lens) (head_of x) o.leads no-twin (head_of y) (sym own ∙ found-y) (sym told ∙ g) in
            record {
              of-source = (next_of e (reader b lens t) d k (head_of y) (sym read_as ∙ found-y)).of-source;
              led = record {
                fits = led-fits;
                leads = ap (ahead (words_in lens) e (reader b lens t)) passed ∙ z.0;
                twin-is = f ∙ sym (ap (twins (words_in lens) e (reader b lens t)) passed ∙ z.1);
                of-key = same-key-on (placed_at y) (same-key-true (placed_at x) (placed_at y) (sym told ∙ g));
              };
              drains = led-goes;
              fewer = omega (arith, led-falls, turns.fewer);
            }
