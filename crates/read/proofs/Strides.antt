-- The turns of the code of a step: what each key makes of the rest of the definition is what was left of it.
use native.Mathlib.Omega.{arith}
use mathlib.Core.List.{List}
use mathlib.Core.Bool.{Bool, true, false}
use mathlib.Core.Option.{none}
use mathlib.Core.Path.{sym, ap, ◌≡◌, ◌∙◌}
use Prim.Native.Nat.{ℕ, ◌<◌}
use Rattle.std.specs.Prelude.{Option, Some, None, Result, Ok, Err}
use Rattle.list.specs.Field.{words_in}
use Rattle.list.specs.Pick.{pick}
use Rattle.list.specs.Refusal.{refused}
use Rattle.list.specs.declared.refusal.Refused.{Refused}
use Rattle.list.specs.declared.refusal.Refusal.TheVariants.{Unfit}
use Rattle.bundle.specs.Index.{count_at}
use Rattle.bundle.specs.Look.{covers}
use Rattle.merge.specs.Merge as reply
use Rattle.merge.specs.Merge.{Reply, Nothing, Found, on_reply}
use Rattle.merge.specs.Plain.{left, plain}
use Rattle.merge.specs.declared.ends.Ends.{Ends}
use Rattle.merge.specs.Reader.{reader}
use Rattle.merge.specs.Private.{Fitting, placed_at, reply_of}
use Rattle.merge.specs.declared.ends.End.{End}
use Rattle.merge.specs.declared.seen.Seen.{Seen}
use Rattle.merge.specs.declared.head.Torn.{Torn}
use Rattle.merge.proofs.Shrinks.{plain-shrinks}
use Rattle.merge.proofs.Looking.{reader-apart}
use Rattle.read.specs.Entries.{visible, live}
use Rattle.read.specs.Mvcc.{Entry, drain, step}
use Rattle.read.specs.Cursor.{Step, Stepped, ends_of, steady, stepped_of, step_in}
use Rattle.read.specs.Private.{entry_at}
use Rattle.read.specs.declared.cursor.Cursor.{Cursor}
use Rattle.read.proofs.Draining.{key-found, step-turn}

-- the keys of a step
module _ (b lens t : List ℕ) (e : End) (s : ℕ) (c : Ends) (w : Reply (Entry Ends)) (fits : Fitting (words_in lens) (count_at b lens) c)
    (inv : step (plain (words_in lens) (reader b lens t)) e (visible s) c ≡ w)
    (n : Result (Option Seen) Torn) (d : Ends) (says : reply_of (entry_at d) n ≡ drain (left (words_in lens) c) (plain (words_in lens) (reader b lens t)) e (visible s) none c) where
  goes_on : on_reply (reply_of (entry_at d) n) Nothing (λ x. pick (live x.version) (Found x) (step (plain (words_in lens) (reader b lens t)) e (visible s) x.rest)) ≡ w
  unfolding plain
  goes_on = ap (λ o. on_reply o Nothing (λ x. pick (live x.version) (Found x) (step (plain (words_in lens) (reader b lens t)) e (visible s) x.rest))) says
      ∙ sym (step-turn (plain (words_in lens) (reader b lens t)) (Fitting (words_in lens) (count_at b lens)) (plain-shrinks (words_in lens) (reader b lens t) (reader-apart b lens t) (words_in lens) (count_at b lens) (omega arith)) e (visible s) c fits) ∙ inv

  -- no entry
  pub key-none : n ≡ Ok None → Nothing ≡ w
  unfolding on_reply reply_of
  key-none q = rw q at goes_on

  -- a record isn't whole
  pub key-broken : (why : Torn) → n ≡ Err why → reply.Torn ≡ w
  unfolding on_reply reply_of
  key-broken why q = rw q at goes_on

  module _ (x : Seen) (q : n ≡ Ok (Some x)) where
    found-x : reply_of (entry_at d) n ≡ Found (entry_at d x)
    unfolding reply_of
    found-x = rw q

    pub key-passed : (left (words_in lens) d < left (words_in lens) c) × Fitting (words_in lens) (count_at b lens) d
    unfolding plain entry_at
    key-passed =
        key-found (plain (words_in lens) (reader b lens t)) (Fitting (words_in lens) (count_at b lens)) (plain-shrinks (words_in lens) (reader b lens t) (reader-apart b lens t) (words_in lens) (count_at b lens) (omega arith)) e (visible s) c fits (entry_at d x) (sym says ∙ found-x)

    module _ (u : Bool) (lives : u ≡ live (placed_at x)) where
      by-life : pick u (Found (entry_at d x)) (step (plain (words_in lens) (reader b lens t)) e (visible s) d) ≡ w
      unfolding on_reply entry_at
      by-life =
          let z : on_reply (reply_of (entry_at d) n) Nothing (λ x. pick (live x.version) (Found x) (step (plain (words_in lens) (reader b lens t)) e (visible s) x.rest))
          ≡ pick u (Found (entry_at d x)) (step (plain (words_in lens) (reader b lens t)) e (visible s) d) = rw (found-x, lives) in
          sym z ∙ goes_on

      -- a live entry
      pub key-live : u ≡ true → Found (entry_at d x) ≡ w
      unfolding pick
      key-live f = rw f at by-life

      -- a tombstone
      pub key-dead : u ≡ false → step (plain (words_in lens) (reader b lens t)) e (visible s) d ≡ w
      unfolding pick
      key-dead f = rw f at by-life

-- what a step answers, and the cursor that it leaves
pub record Strides (b lens t : List ℕ) (e : End) (given : Cursor) (r : Step) (d : Cursor) : Type 0 where
  pub answers : r ≡ (step_in e b lens t given).step
  pub gives : d ≡ (step_in e b lens t given).cursor

module _ (b lens t : List ℕ) (e : End) (given : Cursor) where
  strides : (r : Step) (d : Cursor) → record { step = r; cursor = d } ≡ step_in e b lens t given → Strides b lens t e given r d
  strides r d q = record { answers = ap (λ (x : Stepped). x.step) q; gives = ap (λ (x : Stepped). x.cursor) q }

  -- 11, with the cursor as it was given
  pub stride-unfit : steady b lens t (ends_of given) ≡ false → (why : Refused) → why ≡ refused Unfit 0 0 → Strides b lens t e given (Err why) given
  unfolding step_in pick stepped_of
  stride-unfit f why g = strides (Err why) given (rw (f, g))

  pub stride-uncovered : covers b lens t ≡ false → (why : Refused) → why ≡ refused Unfit 0 0 → Strides b lens t e given (Err why) given
  unfolding steady
  stride-uncovered f why g = stride-unfit (rw f) why g

  module _ (f : steady b lens t (ends_of given) ≡ true) (n : Result (Option Seen) Torn) (d : Ends)
      (says : reply_of (entry_at d) n ≡ step (plain (words_in lens) (reader b lens t)) e (visible given.snapshot) (ends_of given)) where
    by-step : stepped_of (reply_of (entry_at d) n) given ≡ step_in e b lens t given
    unfolding step_in pick
    by-step = rw (f, says)

    pub stride-none : n ≡ Ok None → Strides b lens t e given (Ok None) given
    unfolding reply_of stepped_of
    stride-none q = strides (Ok None) given (rw q at by-step)

    pub stride-torn : (x : Torn) → n ≡ Err x → (why : Refused) → why ≡ refused Unfit 0 0 → Strides b lens t e given (Err why) given
    unfolding reply_of stepped_of
    stride-torn x q why g = let z = rw q at by-step in strides (Err why) given (rw g z)

    pub stride-found : (x : Seen) → n ≡ Ok (Some x) → Strides b lens t e given (Ok (Some (record { list = x.list; «record» = x.number }))) (record { front = d.front; back = d.back; snapshot = given.snapshot })
    unfolding reply_of stepped_of entry_at placed_at
    stride-found x q = strides _ _ (rw q at by-step)
