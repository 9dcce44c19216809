-- The step of a cursor, on any bytes: so it is also when bundle or index was altered after opening.
use Rattle.std.specs.Prelude.{ℕ, zero, suc, List, Bool, true, ◌&&◌, leb, Option, None, Some, Result, Ok}
use Rattle.list.specs.Pick.{pick}
use Rattle.list.specs.Field.{words_in}
use Rattle.list.specs.Refusal.{refuse}
use Rattle.list.specs.declared.refusal.Refused.{Refused}
use Rattle.list.specs.declared.refusal.Refusal.TheVariants.{Unfit}
use Rattle.bundle.specs.Bundle.{bundle_limit}
use Rattle.bundle.specs.Look.{covers, records_in}
use Rattle.merge.specs.Merge.{Reply, Nothing, Found, Torn}
use Rattle.merge.specs.Plain.{front_at, back_at, plain}
use Rattle.merge.specs.declared.ends.Ends.{Ends}
use Rattle.merge.specs.Reader.{reader}
use Rattle.merge.specs.declared.ends.End.{End}
use Rattle.read.specs.Entries.{visible}
use Rattle.read.specs.Mvcc.{Entry, step}
use Rattle.read.specs.declared.cursor.Cursor.{Cursor}
use Rattle.read.specs.declared.cursor.Entry as code

-- A cursor's two ends in each source.
unfoldable pub ends_of : Cursor → Ends
ends_of c = record { front = c.front; back = c.back }

-- In the first n sources no position is past its list's records, and no two ends are crossed.
unfoldable pub stands : ℕ → List ℕ → List ℕ → Ends → Bool
stands zero b lens c = true
stands (suc n) b lens c = stands n b lens c && (leb (front_at c n) (back_at c n) && leb (back_at c n) (records_in b lens n))

-- Lengths and index cover the bundle, and the cursor stands on it; else a step is 11.
unfoldable pub steady : List ℕ → List ℕ → List ℕ → Ends → Bool
steady b lens t c = covers b lens t && stands bundle_limit b lens c

-- What a step answers: where its entry stands, or that there is none; or a refusal.
abbrev pub Step : Type 0
Step = Result (Option code.Entry) Refused

-- The answer, and the next cursor.
pub record Stepped : Type 0 where
  pub step : Step
  pub cursor : Cursor

-- A step gives list and record, or nothing, with the next cursor; 11 where a record isn't whole. The cursor is the same, unless an entry was found.
unfoldable pub stepped_of : Reply (Entry Ends) → Cursor → Stepped
stepped_of Nothing c = record { step = Ok None; cursor = c }
stepped_of (Found x) c =
    record {
      step = Ok (Some (record { list = x.version.list; «record» = x.version.number }));
      cursor = record { front = x.rest.front; back = x.rest.back; snapshot = c.snapshot };
    }
stepped_of Torn c = record { step = refuse Unfit 0 0; cursor = c }

-- A step at an end of any cursor, over any bytes.
unfoldable pub step_in : End → List ℕ → List ℕ → List ℕ → Cursor → Stepped
step_in e b lens t c =
    stepped_of (pick (steady b lens t (ends_of c)) (step (plain (words_in lens) (reader b lens t)) e (visible c.snapshot) (ends_of c)) Torn) c
