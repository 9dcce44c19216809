-- The answers about a cursor as they cross the border. The cursor crosses as it is.
use Rattle.std.specs.Prelude.{ℕ, List, Bool, true, false, Option, Result, Some, None, is_some, unwrap_or}
use Rattle.std.specs.Result.{result_map_both}
use Rattle.std.specs.Result.{result_unwrap_or}
use Rattle.std.specs.declared.ops.Bound.TheVariants.{Included, Excluded, Unbounded}
use Rattle.list.specs.Refusal.{refused}
use Rattle.list.specs.ValueType.{tag_of}
use Rattle.list.specs.declared.refusal.Refusal.{Refusal}
use Rattle.read.specs.Bounds.{Bound}
use Rattle.read.specs.Cursor as read
use Rattle.read.specs.Cursor.{Step}
use Rattle.read.specs.declared.begin.Started as code
use Rattle.read.specs.declared.cursor.Entry.{Entry}
use Rattle.read.specs.declared.place.Place.{Place}
use Rattle.vls.specs.Outcome.{outcome_of}
use Rattle.vls.specs.declared.outcome.Outcome.{Outcome}
use Rattle.vls.specs.declared.reads.Started.{Started}
use Rattle.vls.specs.declared.reads.Stepped.{Stepped}
use Rattle.vls.specs.declared.reads.Answer.{Answer}
use Rattle.vls.specs.declared.reads.Part.{Part}
use Rattle.vls.specs.declared.reads.Placed.{Placed}
use Rattle.vls.specs.declared.reads.Prefixed.{Prefixed}

-- A bound by two flags, present and excluded, and its bytes.
abbrev pub bound_by : Bool → Bool → List ℕ → Bound
bound_by true true k = Excluded k
bound_by true false k = Included k
bound_by false x k = Unbounded

-- vls_started: how it came out, and the cursor.
abbrev pub started_of : code.Started → Started
started_of s = record { outcome = outcome_of s.outcome; cursor = s.cursor }

-- vls_answer, of a step on a lent cursor: how it came out, and the entry's list and record, if there is one.
abbrev pub answer_by : Outcome → Option Entry → Answer
answer_by o (Some e) = record { outcome = o; found = true; at_list = e.list; at_record = e.«record» }
answer_by o None = record { outcome = o; found = false; at_list = 0; at_record = 0 }

abbrev pub answer_of : Step → Answer
answer_of s = answer_by (outcome_of s) (result_unwrap_or s None)

-- vls_stepped: the same, and the next cursor.
abbrev pub stepped_of : read.Stepped → Stepped
stepped_of s = record { answer = answer_of s.step; cursor = s.cursor }

-- vls_placed: the record whole; not fit, 0 in every field.
abbrev pub placed_of : Option Place → Placed
placed_of (Some p) = record { fit = true; key = p.key; klen = p.klen; seqno = p.seqno; tag = tag_of p.kind; value = p.value; vlen = p.vlen }
placed_of None = record { fit = false; key = 0; klen = 0; seqno = 0; tag = 0; value = 0; vlen = 0 }

-- vls_part, of the value and of the key.
abbrev pub value_part : Option Place → Part
value_part p = let r = placed_of p in record { fit = r.fit; start = r.value; length = r.vlen }

abbrev pub key_part : Option Place → Part
key_part p = let r = placed_of p in record { fit = r.fit; start = r.key; length = r.klen }

-- vls_prefixed: how it came out, and the length of the upper bound, if there is one.
abbrev pub prefixed_of : Result (Option ℕ) Refusal → Prefixed
prefixed_of r =
    let n = result_unwrap_or r None in
    record { outcome = outcome_of (result_map_both (λ n. n) (λ why. refused why 0 0) r); bounded = is_some n; length = unwrap_or n 0 }
