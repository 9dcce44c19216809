-- How a call came out, as it crosses the border: a refusal's number, list and record.
use Rattle.std.specs.Prelude.{Result, Ok, Err}
use Rattle.list.specs.Refusal.{number_of}
use Rattle.list.specs.declared.refusal.Refused.{Refused}
use Rattle.vls.specs.declared.outcome.Outcome.{Outcome}

-- 0 in each where it was not refused, whatever else was answered.
abbrev pub outcome_of : {A : Type 0} → Result A Refused → Outcome
outcome_of (Ok x) = record { number = 0; list = 0; «record» = 0 }
outcome_of (Err r) = record { number = number_of r.refusal; list = r.list; «record» = r.«record» }
