-- A memtable's answers as they cross the border. Its state crosses as it is.
use Rattle.std.specs.Prelude.{true, false, Option, Result, Some, None}
use Rattle.std.specs.Result.{result_unwrap_or}
use Rattle.list.specs.ValueType.{tag_of}
use Rattle.list.specs.declared.refusal.Refused.{Refused}
use Rattle.memtable.specs.declared.Memtable.{Memtable}
use Rattle.memtable.specs.declared.Found as memtable
use Rattle.vls.specs.Outcome.{outcome_of}
use Rattle.vls.specs.declared.outcome.Outcome.{Outcome}
use Rattle.vls.specs.declared.tables.Changed.{Changed}
use Rattle.vls.specs.declared.tables.Found.{Found}

-- vls_changed: how it came out, and the state afterwards.
abbrev pub changed_of : Result (Unit {0}) Refused → Memtable → Changed
changed_of r s = record { outcome = outcome_of r; state = s }

-- vls_found: how it came out, and the record; not found, 0 in every field.
abbrev pub found_by : Outcome → Option memtable.Found → Found
found_by o (Some f) = record { outcome = o; found = true; at = f.at; seqno = f.seqno; tag = tag_of f.kind; start = f.start; len = f.len }
found_by o None = record { outcome = o; found = false; at = 0; seqno = 0; tag = 0; start = 0; len = 0 }

abbrev pub found_of : Result (Option memtable.Found) Refused → Found
found_of r = found_by (outcome_of r) (result_unwrap_or r None)
