-- A compaction's answer as it crosses the border.
use Rattle.std.specs.Prelude.{Result, Ok, Err}
use Rattle.list.specs.declared.refusal.Refused.{Refused}
use Rattle.compaction.specs.declared.stream.Compacted as compaction
use Rattle.vls.specs.Outcome.{outcome_of}
use Rattle.vls.specs.declared.outcome.Outcome.{Outcome}
use Rattle.vls.specs.declared.compactions.Compacted.{Compacted}

-- vls_compacted: how it came out, and the three figures; refused, 0 in each.
abbrev pub compacted_by : Outcome → Result compaction.Compacted Refused → Compacted
compacted_by o (Ok f) = record { outcome = o; length = f.length; kept = f.kept; reported = f.reported }
compacted_by o (Err r) = record { outcome = o; length = 0; kept = 0; reported = 0 }

abbrev pub compacted_of : Result compaction.Compacted Refused → Compacted
compacted_of r = compacted_by (outcome_of r) r
