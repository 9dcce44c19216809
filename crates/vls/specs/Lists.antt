-- A verdict as it crosses the border.
use Rattle.std.specs.Result.{result_unwrap_or}
use Rattle.list.specs.Check.{Verdict}
use Rattle.vls.specs.Outcome.{outcome_of}
use Rattle.vls.specs.declared.lists.Checked.{Checked}

-- vls_checked: how it came out, and the records in all.
abbrev pub checked_of : Verdict → Checked
checked_of v = record { outcome = outcome_of v; count = result_unwrap_or v 0 }
