-- What a memtable tells of itself, as it crosses the border.
use Rattle.std.specs.Prelude.{ℕ, Bool, false, Option, Result, Some, None, Ok, Err, is_some, unwrap_or}
use Rattle.std.specs.Result.{result_unwrap_or}
use Rattle.list.specs.declared.refusal.Refused.{Refused}
use Rattle.vls.specs.Outcome.{outcome_of}
use Rattle.vls.specs.declared.figures.Figure.{Figure}
use Rattle.vls.specs.declared.figures.Told.{Told}

-- vls_figure: how it came out, and the figure, if there is one.
abbrev pub maybe_figure_of : Result (Option ℕ) Refused → Figure
maybe_figure_of r =
    let n = result_unwrap_or r None in
    record { outcome = outcome_of r; found = is_some n; figure = unwrap_or n 0 }

abbrev pub figure_of : Result ℕ Refused → Figure
figure_of (Ok n) = maybe_figure_of (Ok (Some n))
figure_of (Err r) = maybe_figure_of (Err r)

-- vls_told: how it came out, and yes or no.
abbrev pub told_of : Result Bool Refused → Told
told_of r = record { outcome = outcome_of r; yes = result_unwrap_or r false }
