-- Calls of `compact` and of `compact_filtered`, as demand 3 speaks of them.
use Rattle.std.specs.Prelude.{ℕ, ◌≡◌, List}
use Rattle.list.specs.Version.{Bytes}
use Rattle.compaction.specs.declared.stream.Job.{Job}
use Rattle.compaction.specs.Compaction.{Compaction, answer_to, filtered, filtered_to, written, output_at, noted, report_at}

-- A list s, an output and a report's table are lent. The call answers r, and the two hold out' and table' afterwards; these four things are what its contract promises.
pub record Call (j : Job) (s out table out' table' : List ℕ) (r : Compaction) : Type 0 where
  pub answers : r ≡ answer_to j s out table
  pub writes : out' ≡ output_at r j s out
  pub reports : table' ≡ report_at r j s table
  pub bytes : Bytes s

-- The same with a table of verdicts and their values.
pub record FilteredCall (j : Job) (t values s out table out' table' : List ℕ) (r : Compaction) : Type 0 where
  pub answers : r ≡ filtered_to j t values s out table
  pub writes : out' ≡ written r j (filtered t values s) out
  pub reports : table' ≡ noted r j (filtered t values s) table
  pub bytes : Bytes s
  pub verdict-bytes : Bytes t
  pub value-bytes : Bytes values
