-- Compaction on bytes: the answer, and what it leaves in the output and in the report.
use Rattle.std.specs.Prelude.{ℕ, List, Result, Ok, Err, ◌&&◌, ltb, eqb, length}
use Rattle.std.proofs.lemmas.List.Edits.{sets}
use Rattle.list.specs.Limits.{list_limit}
use Rattle.list.specs.Pick.{pick, on_result}
use Rattle.list.specs.Field.{words, words_in}
use Rattle.list.specs.Check.{check_list}
use Rattle.list.specs.Version.{encode, versions_of}
use Rattle.list.specs.Refusal.{refuse}
use Rattle.list.specs.declared.refusal.Refused.{Refused}
use Rattle.list.specs.declared.refusal.Refusal.TheVariants.{TooLarge, NoRoom, BadVerdict}
use Rattle.compaction.specs.declared.stream.Job.{Job}
use Rattle.compaction.specs.declared.stream.Compacted.{Compacted}
use Rattle.compaction.specs.Fate.{WithVerdict, with_verdicts, unfiltered}
use Rattle.compaction.specs.Compact.{compacted, kept, report}
use Rattle.compaction.specs.Filter.{verdicts_in, are_verdicts, verdict_at}

-- What a compaction answers: what it counted, or why it is refused and where.
abbrev pub Compaction : Type 0
Compaction = Result Compacted Refused

-- The answer that tells n bytes of output, k records kept and t reported.
abbrev pub answered : ℕ → ℕ → ℕ → Compaction
answered n k t = Ok (record { length = n; kept = k; reported = t })

-- The three figures of a compaction.
unfoldable pub figures : Job → List WithVerdict → Compacted
figures j bs = record { length = length (encode (compacted j bs)); kept = length (kept j bs); reported = length (report j bs) }

-- The answer for an accepted list, with room for so many bytes of output and so many entries of the report: 10 with record 0 for the output,
-- 10 with record 1 for the report; else the output's length in bytes, the records kept and the records reported.
unfoldable pub measured : Job → List WithVerdict → ℕ → ℕ → Compaction
measured j bs bytes entries =
    pick (ltb bytes (length (encode (compacted j bs)))) (refuse NoRoom 0 0)
    (pick (ltb entries (length (report j bs))) (refuse NoRoom 0 1)
    (Ok (figures j bs)))

-- The same where the output may be longer than the list: 9 before both.
unfoldable pub limited : Job → List WithVerdict → ℕ → ℕ → Compaction
limited j bs bytes entries = pick (ltb list_limit (length (encode (compacted j bs)))) (refuse TooLarge 0 0) (measured j bs bytes entries)

-- The answer for the list s: a refused list gives its own refusal.
unfoldable pub answer_to : Job → List ℕ → List ℕ → List ℕ → Compaction
answer_to j s out table = on_result (check_list s) (λ count. measured j (unfiltered (versions_of s)) (length out) (words_in table)) Err

-- The versions of the list s with the verdicts of a table.
unfoldable pub filtered : List ℕ → List ℕ → List ℕ → List WithVerdict
filtered t values s = with_verdicts (verdict_at t values) 0 (versions_of s)

-- The answer with a filter: 12 if the verdicts are not as many as the records, or one says none of the three or has no good replacement.
unfoldable pub filtered_to : Job → List ℕ → List ℕ → List ℕ → List ℕ → List ℕ → Compaction
filtered_to j t values s out table = on_result (check_list s) (λ count.
    pick (eqb (verdicts_in t) count && are_verdicts count t values)
    (limited j (filtered t values s) (length out) (words_in table))
    (refuse BadVerdict 0 0)) Err

-- The output at exit: it begins with the encoding of what leaves, and bytes past it stay.
unfoldable pub written : Compaction → Job → List WithVerdict → List ℕ → List ℕ
written (Ok f) j bs out = sets out 0 (encode (compacted j bs))
written (Err f) j bs out = out

-- The same without a filter.
unfoldable pub output_at : Compaction → Job → List ℕ → List ℕ → List ℕ
output_at r j s out = written r j (unfiltered (versions_of s)) out

-- The table at exit: it begins with the report, and entries past it stay.
unfoldable pub noted : Compaction → Job → List WithVerdict → List ℕ → List ℕ
noted (Ok f) j bs table = sets table 0 (words (report j bs))
noted (Err f) j bs table = table

-- The same without a filter.
unfoldable pub report_at : Compaction → Job → List ℕ → List ℕ → List ℕ
report_at r j s table = noted r j (unfiltered (versions_of s)) table
