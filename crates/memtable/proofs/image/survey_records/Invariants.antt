-- What is left to judge and to survey comes to the same as the whole.
use mathlib.Core.Path.{◌≡◌}
use Rattle.list.specs.Limits.{header_size}
use Rattle.list.specs.Record.{no_record}
use Rattle.list.specs.Check.{check_from}
use Rattle.memtable.specs.Private.{no_survey, survey_from}
use Prim.Native.Nat.{◌+◌, ◌-◌, ◌≤◌}
use lib.ListN.{length}
use Rattle.memtable.proofs.image.survey_records.Given as goal

abbrev pub invariant-loop-done : goal.invariant-loop-done
invariant-loop-done l = record {
  key_inside : l.before.key + l.before.klen ≤ length l.s;
  counted : l.survey.count ≡ l.done;
  ranked : l.survey.place.rank ≤ l.survey.count;
  low : l.survey.count + l.survey.size + header_size ≤ l.at;
  judged : check_from (l.count - l.done) l.s l.at l.before l.done ≡ check_from l.count l.s header_size no_record 0;
  told : survey_from (l.count - l.done) l.s l.at l.key l.seqno l.survey ≡ survey_from l.count l.s header_size l.key l.seqno no_survey;
}
