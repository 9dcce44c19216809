-- Each of the twelve rows is what the definitions compute, by computing them.
use mathlib.Core.Path.{◌≡◌, refl}
use mathlib.Core.List.{List, map, flat_map, filter_map}
use mathlib.Core.Option.{Option-elim}
use Rattle.list.specs.Pick.{pick, on_result}
use Rattle.list.specs.Limits.{header_size, record_size, list_limit, key_limit}
use Rattle.list.specs.ValueType.{tag_of, type_of, is_tombstone}
use Rattle.list.specs.Field.{le_at, le_bytes, words, words_in, word_at}
use Rattle.list.specs.Order.{compare, downward, then_by, versions, is_less, is_equal}
use Rattle.list.specs.Record.{has, field, value_from, rest_at, fields_at, read_at, whole_at, key_of, value_of, no_record}
use Rattle.list.specs.Check.{order, next_at, check_from, mark, count_in, check_header, check_list}
use Rattle.list.specs.Version.{version, record_of, records, header, encode, ordered, version_at, records_at, versions_of, with_seqno}
use Rattle.list.specs.PointRead.{of_key, is_below, point_read_from, point_read}
use Rattle.bundle.specs.Bundle.{bundle_limit, start_at, list_at, judge_from, judge_bundle}
use Rattle.bundle.specs.Index.{next_from, starts, count_at, places, open_bundle, indexed}
use Rattle.bundle.specs.Look.{base_at, records_in, headed, lengths_cover, covers, place_in, look_at}
use Rattle.memtable.specs.Figures.{size_of, highest_of}
use Rattle.memtable.specs.Change.{by_order}
use Rattle.memtable.specs.Change as table-change
use Rattle.memtable.specs.Image.{agrees, judged, judge}
use Rattle.memtable.specs.Insert.{tried, inserted, created, buffer_after, state_after, blank}
use Rattle.memtable.specs.Insert as table-insert
use Rattle.memtable.specs.Calls.{comes_to, table_after, table_new}
use Rattle.memtable.specs.Get.{found_in, got_in, got}
use Rattle.memtable.specs.Get as table-get
use Rattle.compaction.specs.Fate.{job_of, below, ◌is◌, leave, is_kept, dropped, by_verdict, with_verdicts, unfiltered, filter_item, expired, goes, head_fate, key_fates, prepend, histories, fates}
use Rattle.compaction.specs.Compact.{numbers, kept, report, compacted}
use Rattle.compaction.specs.Compaction.{figures, measured, answer_to, written, output_at, noted, report_at}
use Rattle.merge.specs.Placed.{before, same_key}
use Rattle.merge.specs.Merged.{numbered, gather, everything, among, sort}
use Rattle.merge.specs.Merge.{on_reply}
use Rattle.merge.specs.Plain.{front_at, back_at, left, place, next, sooner, choose, ahead, pass, past, plain}
use Rattle.merge.specs.Reader.{reader}
use Rattle.read.specs.Bounds.{from_lower, to_upper}
use Rattle.read.specs.Bounds as reading-bounds
use Rattle.read.specs.Prefix.{cut_at, raised, upper_bytes, prefixed, upper_written}
use Rattle.read.specs.Entries.{visible, live, only, firsts, answers, entries}
use Rattle.read.specs.TwoEnds.{taken, others, taking}
use Rattle.read.specs.Mvcc.{hold, counts, settle, drain, step_from, step}
use Rattle.read.specs.Cursor.{ends_of, stands, steady, stepped_of, step_in}
use Rattle.read.specs.Start.{recorded, first_from, last_to, end_to, with_ends, start_to, nothing_left, overlong, refused_start, begin_in, start_in}
use Rattle.read.specs.Start as reading-start
use Rattle.samples.specs.Ask.{Question, Answer, lent, table_of, stepping}
use Rattle.samples.specs.Ask as ask
use Rattle.samples.specs.Table as rows
use Rattle.samples.specs.Table.{table}

pub samples : map (λ (r : List Question × List Answer). map ask.answer r.0) table ≡ map (λ (r : List Question × List Answer). r.1) table
unfolding flat_map lent table_of ask.answer rows.a rows.b rows.c rows.abc rows.four rows.two rows.entry rows.step_to job_of rows.remains table pick on_result header_size record_size list_limit key_limit tag_of type_of is_tombstone le_at le_bytes words words_in word_at compare downward then_by versions is_less is_equal has field value_from rest_at fields_at read_at whole_at key_of value_of no_record order next_at check_from mark count_in check_header check_list version record_of records header encode ordered version_at records_at versions_of with_seqno bundle_limit start_at list_at judge_from judge_bundle next_from starts count_at places open_bundle indexed base_at headed lengths_cover covers place_in look_at size_of highest_of table-change.insert by_order judged agrees judge table-insert.in_room tried inserted created buffer_after state_after blank found_in table-get.found got_in is_below comes_to table_after table_new point_read point_read_from got below of_key ◌is◌ leave is_kept dropped by_verdict with_verdicts unfiltered filter_item expired goes head_fate key_fates prepend histories fates filter_map numbers kept report compacted figures measured answer_to written output_at noted report_at before same_key numbered gather everything among sort on_reply front_at back_at left place next sooner choose ahead pass past plain reader reading-bounds.within from_lower to_upper cut_at raised upper_bytes prefixed upper_written visible live only firsts answers entries taken others taking hold counts settle drain step_from step ends_of records_in stands steady stepped_of step_in recorded first_from last_to end_to with_ends start_to nothing_left overlong refused_start reading-start.begun begin_in start_in stepping Option-elim
samples = refl
