-- Each row of a filter's verdicts is what the definitions compute, by computing them.
use mathlib.Core.Path.{◌≡◌, refl}
use mathlib.Core.List.{map, flat_map, filter_map}
use mathlib.Core.Option.{Option-elim}
use Rattle.list.specs.Pick.{pick, on_result}
use Rattle.list.specs.Limits.{header_size, record_size, list_limit, key_limit}
use Rattle.list.specs.ValueType.{tag_of, type_of, is_tombstone}
use Rattle.list.specs.Field.{le_at, le_bytes, words, words_in, word_at}
use Rattle.list.specs.Order.{compare, downward, then_by, versions, is_less, is_equal}
use Rattle.list.specs.Record.{has, field, value_from, rest_at, fields_at, read_at, whole_at, key_of, value_of, no_record}
use Rattle.list.specs.Check.{order, next_at, check_from, mark, count_in, check_header, check_list}
use Rattle.list.specs.Version.{version, record_of, records, header, encode, version_at, records_at, versions_of, with_seqno}
use Rattle.list.specs.PointRead.{of_key}
use Rattle.compaction.specs.Fate.{job_of, below, ◌is◌, leave, is_kept, dropped, by_verdict, with_verdicts, filter_item, expired, goes, head_fate, key_fates, prepend, histories, fates}
use Rattle.compaction.specs.Compact.{numbers, kept, report, compacted}
use Rattle.compaction.specs.Filter.{verdicts_in, is_replacement, is_verdict, are_verdicts, kind_of, verdict_at}
use Rattle.compaction.specs.Compaction.{figures, measured, limited, filtered, filtered_to, written, noted}
use Rattle.samples.specs.Ask.{Question, Answer, lent}
use Rattle.samples.specs.Ask as ask
use Rattle.samples.specs.Table as rows

pub filters : map (λ (r : Question × Answer). ask.answer r.0) rows.filters ≡ map (λ (r : Question × Answer). r.1) rows.filters
unfolding flat_map filter_map Option-elim lent ask.answer rows.a rows.remains rows.keep rows.drop rows.replace rows.filter rows.filters pick on_result header_size record_size list_limit key_limit tag_of type_of is_tombstone le_at le_bytes words words_in word_at compare downward then_by versions is_less is_equal has field value_from rest_at fields_at read_at whole_at key_of value_of no_record order next_at check_from mark count_in check_header check_list version record_of records header encode version_at records_at versions_of with_seqno of_key job_of below ◌is◌ leave is_kept dropped by_verdict with_verdicts filter_item expired goes head_fate key_fates prepend histories fates numbers kept report compacted verdicts_in is_replacement is_verdict are_verdicts kind_of verdict_at figures measured limited filtered filtered_to written noted
filters = refl
