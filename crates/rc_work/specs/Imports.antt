-- The names that files of specs/ take from the crates below and from std, passed on from one place.
pub use Rattle.rc_fd.specs.Closed.{IsClosed}
pub use Rattle.rc_fd.specs.ClosedLaws.{follows_closed}
pub use Rattle.rc_fd.specs.FollowsLaws.{follows_dependency, follows_subset, follows_transitive, follows_union}
pub use Rattle.rc_reader.specs.Answers.{FailsLine, Refuses, rest_place}
pub use Rattle.rc_reader.specs.Grammar.{After, Broken, Reading, header_version, spec_reading}
pub use Rattle.rc_reader.specs.MembersLaws.{apart_from_test, distinct_append, distinct_from_test, test_from_distinct}
pub use Rattle.rc_reader.specs.Names.{has_repeat, number_among}
pub use Rattle.rc_reader.specs.NamesLaws.{number_among-below, numbers_of-below}
pub use Rattle.rc_reader.specs.Rules.{columns_named, lacks, repeat_together, repeats, share}
pub use Rattle.rc_reader.specs.Unnamed.{IsOverColumns, unnamed_operation}
pub use Rattle.rc_reader.specs.UnnamedLaws.{unnamed_over}
pub use Rattle.rc_reader.specs.declared.reading.Rest.{Rest}
pub use Rattle.rc_reader.specs.declared.refusal.LineFault.{LineFault}
pub use Rattle.rc_reader.specs.declared.refusal.LineRule.{LineRule}
pub use Rattle.rc_reader.specs.declared.refusal.LineRule.TheVariants.{S1, S2, S3, S4, S5, S6, S7, S8, W1, W2, W3, W4, W5}
pub use Rattle.rc_reader.specs.declared.refusal.ReadRefusal.{ReadRefusal}
pub use Rattle.rc_reader.specs.declared.version.Version.{Version}
pub use Rattle.rc_rel.specs.History.{AreLegalFrom, IsLegal, IsNumbered, after_steps, calls_of, own, own_placed, replay, steps_of}
pub use Rattle.rc_rel.specs.HistoryLaws.{AreLegalFrom-append, after_steps-append, steps_of-append}
pub use Rattle.rc_rel.specs.OwnLaws.{calls_of-append, numbered_more, own-append, placed_own}
pub use Rattle.rc_rel.specs.SharesLaws.{shares_add_up}
pub use Rattle.rc_rel.specs.declared.entry.Entry.{Entry}
pub use Rattle.rc_rel.specs.declared.entry.Placed.{Placed}
pub use Rattle.rc_rel.specs.declared.entry.Step.{Step}
pub use Rattle.rc_spec.specs.Calls.{Fits, all_columns, value_columns}
pub use Rattle.rc_spec.specs.InRange.{AreBelow, HasOutsAmong, IsInRange, IsOpAmong}
pub use Rattle.rc_spec.specs.Names.{IsWellNamed, column_names, op_names}
pub use Rattle.rc_spec.specs.Placement.{AreOuts, FindsByKey, KeepsO}
pub use Rattle.rc_spec.specs.Plain.{plain}
pub use Rattle.rc_spec.specs.Ranges.{AreBounded, IsBounded, range_column, range_columns}
pub use Rattle.rc_spec.specs.Spec.{empty}
pub use Rattle.rc_spec.specs.declared.call.Call.{Call}
pub use Rattle.rc_spec.specs.declared.call.Reply.{Reply}
pub use Rattle.rc_spec.specs.declared.call.Reply.TheVariants.{Absent, Conflict, Inserted, Many, Present, Removed, Rows, Updated}
pub use Rattle.rc_spec.specs.declared.items.ColKind.{ColKind}
pub use Rattle.rc_spec.specs.declared.items.ColKind.TheVariants.{Num, Text}
pub use Rattle.rc_spec.specs.declared.items.Column.{Column}
pub use Rattle.rc_spec.specs.declared.items.Op.{Op}
pub use Rattle.rc_spec.specs.declared.items.OpKind.{OpKind}
pub use Rattle.rc_spec.specs.declared.items.OpKind.TheVariants.{Insert, Query, Remove, Update}
pub use Rattle.rc_spec.specs.declared.range.Range.{Range}
pub use Rattle.rc_spec.specs.declared.spec.Spec.{Spec}
pub use Rattle.rc_text.specs.Bytes.{is_blank, is_quotable_byte, is_quote, is_text_byte, without_blanks}
pub use Rattle.rc_text.specs.Language.{Language, LinesMean}
pub use Rattle.rc_text.specs.LanguageLaws.{means-reading, read_keeps, taken_keeps}
pub use Rattle.rc_text.specs.Lines.{ContentLine, IsLineStart, TextPlace, begins_content, bytes_of_line, content_among, content_from, is_content, lines_of, onto_first, past_end_of, printed_lines, start_of, without_last}
pub use Rattle.rc_text.specs.LinesLaws.{lines_from_is}
pub use Rattle.rc_text.specs.NextWordLaws.{found_comes}
pub use Rattle.rc_text.specs.Numbers.{is_number, number_of, u64_of}
pub use Rattle.rc_text.specs.Words.{ComesNext, Found, HasWord, WordText, found_then, plain_text, quoted, quoted_text, text_of, word_at, words_of}
pub use Rattle.rc_text.specs.WordsLaws.{words_of-step}
pub use Rattle.rc_text.specs.declared.numbers.NumFault.{NumFault}
pub use Rattle.rc_text.specs.declared.words.Word.{Word}
pub use Rattle.rc_text.specs.declared.words.WordFault.{WordFault}
pub use Rattle.rc_text.specs.declared.words.WordFault.TheVariants.{BadByte}
pub use Rattle.rc_tuple.specs.ColSet.{Within, is_within, union}
pub use Rattle.rc_tuple.specs.ColSetLaws.{in_range_bounds, rising_range, test_from_within, union_left, union_right, within_from_test}
pub use Rattle.rc_tuple.specs.Relation.{Follows}
pub use Rattle.rc_tuple.specs.RisingSet.{AreDistinct, In, IsRising, gather, put}
pub use Rattle.rc_tuple.specs.RisingSetLaws.{append_in_left, append_in_right, distinct_left, each_in, filter_in, in_append, in_filter, in_flat_map, in_gather, in_list_all, in_map, list_all_in, map_in, nat_order, not_below_itself, number_lists_order, one_place, rising_gather, slice_get_in}
pub use Rattle.rc_tuple.specs.Tuple.{IsTuple, Pairs, pair_cmp, tuple_of, value}
pub use Rattle.rc_tuple.specs.TupleLaws.{IsTuple-tuple_of, cols_of-tuple_of, pair_order}
pub use Rattle.rc_tuple.specs.declared.dep.Dep.{Dep}
pub use Rattle.rc_values.specs.Ranks.{rank_of, text_cmp, texts_of}
pub use Rattle.rc_values.specs.RanksLaws.{known-texts_of, not_in-rank_of, rank_of-within, slice_get-rank_of}
pub use Rattle.std.specs.Char.{is_ascii_digit}
pub use Rattle.std.specs.Fmt.{decimal}
pub use Rattle.std.specs.List.{AllByRecursion, before_first, enumerate_from, filter_map, flat_map, list_all, list_any, position_from, position_or_len, range_with_len, slice_get, zip}
pub use Rattle.std.specs.Option.{option_map, option_map_or, unwrap_or}
pub use Rattle.std.specs.Ordering.{match_ordering, nat_cmp}
pub use Rattle.std.specs.Prelude.{Err, IsSome, List, Ok, Result, codes, is_some, slice_index_or, sum_by, ℕ}
pub use Rattle.std.specs.Str.{bytes_eq}
pub use Rattle.std.specs.declared.cmp.Ordering.{Ordering}
pub use Rattle.std.specs.declared.cmp.Ordering.TheVariants.{Equal, Greater, Less}
