-- The names that files of specs/ take from the crates below and from std, passed on from one place.
pub use Rattle.rc_answer.specs.Answers.{Answers, AnswersAudit, AnswersPart, AnswersRun, AnswersWork, IsJudgement, IsReport, IsReportBy, also_in, audit_for, plans_and_report, verdict_status, verdict_text}
pub use Rattle.rc_answer.specs.HeadlineLaws.{part_threads}
pub use Rattle.rc_answer.specs.Plans.{ArePlanned, op_text, plans_text}
pub use Rattle.rc_answer.specs.Ran.{IsReadAs, IsReadByHand, IsRunBy, IsRunOf, entries_in, run_text}
pub use Rattle.rc_answer.specs.declared.outcome.Ran.{Ran}
pub use Rattle.rc_answer.specs.declared.status.Status.{Status}
pub use Rattle.rc_answer.specs.declared.status.Status.TheVariants.{Done, Refused}
pub use Rattle.rc_audit.specs.GoodReports.{IsVerdict, bare_lines, good_lines, op_lines, plans_in_lines, run_lines}
pub use Rattle.rc_audit.specs.PlanLinesLaws.{plan_lines_are_written}
pub use Rattle.rc_audit.specs.VerdictLaws.{one_verdict}
pub use Rattle.rc_audit.specs.declared.form.Form.{Form}
pub use Rattle.rc_audit.specs.declared.verdict.Verdict.TheVariants.{Legal}
pub use Rattle.rc_command.specs.declared.command.TextCommand.TheVariants.{Audit, AuditGroup, AuditJournal, Group, Run}
pub use Rattle.rc_embed.specs.Opened.{IsAskedBy, IsRefusedWith, IsStoreOfTexts, OpenSeen, spec_asked}
pub use Rattle.rc_embed.specs.OpenedLaws.{only_declared, opened_declared}
pub use Rattle.rc_embed.specs.declared.fault.OpenFault.{OpenFault}
pub use Rattle.rc_embed.specs.declared.fault.OpenFault.TheVariants.{Line, Memory, Options, Plan, PlanLine, Rule, ShapeLine, TooLong}
pub use Rattle.rc_handplan.specs.Chosen.{AllKeepRules, AreChosen, IsChosenBy, IsFirstRefused, plan_for}
pub use Rattle.rc_handplan.specs.ChosenLaws.{one_chosen_plan}
pub use Rattle.rc_handplan.specs.Forms.{words_of_form}
pub use Rattle.rc_handplan.specs.HandGrammar.{HandReading, after_head, after_op, after_statement, alone_by, are_end, closed_by, hands_from, hands_reading_to, op_in_head, op_in_words, plans_of, says_end, statement_by, statement_in, with_next}
pub use Rattle.rc_handplan.specs.HandGrammarLaws.{ends_at, reads_head, reads_statement}
pub use Rattle.rc_handplan.specs.Hands.{AllHaveSets, AreHands, HasSet, HaveSets, is_of, last_plan, onto_last, ops_of, with_plan, with_statement}
pub use Rattle.rc_handplan.specs.HandsLaws.{read_hands, read_sets}
pub use Rattle.rc_handplan.specs.PlansText.{OpsHaveSets, plans_alone}
pub use Rattle.rc_handplan.specs.Starts.{BeginsEnd, BeginsOtherwise, BeginsPlan, Closes}
pub use Rattle.rc_handplan.specs.StartsLaws.{start_is_first}
pub use Rattle.rc_handplan.specs.Statements.{column_name, columns_named, form_of_statement, statement_of}
pub use Rattle.rc_handplan.specs.declared.hand.Hand.{Hand}
pub use Rattle.rc_handplan.specs.declared.refusal.HandRule.TheVariants.{H3}
pub use Rattle.rc_handplan.specs.declared.starts.Closing.{Closing}
pub use Rattle.rc_inline.specs.Placing.{embedded}
pub use Rattle.rc_plan.specs.Compiled.{ArePlansOf, plan_at}
pub use Rattle.rc_plan.specs.PlanRules.{AreKnown, IsKnown, KeepsPlanRules}
pub use Rattle.rc_plan.specs.PlanRulesLaws.{refused_law}
pub use Rattle.rc_plan.specs.PlanText.{column_text, lock_mode_text, plan_text, read_mode_text, statement_text, which_text}
pub use Rattle.rc_plan.specs.declared.refusal.PlanRefusal.{PlanRefusal}
pub use Rattle.rc_plan.specs.declared.statement.ReadMode.{ReadMode}
pub use Rattle.rc_plan.specs.declared.statement.ReadMode.TheVariants.{Lookup, Scan}
pub use Rattle.rc_plan.specs.declared.statement.Statement.{Statement}
pub use Rattle.rc_plan.specs.declared.statement.Statement.TheVariants.{Apply, CheckAbsent, CheckDep, CheckFound, Commit, Emit, Lock, Probe, Read, Release}
pub use Rattle.rc_plan.specs.declared.statement.Which.{Which}
pub use Rattle.rc_query.specs.PlannedLaws.{one_planned, planned_accepted}
pub use Rattle.rc_reader.specs.FirstBroken.{AreTaken}
pub use Rattle.rc_reader.specs.Forms.{FormText, all_plain, column_form, column_line, dependency_by, dependency_line, dependency_of, edge_form, edge_line, end_form, end_line, form_of, header_form, header_line, insert_line, is_arrow, is_colon, lock_form, lock_line, node_form, node_line, onto_words, operation_form, place_form, place_line, plain_words_of, query_by, query_form, query_line, query_of, ranges_by, remove_line, split_at_arrow, split_at_colon, split_by, split_ranges, stripes_read, update_form, update_line}
pub use Rattle.rc_reader.specs.FormsLaws.{IsFormed, formed}
pub use Rattle.rc_reader.specs.Grammar.{After, Broken, Reading, after_bytes, after_form_of, after_words, ended_by, header_version, is_end, nothing_after, reading_from, spec_reading, version_of}
pub use Rattle.rc_reader.specs.InRangeLaws.{in_range-empty, in_range-keeps}
pub use Rattle.rc_reader.specs.Judging.{judged}
pub use Rattle.rc_reader.specs.MembersLaws.{distinct_apart, distinct_right, test_from_apart, test_from_distinct}
pub use Rattle.rc_reader.specs.Names.{has_unknown, is_refused_name, is_unknown, names_twice, number_among, numbers_of}
pub use Rattle.rc_reader.specs.ReadKeepsLaws.{read_keeps, read_keeps_version, read_populated, spec_read, taken_keeps, taken_keeps_version}
pub use Rattle.rc_reader.specs.ReadingLaws.{ends, goes_on}
pub use Rattle.rc_reader.specs.Rules.{after_form, breaks_known, breaks_limit, breaks_names, breaks_order, breaks_range, lacks, number_named, repeats, set_named, share, with_line}
pub use Rattle.rc_reader.specs.RulesLaws.{IsSpecLineTaken, taken}
pub use Rattle.rc_reader.specs.Sections.{is_full, is_kind, is_misplaced, limit_of, line_count, line_kind}
pub use Rattle.rc_reader.specs.TextLimits.{HasUpdates, IsKindOf, KeepsRanges, KeepsTextLimits, KeepsVersion}
pub use Rattle.rc_reader.specs.TextLimitsLaws.{limits-empty, limits-keeps, second_version, version-empty, version-keeps}
pub use Rattle.rc_reader.specs.Versions.{most_columns, version_word}
pub use Rattle.rc_reader.specs.WellNamedLaws.{well_named-empty, well_named-keeps}
pub use Rattle.rc_reader.specs.declared.refusal.LineRule.{LineRule}
pub use Rattle.rc_reader.specs.declared.refusal.LineRule.TheVariants.{S3, S4, S5, S6, S7, S8}
pub use Rattle.rc_reader.specs.declared.sections.LineKind.{LineKind}
pub use Rattle.rc_reader.specs.declared.version.Version.{Version}
pub use Rattle.rc_reader.specs.declared.version.Version.TheVariants.{One, Two}
pub use Rattle.rc_rel.specs.History.{AreLegalFrom, IsLegal, IsNumbered, after_steps, calls_of, own, replay, steps_of}
pub use Rattle.rc_rel.specs.HistoryLaws.{after_steps-append}
pub use Rattle.rc_rel.specs.declared.entry.Entry.{Entry}
pub use Rattle.rc_rel.specs.declared.entry.Step.{Step}
pub use Rattle.rc_row.specs.Passes.{compiled_of, spec_of}
pub use Rattle.rc_spec.specs.Acceptance.{IsAccepted, IsSealed}
pub use Rattle.rc_spec.specs.AcceptanceLaws.{one_first_broken, refused_not_accepted}
pub use Rattle.rc_spec.specs.Calls.{Fits, FitsAt, all_columns, value_columns}
pub use Rattle.rc_spec.specs.CallsLaws.{tuple_columns}
pub use Rattle.rc_spec.specs.Decomposition.{edge_at, no_edge}
pub use Rattle.rc_spec.specs.InRange.{AreBelow, HasColumnAndNode, HasOutsAmong, IsInRange, IsSetBelow}
pub use Rattle.rc_spec.specs.Names.{AreNames, IsWellNamed, begins_name, class_names, column_names, edge_names, is_name, is_name_byte, node_names, op_names}
pub use Rattle.rc_spec.specs.Placement.{class_at, no_class, no_op, op_at}
pub use Rattle.rc_spec.specs.Plain.{at_most, first_broken_dependency, inserted_unless, plain, plain_by, removed_first, row_cmp, rows_of, updated_first, updated_unless, without}
pub use Rattle.rc_spec.specs.PlainLaws.{each_after, plain-known, plain_grows}
pub use Rattle.rc_spec.specs.Ranges.{AreBounded, IsBounded, is_asked, range_column, range_columns}
pub use Rattle.rc_spec.specs.RefusalText.{no_column, refusal_text}
pub use Rattle.rc_spec.specs.Spec.{empty}
pub use Rattle.rc_spec.specs.declared.call.Call.{Call}
pub use Rattle.rc_spec.specs.declared.call.Reply.{Reply}
pub use Rattle.rc_spec.specs.declared.call.Reply.TheVariants.{Absent, Conflict, Inserted, Many, Present, Removed, Rows, Updated}
pub use Rattle.rc_spec.specs.declared.items.Class.{Class}
pub use Rattle.rc_spec.specs.declared.items.ColKind.{ColKind}
pub use Rattle.rc_spec.specs.declared.items.ColKind.TheVariants.{Num, Text}
pub use Rattle.rc_spec.specs.declared.items.Column.{Column}
pub use Rattle.rc_spec.specs.declared.items.Edge.{Edge}
pub use Rattle.rc_spec.specs.declared.items.EdgeKind.{EdgeKind}
pub use Rattle.rc_spec.specs.declared.items.EdgeKind.TheVariants.{Hash, Singleton}
pub use Rattle.rc_spec.specs.declared.items.Node.{Node}
pub use Rattle.rc_spec.specs.declared.items.Op.{Op}
pub use Rattle.rc_spec.specs.declared.items.OpKind.{OpKind}
pub use Rattle.rc_spec.specs.declared.items.OpKind.TheVariants.{Insert, Query, Remove, Update}
pub use Rattle.rc_spec.specs.declared.items.Place.{Place}
pub use Rattle.rc_spec.specs.declared.lock.Mode.{Mode}
pub use Rattle.rc_spec.specs.declared.lock.Mode.TheVariants.{Exclusive, Shared}
pub use Rattle.rc_spec.specs.declared.range.Range.{Range}
pub use Rattle.rc_spec.specs.declared.refusal.Refusal.{Refusal}
pub use Rattle.rc_spec.specs.declared.spec.Spec.{Spec}
pub use Rattle.rc_text.specs.Bytes.{is_blank, is_plain_byte, is_quotable_byte, is_quote, is_text_byte}
pub use Rattle.rc_text.specs.Lines.{ContentLine, IsPrintable, TextPlace, bytes_of_content, bytes_of_line, content_among, content_from, is_content, lacks_line_feed, lines_of, onto_first, past_end_of, printed_lines, start_of}
pub use Rattle.rc_text.specs.LinesLaws.{content-printed, sum_lines}
pub use Rattle.rc_text.specs.NextWordLaws.{found_comes, words_of-written}
pub use Rattle.rc_text.specs.Numbers.{is_number, number_of, u64_of}
pub use Rattle.rc_text.specs.NumbersLaws.{is_number-decimal, plain-number, u64_of-decimal}
pub use Rattle.rc_text.specs.Words.{ComesNext, Found, IsPlain, IsWritable, WordText, found_then, next_word_of, plain_text, quoted_text, words_of, words_within, written}
pub use Rattle.rc_text.specs.declared.words.WordFault.{WordFault}
pub use Rattle.rc_tuple.specs.ColSet.{inter}
pub use Rattle.rc_tuple.specs.ColSetLaws.{in_range_below, in_range_bounds, rising_range}
pub use Rattle.rc_tuple.specs.MergeLaws.{value_in}
pub use Rattle.rc_tuple.specs.Relation.{breaks}
pub use Rattle.rc_tuple.specs.RisingSet.{AreDistinct, In, IsRising, gather, put}
pub use Rattle.rc_tuple.specs.RisingSetLaws.{append_in_right, distinct_left, each_in, gather-rising, gather_in, get_or_in, in_append, in_each, in_filter, in_flat_map, in_gather, in_list_all, in_map, list_all_in, map_in, nat_order, not_below_itself, number_lists_order, same_rising, slice_get_in}
pub use Rattle.rc_tuple.specs.Tuple.{IsTuple, Pairs, agree_on, cols_of, matches, pair_cmp, pick, tuple_cmp, value}
pub use Rattle.rc_tuple.specs.TupleLaws.{cols_of-zip, one_pair, pair_order, rising_pairs}
pub use Rattle.rc_tuple.specs.declared.dep.Dep.{Dep}
pub use Rattle.rc_values.specs.Ranks.{rank_of, text_cmp, texts_of}
pub use Rattle.rc_values.specs.RanksLaws.{rank_of-within, rising_texts_of}
pub use Rattle.rc_work.specs.CallColumnsLaws.{HasKnownColumns-named, written_columns_at-few}
pub use Rattle.rc_work.specs.CallLaws.{IsOfWords-call_of}
pub use Rattle.rc_work.specs.CutLaws.{AreTexts, Ends, cut, decimal_not, decimal_one, digits, ends_stop, rank_one}
pub use Rattle.rc_work.specs.Drafts.{IsDraft, IsRawCall, IsRawTurn}
pub use Rattle.rc_work.specs.DraftsLaws.{IsDraft-after_bytes, IsDraft-draft_of, IsThreadCount, threads_of-count}
pub use Rattle.rc_work.specs.FirstBroken.{ContentMeans, LinesMean, work_language}
pub use Rattle.rc_work.specs.Fitting.{AreOfWords, HasThreads, IsOfWords, RoundsFit, TurnsFit}
pub use Rattle.rc_work.specs.Limits.{HasKnownTexts, HasKnownValues, HasTurnSize, KeepsLimits, KnowsTexts, count_calls}
pub use Rattle.rc_work.specs.LineForms.{all_read, alone, call_form, call_line, group_form, group_line, is_value, or_call, round_line, thread_form, words_read}
pub use Rattle.rc_work.specs.LineRules.{number_by, raw_call, raw_value, raw_values, thread_in}
pub use Rattle.rc_work.specs.PartGrammar.{WorkPart, part_reading}
pub use Rattle.rc_work.specs.PartReadingLaws.{works_are_parts}
pub use Rattle.rc_work.specs.PrefixLaws.{others_are}
pub use Rattle.rc_work.specs.Printed.{bounds_given, given, kind_at, outs_of, pair_text, pair_words, reply_words, row_text, spaced, step_words, step_words_at, value_text, values_and_reply, words_text}
pub use Rattle.rc_work.specs.Ranking.{ranked_call, ranked_round, ranked_rounds, ranked_value, texts_in, texts_in_call, texts_in_round, texts_in_turn, texts_in_value, work_by, work_of, work_reading}
pub use Rattle.rc_work.specs.RankingLaws.{KeepsLimits-work_with, KnowsTexts-work_of, RoundsFit-ranked_rounds}
pub use Rattle.rc_work.specs.RawTurns.{count_raw}
pub use Rattle.rc_work.specs.RawTurnsLaws.{each_push}
pub use Rattle.rc_work.specs.ReadingLaws.{are_whole, means-content}
pub use Rattle.rc_work.specs.Report.{count_line, entry_lines, final_lines, group_head, head_lines, journal_lines, report, step_line}
pub use Rattle.rc_work.specs.Runs.{HasTurn, Runs, thread_calls}
pub use Rattle.rc_work.specs.RunsLaws.{entries_are_turns, runs_make_calls}
pub use Rattle.rc_work.specs.UnfilledGroupsLaws.{HoldsOfCalls, holds_call}
pub use Rattle.rc_work.specs.WholeText.{place_after}
pub use Rattle.rc_work.specs.WorkGrammar.{broken_at, draft_of, reading_all, threads_of}
pub use Rattle.rc_work.specs.declared.also.Also.{Also}
pub use Rattle.rc_work.specs.declared.also.Also.TheVariants.{Groups, Nothing}
pub use Rattle.rc_work.specs.declared.work.Turn.{Turn}
pub use Rattle.rc_work.specs.declared.work.Work.{Work}
pub use Rattle.std.specs.Char.{is_ascii_digit, is_ascii_lowercase}
pub use Rattle.std.specs.Fmt.{decimal}
pub use Rattle.std.specs.List.{AllByRecursion, before_first, cons_option, count_by, enumerate_from, filter_map, flat_map, join_with_byte, list_all, list_any, position_from, position_or_len, range_with_len, slice_get, zip}
pub use Rattle.std.specs.Option.{ok_or, option_and_then, option_map}
pub use Rattle.std.specs.Ordering.{match_ordering, nat_cmp}
pub use Rattle.std.specs.Prelude.{IfSome, codes, filter, is_none, is_some, nat_le, sum_by, unwrap_or}
pub use Rattle.std.specs.Str.{bytes_eq}
pub use Rattle.std.specs.declared.cmp.Ordering.{Ordering}
pub use Rattle.std.specs.declared.cmp.Ordering.TheVariants.{Equal, Greater, Less}
