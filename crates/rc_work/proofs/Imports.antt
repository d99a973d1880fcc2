-- The names that files of proofs/ take from the crates below, from std and from specs/, passed on from one place.
pub use Rattle.rc_reader.specs.Answers.{Refuses, refusal_at, rest_place}
pub use Rattle.rc_reader.specs.Forms.{texts}
pub use Rattle.rc_reader.specs.declared.reading.Rest.{Rest}
pub use Rattle.rc_reader.specs.declared.refusal.LineFault.{LineFault}
pub use Rattle.rc_reader.specs.declared.refusal.LineRule.TheVariants.{S8}
pub use Rattle.rc_reader.specs.declared.refusal.ReadRefusal.{ReadRefusal}
pub use Rattle.rc_reader.specs.declared.version.Version.{Version}
pub use Rattle.rc_rel.specs.History.{StepsFit}
pub use Rattle.rc_spec.specs.InRange.{IsOpAmong}
pub use Rattle.rc_spec.specs.Placement.{no_op, op_at}
pub use Rattle.rc_spec.specs.Ranges.{range_columns}
pub use Rattle.rc_spec.specs.declared.call.Call.{Call}
pub use Rattle.rc_spec.specs.declared.items.Op.{Op}
pub use Rattle.rc_spec.specs.declared.items.OpKind.{OpKind}
pub use Rattle.rc_spec.specs.declared.items.OpKind.TheVariants.{Query}
pub use Rattle.rc_spec.specs.declared.range.Range.{Range}
pub use Rattle.rc_spec.specs.declared.spec.Spec.{Spec}
pub use Rattle.rc_text.specs.Lines.{ContentLine, IsLineStart, TextPlace, content_from, content_of, past_end_of, printed_lines, start_of}
pub use Rattle.rc_text.specs.Reads.{AreRead, Comes, Reads, ReadsLast, Stops}
pub use Rattle.rc_text.specs.declared.language.Unread.{Unread}
pub use Rattle.rc_text.specs.declared.lines.Line.{Line}
pub use Rattle.rc_tuple.specs.RisingSet.{AreDistinct, In}
pub use Rattle.rc_tuple.specs.Tuple.{Pairs, tuple_of, value}
pub use Rattle.rc_work.specs.Answers.{IsRestBehind, IsWorkRefusal, ReadsDraftPart, ReadsLine, ReadsPart, ReadsPartLine, fails_line}
pub use Rattle.rc_work.specs.CallColumns.{HasKnownColumns, columns_at, ranges_at, ranges_of, twice, written_columns_at}
pub use Rattle.rc_work.specs.CallColumnsLaws.{columns_at-below, columns_at-distinct, length-written_columns_at, written_columns_at-parts}
pub use Rattle.rc_work.specs.CallLaws.{length-bounds}
pub use Rattle.rc_work.specs.CallPartsLaws.{call_given, call_unplaced, call_unread, op_given, op_unplaced, op_unread}
pub use Rattle.rc_work.specs.Drafts.{IsDraft, IsOfAlso, IsRawCall, IsRawTurn}
pub use Rattle.rc_work.specs.DraftsLaws.{IsDraft-reading_all}
pub use Rattle.rc_work.specs.Fitting.{AreOfWords, HasThreads, IsOfWords, RoundsFit}
pub use Rattle.rc_work.specs.GroupsLaws.{IsOfAlso-reading_all}
pub use Rattle.rc_work.specs.Limits.{HasSingleTurns, KeepsLimits, KnowsTexts}
pub use Rattle.rc_work.specs.LineForms.{is_value, word_texts}
pub use Rattle.rc_work.specs.LineRules.{is_too_large, op_number, raw_values}
pub use Rattle.rc_work.specs.LineRulesLaws.{length-raw_values, ok}
pub use Rattle.rc_work.specs.OpenAnswers.{ReadsOpenLine, fails_open_line}
pub use Rattle.rc_work.specs.OpenGrammar.{open_all, open_behind, open_language, open_of}
pub use Rattle.rc_work.specs.OpenLaws.{IsOpAmong-shape_op, IsOpenDraft-open_all}
pub use Rattle.rc_work.specs.PartGrammar.{DraftPart, draft_parts, part_all, part_behind, part_reading, work_part_by}
pub use Rattle.rc_work.specs.PartLaws.{draft_part, part_refused}
pub use Rattle.rc_work.specs.Printed.{bounds_given, given, row_text, spaced}
pub use Rattle.rc_work.specs.Ranking.{ranked_call, ranked_round, ranked_rounds, texts_in_call, texts_in_value, work_of}
pub use Rattle.rc_work.specs.RankingLaws.{HasSingleTurns-work_with, HasThreads-work_with, KeepsLimits-work_with, KnowsTexts-work_of, RoundsFit-ranked_over, RoundsFit-ranked_rounds}
pub use Rattle.rc_work.specs.RawTurns.{onto_last}
pub use Rattle.rc_work.specs.RefusalLaws.{IsWorkRefusal-reading_all}
pub use Rattle.rc_work.specs.Report.{step_line}
pub use Rattle.rc_work.specs.ReportLaws.{entry_at, final_after, final_part, final_row, length-parts, part_after, part_entry}
pub use Rattle.rc_work.specs.ShapeForms.{has_mark, is_mark, is_plain, plain_words, shape_text}
pub use Rattle.rc_work.specs.ShapeRules.{shape_place}
pub use Rattle.rc_work.specs.Shapes.{with_operations}
pub use Rattle.rc_work.specs.ShapesAnswers.{ReadsShapeLine, fails_shape_line}
pub use Rattle.rc_work.specs.ShapesGrammar.{shapes_language, shapes_of}
pub use Rattle.rc_work.specs.ShapesGrammarLaws.{shapes_of-are}
pub use Rattle.rc_work.specs.ShapesLaws.{HasKnownColumns-over, with_none}
pub use Rattle.rc_work.specs.WorkGrammar.{broken_at, draft_of, drafts, headed, reading_all, reading_behind}
pub use Rattle.rc_work.specs.declared.also.Also.{Also}
pub use Rattle.rc_work.specs.declared.draft.Draft.{Draft}
pub use Rattle.rc_work.specs.declared.raw.RawTurn.{RawTurn}
pub use Rattle.rc_work.specs.declared.shapes.FoundShape.{FoundShape}
pub use Rattle.rc_work.specs.declared.shapes.OpenDraft.{OpenDraft}
pub use Rattle.rc_work.specs.declared.work.Work.{Work}
pub use Rattle.std.proofs.Common.{arith, length, subst, sym}
pub use Rattle.std.proofs.lemmas.Bool.{false≢true}
pub use Rattle.std.proofs.lemmas.Grind.{common_steps}
pub use Rattle.std.proofs.lemmas.List.{take_at, take_rest}
pub use Rattle.std.proofs.lemmas.Option.{slice_get-get_or, slice_get_past, slice_get_read, unwrap_or-slice_get}
pub use Rattle.std.proofs.lemmas.Result.{err_from_is_err_and}
pub use Rattle.std.specs.List.{AllByRecursion, flat_map, list_all, list_any, position_or_len, slice_get, zip}
pub use Rattle.std.specs.Option.{option_map, option_map_or}
pub use Rattle.std.specs.Prelude.{IfOk, IfSome, codes, unwrap_or}
