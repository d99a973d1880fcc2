-- The names that files of proofs/ take from the crates below, from std and from specs/, passed on from one place.
pub use Rattle.rc_answer.specs.Answers.{AnswersAlone, AnswersAudit, AnswersByHand, AnswersChosen, AnswersHands, AnswersOpen, AnswersOpenWork, AnswersPart, AnswersRun, AnswersWork, AnswersWorkBy, IsDrawing, IsJudgement, IsOpenReport, IsPlanDrawing, IsPlanDrawingNamed, IsPlanDrawingOrRefusal, IsPlansText, IsRefusal, IsReport, IsReportBy, IsVerdictText, also_in, verdict_status, verdict_text, work_in_lines}
pub use Rattle.rc_answer.specs.Asked.{IsAskedText}
pub use Rattle.rc_answer.specs.Big.{HasSummaryText, IsBigText, ran_text}
pub use Rattle.rc_answer.specs.Plans.{ArePlanned, op_text, plans_text}
pub use Rattle.rc_answer.specs.Ran.{HasOpenText, HasOpenWorkText, HasRunText, HasTextOf, IsOfItsStore, IsReadAs, IsRunBy, IsRunOf, done_in, entries_in, open_text, outcome_in, run_text, status_in}
pub use Rattle.rc_answer.specs.RanByHand.{HasChosenText}
pub use Rattle.rc_answer.specs.RanLaws.{is_report, report_by, run_by, summary_is_one_threads}
pub use Rattle.rc_answer.specs.Refusals.{IsOfAnOperation, WritesRefusal}
pub use Rattle.rc_answer.specs.Writes.{CountsFaults, Writes, WritesPart, WritesWhole}
pub use Rattle.rc_answer.specs.declared.outcome.Outcome.{Outcome}
pub use Rattle.rc_answer.specs.declared.outcome.Ran.{Ran}
pub use Rattle.rc_answer.specs.declared.status.Status.{Status}
pub use Rattle.rc_answer.specs.declared.status.Status.TheVariants.{Done}
pub use Rattle.rc_answer.specs.declared.status.Stop.{Stop}
pub use Rattle.rc_answer.specs.declared.status.Stop.TheVariants.{Memory, Sink}
pub use Rattle.rc_audit.specs.GoodReports.{IsVerdict}
pub use Rattle.rc_audit.specs.declared.form.Form.{Form}
pub use Rattle.rc_audit.specs.declared.verdict.Verdict.{Verdict}
pub use Rattle.rc_command.specs.declared.command.TextCommand.{TextCommand}
pub use Rattle.rc_dot.specs.Dot.{drawing_text, plan_drawing_text}
pub use Rattle.rc_generate.specs.Generated.{generated}
pub use Rattle.rc_generate.specs.GeneratedLaws.{generated_runs_are_small}
pub use Rattle.rc_generate.specs.Sample.{sample_graph}
pub use Rattle.rc_generate.specs.Summary.{counted, rows_in, summary}
pub use Rattle.rc_generate.specs.SummaryText.{summary_text}
pub use Rattle.rc_generate.specs.declared.summary.Summary.{Summary}
pub use Rattle.rc_handplan.specs.Answers.{HasReadPlans}
pub use Rattle.rc_handplan.specs.Chosen.{AllKeepRules, AreChosen, IsRefusedFor}
pub use Rattle.rc_handplan.specs.HandGrammar.{HandReading, hands_reading}
pub use Rattle.rc_handplan.specs.Hands.{AreHands}
pub use Rattle.rc_handplan.specs.declared.compiling.HandFault.{HandFault}
pub use Rattle.rc_handplan.specs.declared.hand.Hand.{Hand}
pub use Rattle.rc_instance.specs.Instance.{IsOfRelation}
pub use Rattle.rc_io.specs.Bytes.{Adds, AddsPrefix}
pub use Rattle.rc_io.specs.BytesLaws.{adds_more, adds_prefix_all, adds_prefix_longer, adds_prefix_more}
pub use Rattle.rc_open.specs.ExtendedLaws.{sealed_over}
pub use Rattle.rc_open.specs.ShapeText.{shapes_text}
pub use Rattle.rc_open.specs.ShapeTextLaws.{further_text}
pub use Rattle.rc_place.specs.Fault.{IfHandedBack}
pub use Rattle.rc_place.specs.declared.acceptance.AcceptFault.{AcceptFault}
pub use Rattle.rc_plan.specs.Compiled.{ArePlansOf, IsCompiled, SpecWithPlans, plan_at}
pub use Rattle.rc_plan.specs.PlanText.{plan_text}
pub use Rattle.rc_plan.specs.declared.statement.Statement.{Statement}
pub use Rattle.rc_query.specs.Planned.{IsPlanned}
pub use Rattle.rc_reader.specs.Answers.{IsRead, ReadsAs, rest_place}
pub use Rattle.rc_reader.specs.Grammar.{Broken, Reading, spec_of, spec_reading}
pub use Rattle.rc_reader.specs.Names.{number_among}
pub use Rattle.rc_reader.specs.declared.reading.Rest.{Rest}
pub use Rattle.rc_reader.specs.declared.refusal.ReadRefusal.{ReadRefusal}
pub use Rattle.rc_rel.specs.History.{AllFit, replay, steps_of}
pub use Rattle.rc_rel.specs.declared.entry.Entry.{Entry}
pub use Rattle.rc_runner.specs.Running.{HasRun}
pub use Rattle.rc_spec.specs.Acceptance.{IsAccepted, IsFirstBroken, IsSealed}
pub use Rattle.rc_spec.specs.AcceptanceLaws.{refused_not_accepted}
pub use Rattle.rc_spec.specs.InRange.{IsOpAmong}
pub use Rattle.rc_spec.specs.Names.{IsWellNamed, op_names}
pub use Rattle.rc_spec.specs.Placement.{op_at}
pub use Rattle.rc_spec.specs.declared.items.Op.{Op}
pub use Rattle.rc_spec.specs.declared.spec.Spec.{Spec}
pub use Rattle.rc_store.specs.Closed.{ClosedSeen, HasOneHistory}
pub use Rattle.rc_text.specs.Lines.{ContentLine, TextPlace, content_from, past_end_of, printed_lines}
pub use Rattle.rc_tuple.specs.RisingSet.{In}
pub use Rattle.rc_tuple.specs.RisingSetLaws.{append_in_left, append_in_right}
pub use Rattle.rc_tuple.specs.Tuple.{Pairs}
pub use Rattle.rc_work.specs.Answers.{IsRestBehind, ReadsPart}
pub use Rattle.rc_work.specs.Limits.{HasSingleTurns}
pub use Rattle.rc_work.specs.LineRules.{op_number}
pub use Rattle.rc_work.specs.OpenGrammar.{open_reading}
pub use Rattle.rc_work.specs.PartGrammar.{WorkPart, part_reading}
pub use Rattle.rc_work.specs.Ranking.{work_reading}
pub use Rattle.rc_work.specs.Report.{parts, report}
pub use Rattle.rc_work.specs.ReportLaws.{report_text}
pub use Rattle.rc_work.specs.Runs.{Runs}
pub use Rattle.rc_work.specs.Shapes.{IsShapeOf, with_operations}
pub use Rattle.rc_work.specs.WholeText.{place_after}
pub use Rattle.rc_work.specs.declared.also.Also.{Also}
pub use Rattle.rc_work.specs.declared.also.Also.TheVariants.{Nothing}
pub use Rattle.rc_work.specs.declared.open_work.OpenWork.{OpenWork}
pub use Rattle.rc_work.specs.declared.work.Work.{Work}
pub use Rattle.std.proofs.Common.{refl, subst, sym}
pub use Rattle.std.proofs.lemmas.Grind.{flat_map-append}
pub use Rattle.std.proofs.lemmas.List.{append-nil, append_assoc, take-append-drop, take_all, take_more, take_rest}
pub use Rattle.std.proofs.lemmas.List.FromFn.{length-range_with_len}
pub use Rattle.std.proofs.lemmas.Option.{get_or_from_slice_get, slice_get_within}
pub use Rattle.std.specs.List.{AllByRecursion, flat_map, range_with_len, slice_get}
pub use Rattle.std.specs.Option.{option_map}
pub use Rattle.std.specs.Prelude.{IfOk, IfSome, IsSome, OnOk, option_copied}
pub use Rattle.std.specs.Result.{IsErr, OnErr, result_and}
