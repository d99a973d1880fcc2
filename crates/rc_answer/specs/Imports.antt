-- The names that files of specs/ take from the crates below and from std, passed on from one place.
pub use Rattle.rc_audit.specs.GoodReports.{IsGoodReport, IsVerdict}
pub use Rattle.rc_audit.specs.VerdictLaws.{one_verdict}
pub use Rattle.rc_audit.specs.declared.form.Form.{Form}
pub use Rattle.rc_audit.specs.declared.verdict.Verdict.{Verdict}
pub use Rattle.rc_command.specs.declared.command.TextCommand.{TextCommand}
pub use Rattle.rc_command.specs.declared.command.TextCommand.TheVariants.{Audit, AuditGroup, AuditJournal, Check, Dot, DotPlan, Group, Open, Plan, Run}
pub use Rattle.rc_dot.specs.Dot.{drawing_text, plan_drawing_text}
pub use Rattle.rc_generate.specs.Generated.{generated, generated_calls}
pub use Rattle.rc_generate.specs.GeneratedLaws.{generated_has_single_turns, generated_summary_is_one_threads}
pub use Rattle.rc_generate.specs.Sample.{sample_graph}
pub use Rattle.rc_generate.specs.SampleAcceptance.{sample_is_accepted}
pub use Rattle.rc_generate.specs.Summary.{one_thread_summary, summary}
pub use Rattle.rc_generate.specs.SummaryText.{summary_text}
pub use Rattle.rc_handplan.specs.Chosen.{AllKeepRules, AreChosen, IsFirstRefused}
pub use Rattle.rc_handplan.specs.FirstBroken.{BeginNoPlan}
pub use Rattle.rc_handplan.specs.FirstBrokenLaws.{nothing_is_read}
pub use Rattle.rc_handplan.specs.HandGrammar.{HandReading, hands_reading}
pub use Rattle.rc_handplan.specs.RuleText.{hand_rule_text, plan_refusal_text}
pub use Rattle.rc_handplan.specs.declared.compiling.HandFault.{HandFault}
pub use Rattle.rc_handplan.specs.declared.hand.Hand.{Hand}
pub use Rattle.rc_handplan.specs.declared.refusal.HandRefusal.{HandRefusal}
pub use Rattle.rc_io.specs.Bytes.{Adds, AddsPrefix}
pub use Rattle.rc_io.specs.Counts.{Rose}
pub use Rattle.rc_open.specs.ShapeText.{shapes_text}
pub use Rattle.rc_place.specs.declared.acceptance.AcceptFault.{AcceptFault}
pub use Rattle.rc_plan.specs.Compiled.{ArePlansOf, SpecWithPlans, plan_at}
pub use Rattle.rc_plan.specs.PlanRulesLaws.{refused_law}
pub use Rattle.rc_plan.specs.PlanText.{plan_text}
pub use Rattle.rc_plan.specs.declared.refusal.PlanRefusal.{PlanRefusal}
pub use Rattle.rc_plan.specs.declared.statement.Statement.{Statement}
pub use Rattle.rc_query.specs.Planned.{IsPlanned}
pub use Rattle.rc_reader.specs.Grammar.{Broken, Reading, spec_of, spec_reading}
pub use Rattle.rc_reader.specs.RuleText.{line_rule_text}
pub use Rattle.rc_reader.specs.Versions.{version_number}
pub use Rattle.rc_reader.specs.declared.refusal.ReadRefusal.{ReadRefusal}
pub use Rattle.rc_rel.specs.History.{AllFit, AreLegalFrom, IsLegal, IsNumbered, after_steps, calls_of, own, relation_at, replay, states, steps_of}
pub use Rattle.rc_rel.specs.HistoryLaws.{states_satisfy, steps_of-append}
pub use Rattle.rc_rel.specs.PlaceLaws.{legal_last}
pub use Rattle.rc_rel.specs.declared.entry.Entry.{Entry}
pub use Rattle.rc_rel.specs.declared.entry.Step.{Step}
pub use Rattle.rc_spec.specs.Acceptance.{IsAccepted, IsFirstBroken}
pub use Rattle.rc_spec.specs.AcceptanceLaws.{refused_not_accepted}
pub use Rattle.rc_spec.specs.Placement.{op_at}
pub use Rattle.rc_spec.specs.Plain.{plain}
pub use Rattle.rc_spec.specs.declared.refusal.Refusal.{Refusal}
pub use Rattle.rc_spec.specs.declared.spec.Spec.{Spec}
pub use Rattle.rc_text.specs.Lines.{ContentLine, TextPlace, bytes_of_content, content_from, past_end_of, printed_lines}
pub use Rattle.rc_tuple.specs.Relation.{Satisfies}
pub use Rattle.rc_tuple.specs.RisingSet.{In}
pub use Rattle.rc_tuple.specs.RisingSetLaws.{append_in_right}
pub use Rattle.rc_tuple.specs.Tuple.{Pairs}
pub use Rattle.rc_work.specs.DraftsLaws.{IsDraft-reading_all}
pub use Rattle.rc_work.specs.Fitting.{HasThreads}
pub use Rattle.rc_work.specs.GroupsLaws.{IsOfAlso-reading_all}
pub use Rattle.rc_work.specs.Limits.{HasSingleTurns}
pub use Rattle.rc_work.specs.LineRules.{op_number}
pub use Rattle.rc_work.specs.OpenGrammar.{has_later_forms, open_reading}
pub use Rattle.rc_work.specs.OpenRunLaws.{BringNone, with_no_shapes, without_shapes_works_are_read}
pub use Rattle.rc_work.specs.PartGrammar.{WorkPart, part_reading}
pub use Rattle.rc_work.specs.PartLaws.{parts_are_works}
pub use Rattle.rc_work.specs.Prefix.{IsLastLetter}
pub use Rattle.rc_work.specs.PrefixLaws.{cut_texts_are_refused}
pub use Rattle.rc_work.specs.Printed.{words_text}
pub use Rattle.rc_work.specs.Ranking.{work_by, work_of, work_reading}
pub use Rattle.rc_work.specs.RankingLaws.{HasSingleTurns-work_with, HasThreads-work_with, turns_without_groups_are_single}
pub use Rattle.rc_work.specs.Report.{report}
pub use Rattle.rc_work.specs.Runs.{HasSingleSteps, MakesRounds, Runs, thread_calls, thread_turns, turns_of}
pub use Rattle.rc_work.specs.RunsLaws.{runs_make_calls, runs_make_turns, single_turns_are_single_steps}
pub use Rattle.rc_work.specs.Shapes.{with_operations}
pub use Rattle.rc_work.specs.ShapesLaws.{with_none}
pub use Rattle.rc_work.specs.WholeText.{Whole, place_after, text_reading, text_reading_by, whole_by}
pub use Rattle.rc_work.specs.WorkGrammar.{draft_of, reading_all}
pub use Rattle.rc_work.specs.declared.also.Also.{Also}
pub use Rattle.rc_work.specs.declared.also.Also.TheVariants.{Groups, Nothing}
pub use Rattle.rc_work.specs.declared.open_work.OpenWork.{OpenWork}
pub use Rattle.rc_work.specs.declared.work.Work.{Work}
pub use Rattle.std.specs.List.{flat_map, range_with_len, slice_get}
pub use Rattle.std.specs.Prelude.{IfSome, IsSome, List, ℕ}
