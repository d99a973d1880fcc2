-- The names that files of specs/ take from the crates below and from std, passed on from one place.
pub use Rattle.rc_instance.specs.Instance.{IsOfRelation, held_from}
pub use Rattle.rc_plan.specs.Compiled.{SpecWithPlans, plan_at}
pub use Rattle.rc_plan.specs.PlanText.{plan_lines, plan_text, statement_text}
pub use Rattle.rc_plan.specs.declared.statement.Statement.{Statement}
pub use Rattle.rc_rel.specs.History.{AreLegalFrom, IsLegal, IsNumbered, after_steps, own, replay, steps_of}
pub use Rattle.rc_rel.specs.HistoryLaws.{steps_of-append}
pub use Rattle.rc_rel.specs.OwnLaws.{numbered_more, own-append}
pub use Rattle.rc_rel.specs.declared.entry.Entry.{Entry}
pub use Rattle.rc_rel.specs.declared.entry.Step.{Step}
pub use Rattle.rc_spec.specs.Calls.{Fits}
pub use Rattle.rc_spec.specs.Placement.{op_at}
pub use Rattle.rc_spec.specs.Plain.{plain}
pub use Rattle.rc_spec.specs.declared.call.Call.{Call}
pub use Rattle.rc_spec.specs.declared.call.Reply.{Reply}
pub use Rattle.rc_spec.specs.declared.items.Op.{Op}
pub use Rattle.rc_spec.specs.declared.spec.Spec.{Spec}
pub use Rattle.rc_text.specs.Lines.{ContentLine, bytes_of_content, printed_lines}
pub use Rattle.rc_tuple.specs.RisingSet.{In}
pub use Rattle.rc_tuple.specs.RisingSetLaws.{append_in_right, each_in}
pub use Rattle.rc_tuple.specs.Tuple.{Pairs}
pub use Rattle.rc_tuple.specs.declared.memory.Memory.{Memory}
pub use Rattle.rc_work.specs.CutLaws.{decimal_one}
pub use Rattle.rc_work.specs.Fitting.{HasThreads, RoundsFit, TurnsFit}
pub use Rattle.rc_work.specs.Limits.{HasTurnSize, KeepsLimits}
pub use Rattle.rc_work.specs.Made.{GoesOn, HasPassesBelow, HasTurnsBelow, entry_after, plain_steps}
pub use Rattle.rc_work.specs.MadeLaws.{both_more, calls_of_plain, legal_are_plain, legal_more, made_in_order, one_pass, passes_append, rounds_go_on}
pub use Rattle.rc_work.specs.Printed.{spaced, step_words_at, values_and_reply, words_text}
pub use Rattle.rc_work.specs.Report.{count_line, entry_lines, final_lines, group_head, journal_lines, report, step_line}
pub use Rattle.rc_work.specs.RunLengthLaws.{below_append, runs_have_all_turns, thread_turns-append}
pub use Rattle.rc_work.specs.Runs.{MakesRounds, Runs, thread_turns, turns_of}
pub use Rattle.rc_work.specs.RunsLaws.{entries_are_turns}
pub use Rattle.rc_work.specs.declared.work.Turn.{Turn}
pub use Rattle.rc_work.specs.declared.work.Work.{Work}
pub use Rattle.std.specs.Fmt.{decimal}
pub use Rattle.std.specs.List.{AllByRecursion, enumerate_from, flat_map, range_with_len, slice_get}
pub use Rattle.std.specs.Prelude.{codes, sum_by}
