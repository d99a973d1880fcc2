-- The names that files of proofs/ take from the crates below, from std and from specs/, passed on from one place.
pub use Rattle.rc_audit.specs.Cursors.{AreCursors, HasGoneOn, HasLeft, HaveBegun, cursor_at, left_in, turns_from}
pub use Rattle.rc_audit.specs.CursorsLaws.{IsNextTurn, begun_more, begun_none, goes_on, gone_on, has_left_by, left_at_start, next_turn, none_from, none_left}
pub use Rattle.rc_audit.specs.GoodReports.{BeginsGood, IsGoodReport, IsVerdict, op_lines}
pub use Rattle.rc_audit.specs.Judged.{IsJudgeable, IsJudged, IsOfThread, closing_lines, lines_after, next_lines, opening_lines, turn_head, turn_lines}
pub use Rattle.rc_audit.specs.JudgedLaws.{HasFewCalls, IsNextLine, entry_has_few, judged_begins, judged_came, judged_end, judged_more, judged_next, judged_round, judged_same, judged_start, judged_wants, next_begins, one_thread, turn_has_few}
pub use Rattle.rc_audit.specs.Judging.{HasMet, HasMore, HasPassed, HasPending, HasSomeLeft, HaveBeenPrinted, IsAmong, IsAtStage, IsBefore, IsBetween, IsChosen, IsClosing, IsFirstFilled, IsOfSame, IsOpening, Judges, judged_form, judged_plans, judged_work, round_at, tail_lines, verdict_at}
pub use Rattle.rc_audit.specs.Keeping.{Keeps}
pub use Rattle.rc_audit.specs.Left.{IsMade}
pub use Rattle.rc_audit.specs.LeftLaws.{turn_mine}
pub use Rattle.rc_audit.specs.Standing.{no_turns, stands_exist, turns_in}
pub use Rattle.rc_audit.specs.WantedLaws.{IsWanted, begins_shorter, closing_is_wanted, good_begins, more_is_bad, opening_is_wanted, other_is_bad, pending_is_wanted, wanted_is_not_all, whole_is_good}
pub use Rattle.rc_audit.specs.declared.closing.Closing.{Closing}
pub use Rattle.rc_audit.specs.declared.entries.Entries.{Entries}
pub use Rattle.rc_audit.specs.declared.fault.Fault.{Fault}
pub use Rattle.rc_audit.specs.declared.form.Form.{Form}
pub use Rattle.rc_audit.specs.declared.form.Form.TheVariants.{Group, Run}
pub use Rattle.rc_audit.specs.declared.judge.Judge.{Judge}
pub use Rattle.rc_audit.specs.declared.opening.Opening.{Opening}
pub use Rattle.rc_audit.specs.declared.relation.Relation.{Relation}
pub use Rattle.rc_audit.specs.declared.stage.Stage.{Stage}
pub use Rattle.rc_audit.specs.declared.verdict.Verdict.{Verdict}
pub use Rattle.rc_audit.specs.declared.verdict.Verdict.TheVariants.{Bad}
pub use Rattle.rc_fragment.specs.Holder.{GoesOn, HasRisen, HeldStripe, IsHeld, held_of}
pub use Rattle.rc_instance.specs.Instance.{AreReleased, IsOfRelation, Stripe, held_from, holding, offered_at}
pub use Rattle.rc_instance.specs.InstanceLaws.{IsHeldFrom, held_of-holding, in_held_from, offered-length, released_law}
pub use Rattle.rc_machine.specs.Machine.{AreTakenAsOffered, HasAnswered, HasServed}
pub use Rattle.rc_machine.specs.Offers.{OffersAll}
pub use Rattle.rc_machine.specs.OffersLaws.{others_after, still_offers, taken_of_relation}
pub use Rattle.rc_machine.specs.ReplyLaws.{replied_of}
pub use Rattle.rc_plan.specs.Compiled.{SpecWithPlans, plan_at}
pub use Rattle.rc_plan.specs.PlanText.{statement_text}
pub use Rattle.rc_plan.specs.declared.statement.Statement.{Statement}
pub use Rattle.rc_rel.specs.History.{after_steps, replay, steps_of}
pub use Rattle.rc_rel.specs.HistoryLaws.{after_steps-append}
pub use Rattle.rc_rel.specs.OwnLaws.{replay_few}
pub use Rattle.rc_rel.specs.declared.entry.Entry.{Entry}
pub use Rattle.rc_rel.specs.declared.entry.Step.{Step}
pub use Rattle.rc_spec.specs.Calls.{Fits}
pub use Rattle.rc_spec.specs.CallsLaws.{plain_keeps_relation}
pub use Rattle.rc_spec.specs.Placement.{op_at}
pub use Rattle.rc_spec.specs.Plain.{plain}
pub use Rattle.rc_spec.specs.PlainLaws.{plain_grows, plain_satisfies}
pub use Rattle.rc_spec.specs.Stripes.{stripe_total}
pub use Rattle.rc_spec.specs.declared.call.Call.{Call}
pub use Rattle.rc_spec.specs.declared.call.Reply.{Reply}
pub use Rattle.rc_spec.specs.declared.spec.Spec.{Spec}
pub use Rattle.rc_text.specs.Lines.{ContentLine, bytes_of_content, content_from, content_of, past_end_of}
pub use Rattle.rc_tuple.specs.RisingSet.{In}
pub use Rattle.rc_tuple.specs.RisingSetLaws.{append_in_left, each_in, get_or_in, slice_get_in, slice_get_there}
pub use Rattle.rc_tuple.specs.Tuple.{Pairs}
pub use Rattle.rc_tuple.specs.declared.memory.Memory.{Memory}
pub use Rattle.rc_work.specs.Made.{HasTurnsBelow, entry_after, plain_steps}
pub use Rattle.rc_work.specs.MadeLaws.{calls_of_plain, replay-more}
pub use Rattle.rc_work.specs.Report.{final_lines, step_line}
pub use Rattle.rc_work.specs.RunLengthLaws.{few_turns, runs_have_all_turns}
pub use Rattle.rc_work.specs.Runs.{thread_turns}
pub use Rattle.rc_work.specs.declared.work.Turn.{Turn}
pub use Rattle.rc_work.specs.declared.work.Work.{Work}
pub use Rattle.std.proofs.Common.{refl, subst, sym}
pub use Rattle.std.proofs.Math.ListN.{drop_of_length-le}
pub use Rattle.std.proofs.lemmas.Bool.{cases_lt, eqb-true, false≢true}
pub use Rattle.std.proofs.lemmas.Bool.Decides.{Decides-eqb}
pub use Rattle.std.proofs.lemmas.List.{append-nil, append_assoc, drop_more, get_or_default, length-append, length-map, length-take-le, map-append, map-id, nil_from_length, take-append-drop, take_all, take_more, with_items_is}
pub use Rattle.std.proofs.lemmas.List.Concat.{flat_map-append}
pub use Rattle.std.proofs.lemmas.List.FromFn.{map-range_with_len_more}
pub use Rattle.std.proofs.lemmas.List.Sums.{sum_by_more_le}
pub use Rattle.std.proofs.lemmas.Option.{get_or_from_slice_get, slice_get-get_or, slice_get_within}
pub use Rattle.std.proofs.lemmas.Result.{err_from_is_err_and}
pub use Rattle.std.proofs.lemmas.Slice.Eq.{starts_is}
pub use Rattle.std.specs.Fmt.{decimal}
pub use Rattle.std.specs.List.{flat_map, range_with_len, slice_get}
pub use Rattle.std.specs.Option.{option_map}
pub use Rattle.std.specs.Prelude.{IfOk, IsSome, List, codes, sum_by}
pub use Rattle.std.specs.Vec.{with_items}
