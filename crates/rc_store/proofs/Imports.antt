-- The names that files of proofs/ take from the crates below, from std and from specs/, passed on from one place.
pub use Rattle.rc_core.specs.Passes.{IsOfClassLocked, MayCommit, committed}
pub use Rattle.rc_fragment.specs.Fragment.{HasNoRowOf, HasRowOf}
pub use Rattle.rc_fragment.specs.FragmentRows.{FragmentRows, with_promise}
pub use Rattle.rc_fragment.specs.Holder.{HeldStripe, Holding}
pub use Rattle.rc_fragment.specs.Implied.{lowered_all, raised_all}
pub use Rattle.rc_fragment.specs.ImpliedTables.{class_rows}
pub use Rattle.rc_fragment.specs.Tuples.{changes_of_class, with_tuple, without_tuple}
pub use Rattle.rc_fragment.specs.declared.shape.EdgeShape.{EdgeShape}
pub use Rattle.rc_journal.specs.Merge.{AreNumbersBelow, ArePartsOf, places_of}
pub use Rattle.rc_journal.specs.PartEntries.{PartEntries}
pub use Rattle.rc_machine.specs.Machine.{locks_of, stripes_held}
pub use Rattle.rc_machine.specs.ReplyLaws.{told_answer_counts, told_answer_err, told_answer_fault, told_answer_from_ok, told_answer_ok}
pub use Rattle.rc_multi.specs.Group.{AreNowOf, AreOfRelationFor, Covers, HasRunTaking, Suffice, with_step}
pub use Rattle.rc_multi.specs.GroupLocks.{HasOperation, group_locks}
pub use Rattle.rc_multi.specs.Laws.{IsUsedBy}
pub use Rattle.rc_plan.specs.Compiled.{IsCompiled, SpecWithPlans, plan_at}
pub use Rattle.rc_plan.specs.StripeLocks.{stripes_of}
pub use Rattle.rc_plan.specs.Turns.{with_plans}
pub use Rattle.rc_rel.specs.History.{IsPrefix, with_replies}
pub use Rattle.rc_rel.specs.HistoryLaws.{calls-with_replies, with_replies-parts}
pub use Rattle.rc_rel.specs.declared.entry.Entry.{Entry}
pub use Rattle.rc_rel.specs.declared.entry.Step.{Step}
pub use Rattle.rc_row.specs.HeldRows.{HeldRows}
pub use Rattle.rc_row.specs.Law.{history_by}
pub use Rattle.rc_row.specs.Passes.{IsPassOf, OfHeld, PassSeen, RowSeen, compiled_of, core_of, held_without, holds_now, idle, spec_of, with_standing, without_stripe}
pub use Rattle.rc_row.specs.Standings.{KeepsOut, turned_away}
pub use Rattle.rc_row.specs.declared.close.EndedPass.{EndedPass}
pub use Rattle.rc_spec.specs.Acceptance.{IsSealed}
pub use Rattle.rc_spec.specs.Calls.{Fits}
pub use Rattle.rc_spec.specs.Locks.{StripeLock}
pub use Rattle.rc_spec.specs.PlacementLaws.{placed_total}
pub use Rattle.rc_spec.specs.declared.call.Call.{Call}
pub use Rattle.rc_spec.specs.declared.call.Reply.{Reply}
pub use Rattle.rc_spec.specs.declared.lock.Mode.TheVariants.{Shared}
pub use Rattle.rc_spec.specs.declared.spec.Spec.{Spec}
pub use Rattle.rc_store.specs.Busy.{IsLockBusy}
pub use Rattle.rc_store.specs.Closed.{AreKeptOf, HasClosed, HasOneHistory, made_by}
pub use Rattle.rc_store.specs.ClosedInside.{closed_seen}
pub use Rattle.rc_store.specs.ClosedLaws.{has_closed, history_of, journal_of_history, named_in, one_history, one_table, parts_are_placed, parts_in, parts_of_history, room_of, room_of_history}
pub use Rattle.rc_store.specs.GroupLaws.{as_taken_held, few_on, group_ready, held_rise, lent_held, locks_inside, locks_rise, locks_suffice, ran_so, relation_held, spare_on}
pub use Rattle.rc_store.specs.Lending.{IsLentBy, IsLentSo, IsUnrefused, held_stripes, lending}
pub use Rattle.rc_store.specs.LendingLaws.{above_there, at_lent, at_of_row, held_of-lending, lent_last, may_add, may_add_new, may_lent, may_of_row, may_sub, partly_lent, partly_of_row, refused_so, some_of, told_change, told_partly, told_room, told_rows, written_there}
pub use Rattle.rc_store.specs.Locking.{HasTakenLocks}
pub use Rattle.rc_store.specs.LockingLaws.{busy_there, next_above}
pub use Rattle.rc_store.specs.OpenGroupLaws.{call_known, called_back, called_on, calls_counted, covers_on, decide_needed, kept_prepared, now_on, open_group_made, opened_on, rest_unchanged, rises_on, unneeded_unchanged}
pub use Rattle.rc_store.specs.OpenGroups.{HasCalledOn, HasHeldDeclared, HasMadeOpenGroup, IsNeeded, IsOpenOn, OpenGroupSeen, declared_locks, holding, open_group}
pub use Rattle.rc_store.specs.OpenInside.{open_group_seen}
pub use Rattle.rc_store.specs.Prepared.{IsPrepared, IsReady}
pub use Rattle.rc_store.specs.ReleaseLaws.{IsHeldAt, as_many_locks, call_in, held_at, held_so, kept_until, none_used_more, unchanged_at, until_inside, until_keeps, without_holding}
pub use Rattle.rc_store.specs.Resumed.{AreKeptParts, HavePasses, HaveRoomFor, counted_passes, kept_pass}
pub use Rattle.rc_store.specs.ResumedLaws.{closed_again, counted_on, goes_on_from, journal_again, journal_has_passes, kept_parts, many_back, many_counted, many_ended, resumed_so, room_again, table_again}
pub use Rattle.rc_store.specs.RunLaws.{answered_so, busy_so, each_ok, lent_run, none_waits_so, of_row_so, replied_so, stopped_so, unrefused_so, way_so}
pub use Rattle.rc_store.specs.Running.{RunningGroupSeen, RunningSeen, calls_of, replies_of}
pub use Rattle.rc_store.specs.RunningGroupLaws.{as_many, call_there, item_there, replies_are, reply_there, running_group_made, with_one_more}
pub use Rattle.rc_store.specs.RunningInside.{HasReplyEach, IsOfPass, IsOfStep, steps_in}
pub use Rattle.rc_store.specs.Runs.{IsStoppedBy, IsStoppedFor}
pub use Rattle.rc_store.specs.StepLaws.{as_before, call_made, cause_before, exact_so, few_so, free_made, idle_already, is_kept, no_reply_given, prepared_so, ready_so, reply_given, reverted_at_rest, reverted_of_row, settled_at_rest, since_so, spare_so, stopped_before}
pub use Rattle.rc_store.specs.Store.{HoldsExactly, IsAsBefore, IsCallFinished, IsFinished, IsGroupFinished, StoreSeen, one_step, receipt_at}
pub use Rattle.rc_store.specs.declared.running_group.PreparedGroup.{PreparedGroup}
pub use Rattle.rc_tuple.specs.RelationLaws.{in_list_any, list_any_in}
pub use Rattle.rc_tuple.specs.RisingSet.{In, IsRising}
pub use Rattle.rc_tuple.specs.RisingSetLaws.{get_or_in, in_map, map_in}
pub use Rattle.rc_tuple.specs.Tuple.{Pairs}
pub use Rattle.std.proofs.Common.{ap, arith, refl, subst, sym}
pub use Rattle.std.proofs.lemmas.Bool.{eq-eqb, eqb-true, false≢true}
pub use Rattle.std.proofs.lemmas.Iterator.{YieldsList-from_slice}
pub use Rattle.std.proofs.lemmas.Iterator.Search.{any_from_yields_List}
pub use Rattle.std.proofs.lemmas.List.{take_all}
pub use Rattle.std.proofs.lemmas.Result.{on_err_weaker, on_ok_weaker}
pub use Rattle.std.specs.List.{slice_get}
pub use Rattle.std.specs.Ordering.{nat_cmp}
pub use Rattle.std.specs.Prelude.{IfSome, List, get_or, length, suc, take}
pub use Rattle.std.specs.Vec.Iter.{into_iter_items, into_iter_len}
