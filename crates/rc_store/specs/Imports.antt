-- The names that files of specs/ take from the crates below and from std, passed on from one place.
pub use Rattle.rc_core.specs.CommitLaws.{rows_held_are}
pub use Rattle.rc_core.specs.Good.{IsGoodHistory, IsOfHistory}
pub use Rattle.rc_core.specs.ListLaws.{in_stripes, stripes_have, stripes_in_have}
pub use Rattle.rc_core.specs.Passes.{HoldsNoMore, IsAbove, IsOfClassLocked, MayCommit, calls_with_plans, committed, next_of, other_holds, renewed, renewed_as, took}
pub use Rattle.rc_core.specs.Resumed.{MayGoOn}
pub use Rattle.rc_core.specs.ResumedLaws.{goes_on_with_more, goes_on_with_passes, made_at, made_there}
pub use Rattle.rc_core.specs.State.{hold, rows_held, stripes_in, writes_of}
pub use Rattle.rc_core.specs.declared.state.Hold.{Hold}
pub use Rattle.rc_core.specs.declared.state.PassState.{PassState}
pub use Rattle.rc_fragment.specs.Fragment.{HasColumns, HasNoRowOf, edge_row, edge_table}
pub use Rattle.rc_fragment.specs.FragmentRows.{FragmentRows, rolled_back, settled, with_promise}
pub use Rattle.rc_fragment.specs.Holder.{AreOfOneRelation, AreOfRelation, CanLower, CanRaise, CanRaiseNew, HasRefused, HasRisen, HasRoomFor, HeldStripe, Holding, IsHeld, IsHeldExclusive, IsLent, IsPartlyAddedAt, LentStripe, RefusedTake, held_of, with_changes, with_changes_at, with_room, with_room_at}
pub use Rattle.rc_fragment.specs.Keep.{IsAtRest, KeptRows}
pub use Rattle.rc_fragment.specs.Tuples.{ArePartlyAdded, CanAddTuple, HasTuple, IsFirstKept, changed_by, changes_of_class}
pub use Rattle.rc_fragment.specs.declared.held.Held.{Held}
pub use Rattle.rc_fragment.specs.declared.shape.EdgeShape.{EdgeShape}
pub use Rattle.rc_instance.specs.Instance.{HaveOneTable, IsOfRelation, Stripe, held_from, kept_stripe}
pub use Rattle.rc_instance.specs.InstanceLaws.{made_law}
pub use Rattle.rc_journal.specs.ByPassLaws.{own_parts}
pub use Rattle.rc_journal.specs.Merge.{AreNumbersBelow, ArePartsOf, places_of}
pub use Rattle.rc_journal.specs.MergeLaws.{places_are_numbers}
pub use Rattle.rc_journal.specs.PartEntries.{PartEntries}
pub use Rattle.rc_machine.specs.Machine.{AreAsTaken, HasAnswered, HasEvaluated, HasRefusedCall, HasReplied, HasServed, locks_of, rows_taken, stripes_held}
pub use Rattle.rc_machine.specs.Stopped.{CountsOnlyHeld}
pub use Rattle.rc_machine.specs.declared.stop.Stop.{Stop}
pub use Rattle.rc_machine.specs.declared.stop.Stop.TheVariants.{Memory}
pub use Rattle.rc_multi.specs.CommitLaws.{group_committed, group_may_commit, one_held}
pub use Rattle.rc_multi.specs.Group.{AreNowOf, AreOfRelationFor, Covers, HasRunIn, HasRunTaking, HaveServed, Suffice, with_part, with_step}
pub use Rattle.rc_multi.specs.GroupLaws.{locks_after, now_of_relation, served_more, served_none}
pub use Rattle.rc_multi.specs.GroupLocks.{HasOperation, group_locks}
pub use Rattle.rc_multi.specs.GroupLocksLaws.{group_locks_are_locked, group_locks_below, group_locks_rise, group_locks_suffice, have_operations}
pub use Rattle.rc_multi.specs.GroupRun.{HasRunGroup}
pub use Rattle.rc_multi.specs.GroupRunLaws.{steps_fit, stripes_after, taken_after}
pub use Rattle.rc_multi.specs.HeldStripes.{all_now, all_taken, hold_now, hold_taken}
pub use Rattle.rc_multi.specs.KeptLaws.{groups_keep_what_they_use, one_call_keeps_what_it_took}
pub use Rattle.rc_multi.specs.Laws.{AreLeftAtRest, IsUsedBy, KeepsTaken, KeepsUsed}
pub use Rattle.rc_multi.specs.UseLaws.{decide_used}
pub use Rattle.rc_plan.specs.Compiled.{IsCompiled, SpecWithPlans, plan_at}
pub use Rattle.rc_plan.specs.CompiledLaws.{compiled_law, own_plan_accepted}
pub use Rattle.rc_plan.specs.Evaluation.{eval, touched}
pub use Rattle.rc_plan.specs.Laws.{Serves}
pub use Rattle.rc_plan.specs.NamedStripes.{IsNamedBy}
pub use Rattle.rc_plan.specs.NamedStripesLaws.{named_law}
pub use Rattle.rc_plan.specs.StripeLocks.{AreHeld, mode_number, stripe_lock_cmp, stripes_of}
pub use Rattle.rc_plan.specs.StripeLocksLaws.{in_stripes_of, stripe_lock_order, stripes_of_in}
pub use Rattle.rc_plan.specs.Turns.{AllAreHeld, CallWithPlan, HasAcceptedPlan, with_plan, with_plans}
pub use Rattle.rc_plan.specs.declared.statement.Statement.{Statement}
pub use Rattle.rc_rel.specs.Further.{Extends}
pub use Rattle.rc_rel.specs.FurtherLaws.{histories_stay}
pub use Rattle.rc_rel.specs.History.{AreLegalFrom, IsLegal, IsPlain, IsPrefix, StepsFit, after_steps, own, own_placed, placed, replay, states, with_replies}
pub use Rattle.rc_rel.specs.HistoryLaws.{replay_in_states, states_are_relations, states_satisfy, with_replies-parts}
pub use Rattle.rc_rel.specs.OwnLaws.{none_own, own_length, same_places}
pub use Rattle.rc_rel.specs.PlaceLaws.{legal_last}
pub use Rattle.rc_rel.specs.SharesLaws.{shares_add_up}
pub use Rattle.rc_rel.specs.declared.entry.Entry.{Entry}
pub use Rattle.rc_rel.specs.declared.entry.Placed.{Placed}
pub use Rattle.rc_rel.specs.declared.entry.Step.{Step}
pub use Rattle.rc_row.specs.Ended.{AreEnded, HasHistory, IsEndedOf, IsEndedPass, IsLeftOf, resumed_from}
pub use Rattle.rc_row.specs.HeldRows.{HeldRows}
pub use Rattle.rc_row.specs.Law.{AreKnown, history_by, kept_of}
pub use Rattle.rc_row.specs.PassInside.{AreOwnKept}
pub use Rattle.rc_row.specs.Passes.{AreAtRest, AreIdlePasses, CanAddNewTo, CanAddTo, CanSubFrom, HasLookedAt, HasReserved, HasSpare, HasWaited, IsMoreRoom, IsPartlyAddedOn, IsPassOf, KeepsAs, NoteSeen, OfHeld, PassSeen, RowSeen, all_with, compiled_of, core_of, held_without, holds_now, holds_taken, idle, new_pass, new_passes, next_entry, none_kept, resumed_pass, reverted, spec_of, waited_so, with_commit, with_entry, with_fragment, with_held, with_note, with_standing, with_taken, without_stripe}
pub use Rattle.rc_row.specs.Released.{IsHeldSo}
pub use Rattle.rc_row.specs.Standings.{HaveOneRelation, IsAtHistory, KeepsOut, KeepsRefusals, told_of, turned_away, with_core, without_wish}
pub use Rattle.rc_row.specs.StandingsLaws.{refusals_first, refusals_more, refusals_on}
pub use Rattle.rc_row.specs.declared.close.EndedPass.{EndedPass}
pub use Rattle.rc_row.specs.declared.keeping.Keeping.{Keeping}
pub use Rattle.rc_row.specs.declared.keeping.Keeping.TheVariants.{Counts, Entries}
pub use Rattle.rc_row.specs.declared.law.Standing.{Standing}
pub use Rattle.rc_spec.specs.Acceptance.{IsSealed}
pub use Rattle.rc_spec.specs.Calls.{Fits, all_columns}
pub use Rattle.rc_spec.specs.Fragments.{EdgeRow, edge_row_cmp, fragment_of, on_stripes, rows_on}
pub use Rattle.rc_spec.specs.FragmentsLaws.{parts_law, pieces_law}
pub use Rattle.rc_spec.specs.Locks.{StripeLock, Suffices}
pub use Rattle.rc_spec.specs.Plain.{plain}
pub use Rattle.rc_spec.specs.Stripes.{stripe_total}
pub use Rattle.rc_spec.specs.declared.call.Call.{Call}
pub use Rattle.rc_spec.specs.declared.call.Reply.{Reply}
pub use Rattle.rc_spec.specs.declared.lock.Found.{Found}
pub use Rattle.rc_spec.specs.declared.lock.Mode.{Mode}
pub use Rattle.rc_spec.specs.declared.lock.Mode.TheVariants.{Exclusive, Shared}
pub use Rattle.rc_spec.specs.declared.spec.Spec.{Spec}
pub use Rattle.rc_tuple.specs.Relation.{IsRelation, Satisfies}
pub use Rattle.rc_tuple.specs.RelationLaws.{satisfies_none}
pub use Rattle.rc_tuple.specs.RisingSet.{In, IsRising, gather}
pub use Rattle.rc_tuple.specs.RisingSetLaws.{append_in_left, append_in_right, gather-rising, get_or_in, in_append, in_contains, in_map, in_slice_get, map_in, nat_order, not_below_itself}
pub use Rattle.rc_tuple.specs.Tuple.{Pairs}
pub use Rattle.std.specs.List.{AllByRecursion, cons_option, filter_map, flat_map, range_with_len, slice_get, sum, sum_by}
pub use Rattle.std.specs.Option.{option_map, unwrap_or}
pub use Rattle.std.specs.Ordering.{nat_cmp, ordering_then}
pub use Rattle.std.specs.Prelude.{All, IfSome, List, None, Option, Some}
pub use Rattle.std.specs.declared.cmp.Ordering.{Ordering}
pub use Rattle.std.specs.declared.cmp.Ordering.TheVariants.{Less}
