-- The names that files of specs/ take from the crates below and from std, passed on from one place.
pub use Rattle.rc_core.specs.CommitLaws.{calls_fit, relation_after_steps}
pub use Rattle.rc_core.specs.Passes.{HoldsNoMore, IsOfClassLocked, MayCommit, calls_with_plans, committed, next_of, renewed, renewed_as, rows_then}
pub use Rattle.rc_core.specs.State.{hold, rows_held}
pub use Rattle.rc_core.specs.declared.state.Hold.{Hold}
pub use Rattle.rc_core.specs.declared.state.PassState.{PassState}
pub use Rattle.rc_fragment.specs.Fragment.{HasNoRowOf, edge_table}
pub use Rattle.rc_fragment.specs.FragmentRows.{FragmentRows}
pub use Rattle.rc_fragment.specs.Holder.{AreOfOneRelation, AreOfRelation, AreOffered, CanLower, CanRaise, CanRaiseNew, HasRisen, HasRoomFor, HasTaken, HeldStripe, Holding, IsHeld, IsHeldExclusive, IsLent, IsPartlyAddedAt, LentStripe, MayTake, changed_at, held_of, just_taken, with_changes, with_changes_at, with_now, with_room, with_room_at}
pub use Rattle.rc_fragment.specs.HoldingLaws.{IsChangedAt, held-change, held-room, partly_changed}
pub use Rattle.rc_fragment.specs.Tuples.{ArePartlyAdded, CanAddTuple, HasTuple}
pub use Rattle.rc_machine.specs.Apply.{IsSameButLent}
pub use Rattle.rc_machine.specs.Machine.{AreAsTaken, HasReplied, HasServed, locks_of, rows_taken, stripes_held}
pub use Rattle.rc_plan.specs.Compiled.{IsCompiled, SpecWithPlans, plan_at}
pub use Rattle.rc_plan.specs.CompiledLaws.{compiled_in_turn_law, own_plan_accepted}
pub use Rattle.rc_plan.specs.Evaluation.{eval}
pub use Rattle.rc_plan.specs.Laws.{AllServe}
pub use Rattle.rc_plan.specs.NamedStripes.{IsNamedBy}
pub use Rattle.rc_plan.specs.NamedStripesLaws.{named_law}
pub use Rattle.rc_plan.specs.StripeLocks.{IsOfClass, band, stripes_of}
pub use Rattle.rc_plan.specs.StripeLocksLaws.{IsOfClass-physical_stripe, band_of_class, in_stripes_of, stripes_of_in}
pub use Rattle.rc_plan.specs.Turns.{AllAreHeld, CallWithPlan, HasAcceptedPlan, eval_replies, plain_replies, rows_after, with_plan, with_plans}
pub use Rattle.rc_plan.specs.declared.statement.Statement.{Statement}
pub use Rattle.rc_plan.specs.declared.statement.Statement.TheVariants.{Apply, CheckAbsent, CheckDep, CheckFound, Commit, Emit, Lock, Probe, Read, Release}
pub use Rattle.rc_plan.specs.declared.statement.Which.{Which}
pub use Rattle.rc_rel.specs.History.{AreLegalFrom, StepsFit, after_steps}
pub use Rattle.rc_rel.specs.HistoryLaws.{AreLegalFrom-append, after_steps-append}
pub use Rattle.rc_rel.specs.declared.entry.Step.{Step}
pub use Rattle.rc_spec.specs.Calls.{Fits, all_columns}
pub use Rattle.rc_spec.specs.CallsLaws.{plain_keeps_relation}
pub use Rattle.rc_spec.specs.Fragments.{EdgeRow, edge_row_cmp, fragment_of, on_stripes, rows_on}
pub use Rattle.rc_spec.specs.FragmentsLaws.{parts_law, pieces_law}
pub use Rattle.rc_spec.specs.Locks.{StripeLock, Suffices}
pub use Rattle.rc_spec.specs.Placement.{IsPlaced, class_at, no_class}
pub use Rattle.rc_spec.specs.Plain.{plain}
pub use Rattle.rc_spec.specs.PlainLaws.{plain_grows, plain_satisfies}
pub use Rattle.rc_spec.specs.Stripes.{band_start, physical_stripe, stripe_total}
pub use Rattle.rc_spec.specs.StripesLaws.{band_before}
pub use Rattle.rc_spec.specs.declared.call.Call.{Call}
pub use Rattle.rc_spec.specs.declared.call.Reply.{Reply}
pub use Rattle.rc_spec.specs.declared.items.Class.{Class}
pub use Rattle.rc_spec.specs.declared.lock.Mode.{Mode}
pub use Rattle.rc_spec.specs.declared.lock.Mode.TheVariants.{Exclusive, Shared}
pub use Rattle.rc_spec.specs.declared.spec.Spec.{Spec}
pub use Rattle.rc_tuple.specs.ColSet.{Within, is_within}
pub use Rattle.rc_tuple.specs.ColSetLaws.{in_range_below, in_range_bounds, rising_range, within_from_test}
pub use Rattle.rc_tuple.specs.Relation.{IsRelation, Satisfies}
pub use Rattle.rc_tuple.specs.RelationLaws.{in_list_any, list_any_in}
pub use Rattle.rc_tuple.specs.RisingSet.{In, IsRising, gather, put}
pub use Rattle.rc_tuple.specs.RisingSetLaws.{append_in_left, append_in_right, each_in, filter_in, flat_map_in, gather_in, in_append, in_filter, in_flat_map, in_gather, in_map, map_in, nat_order, not_below_itself, rising_gather, same_rising}
pub use Rattle.rc_tuple.specs.Tuple.{Pairs, cols_of}
pub use Rattle.std.specs.Cmp.{nat_cmp_is}
pub use Rattle.std.specs.List.{AllByRecursion, flat_map, list_any, range_with_len, sum_by}
pub use Rattle.std.specs.Ordering.{nat_cmp}
pub use Rattle.std.specs.Prelude.{List, map}
pub use Rattle.std.specs.declared.cmp.Ordering.TheVariants.{Less}
