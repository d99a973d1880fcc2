-- The names that files of specs/ take from the crates below and from std, passed on from one place.
pub use Rattle.rc_core.specs.Good.{IsGoodHistory}
pub use Rattle.rc_core.specs.Passes.{next_of}
pub use Rattle.rc_core.specs.declared.state.PassState.{PassState}
pub use Rattle.rc_handplan.specs.AloneLaws.{no_text_no_plans}
pub use Rattle.rc_handplan.specs.Chosen.{AllKeepRules, AreChosen, IsChosenBy, IsFirstRefused, plan_for}
pub use Rattle.rc_handplan.specs.HandGrammar.{Broken, plans_of}
pub use Rattle.rc_handplan.specs.PlansText.{plans_text}
pub use Rattle.rc_handplan.specs.RuleText.{hand_rule_text, plan_refusal_text}
pub use Rattle.rc_handplan.specs.declared.hand.Hand.{Hand}
pub use Rattle.rc_handplan.specs.declared.refusal.HandRule.{HandRule}
pub use Rattle.rc_inline.specs.Inlining.{HasItsSchema}
pub use Rattle.rc_inline.specs.Placing.{embedded}
pub use Rattle.rc_inline.specs.PlacingLaws.{embedded_named, embedded_schema}
pub use Rattle.rc_inline.specs.SchemaLaws.{fits_same, fitting_of_one_schema, plain_same, value_columns_same}
pub use Rattle.rc_instance.specs.Instance.{IsOfRelation}
pub use Rattle.rc_maps.specs.Seed.{seed_of}
pub use Rattle.rc_maps.specs.declared.seed.Seed.{Seed}
pub use Rattle.rc_multi.specs.ClassUse.{class_locks}
pub use Rattle.rc_multi.specs.Group.{Covers}
pub use Rattle.rc_multi.specs.GroupLocks.{chooses, chosen_stripes, group_locks, group_mode, group_stripes, is_exclusive, locks_class, may_be_any, may_take_any, takes_any, writes_class}
pub use Rattle.rc_plan.specs.Compiled.{IsCompiled, SpecWithPlans, plan_at}
pub use Rattle.rc_plan.specs.CompiledLaws.{own_plan_accepted}
pub use Rattle.rc_plan.specs.NamedStripes.{IsNamedBy}
pub use Rattle.rc_plan.specs.StripeLocks.{band}
pub use Rattle.rc_plan.specs.StripeLocksLaws.{band_of_class}
pub use Rattle.rc_plan.specs.Turns.{CallWithPlan, with_plan, with_plans}
pub use Rattle.rc_plan.specs.declared.refusal.PlanRefusal.{PlanRefusal}
pub use Rattle.rc_plan.specs.declared.statement.Statement.TheVariants.{Lock}
pub use Rattle.rc_plan.specs.declared.statement.Which.{Which}
pub use Rattle.rc_query.specs.Planned.{IsPlanned}
pub use Rattle.rc_reader.specs.Grammar.{text_version}
pub use Rattle.rc_reader.specs.Names.{number_among}
pub use Rattle.rc_reader.specs.RuleText.{line_rule_text}
pub use Rattle.rc_reader.specs.Unnamed.{unnamed_operation}
pub use Rattle.rc_reader.specs.declared.refusal.LineRule.{LineRule}
pub use Rattle.rc_reader.specs.declared.version.Version.TheVariants.{Two}
pub use Rattle.rc_rel.specs.Further.{Extends}
pub use Rattle.rc_rel.specs.History.{AllFit, AreLegalFrom, IsLegal, IsPrefix, StepsFit, after_steps, own_placed, placed, relation_at, replay, steps_of, with_replies}
pub use Rattle.rc_rel.specs.HistoryLaws.{after_steps-append, states_satisfy, with_replies-parts}
pub use Rattle.rc_rel.specs.OwnLaws.{StandsIn, own_stands, same_places, stands_in_other}
pub use Rattle.rc_rel.specs.PlaceLaws.{legal_last}
pub use Rattle.rc_rel.specs.declared.entry.Entry.{Entry}
pub use Rattle.rc_rel.specs.declared.entry.Placed.{Placed}
pub use Rattle.rc_rel.specs.declared.entry.Step.{Step}
pub use Rattle.rc_row.specs.Law.{AreKnown, history_by}
pub use Rattle.rc_row.specs.Passes.{HasLookedAt, PassSeen, RowSeen, compiled_of, core_of, new_pass, new_passes, note_of, spec_of, with_note}
pub use Rattle.rc_row.specs.declared.keeping.Keeping.TheVariants.{Counts}
pub use Rattle.rc_spec.specs.Acceptance.{IsAccepted, IsFirstBroken, IsItemOf}
pub use Rattle.rc_spec.specs.Calls.{Fits, value_columns}
pub use Rattle.rc_spec.specs.InRange.{IsInRange}
pub use Rattle.rc_spec.specs.Locks.{StripeLock, Suffices}
pub use Rattle.rc_spec.specs.Names.{IsWellNamed, op_names}
pub use Rattle.rc_spec.specs.Placement.{class_at, op_at}
pub use Rattle.rc_spec.specs.Plain.{plain}
pub use Rattle.rc_spec.specs.Ranges.{range_columns}
pub use Rattle.rc_spec.specs.RefusalText.{refusal_text}
pub use Rattle.rc_spec.specs.Spec.{empty}
pub use Rattle.rc_spec.specs.Stripes.{physical_stripe}
pub use Rattle.rc_spec.specs.StripesLaws.{stripe_by_values}
pub use Rattle.rc_spec.specs.declared.call.Call.{Call}
pub use Rattle.rc_spec.specs.declared.call.Reply.{Reply}
pub use Rattle.rc_spec.specs.declared.call.Reply.TheVariants.{Absent, Conflict, Inserted, Many, Present, Removed, Rows, Updated}
pub use Rattle.rc_spec.specs.declared.items.Op.{Op}
pub use Rattle.rc_spec.specs.declared.items.OpKind.{OpKind}
pub use Rattle.rc_spec.specs.declared.lock.Found.{Found}
pub use Rattle.rc_spec.specs.declared.lock.Mode.{Mode}
pub use Rattle.rc_spec.specs.declared.lock.Mode.TheVariants.{Exclusive, Shared}
pub use Rattle.rc_spec.specs.declared.refusal.Refusal.{Refusal}
pub use Rattle.rc_spec.specs.declared.spec.Spec.{Spec}
pub use Rattle.rc_store.specs.Busy.{AreBusy, IsLockBusy}
pub use Rattle.rc_store.specs.Closed.{ClosedSeen, HasClosed, made_by, where_kept}
pub use Rattle.rc_store.specs.Headline.{IsReceipt}
pub use Rattle.rc_store.specs.OpenGroups.{HasCalledOn, HasOpened, HoldsDeclared, IsOpenOn, OpenGroupSeen, declared_locks}
pub use Rattle.rc_store.specs.ReceiptLaws.{entries_are_plain, telling_goes_on}
pub use Rattle.rc_store.specs.Receipts.{KnowsAll, history_with}
pub use Rattle.rc_store.specs.Resumed.{HasResumed}
pub use Rattle.rc_store.specs.ResumedLaws.{resumed_histories_are_one}
pub use Rattle.rc_store.specs.Running.{HasBegunGroup, IsGroupRunningOn, IsRunningOn, RunningGroupSeen, RunningSeen, calls_of}
pub use Rattle.rc_store.specs.Store.{AreRepliesFor, HasMadeEntry, HasMadeGroup, HoldsExactly, IsAsBefore, IsFree, StoreSeen, one_step}
pub use Rattle.rc_store.specs.declared.receipt.GroupReceipt.{GroupReceipt}
pub use Rattle.rc_store.specs.declared.receipt.Position.{Position}
pub use Rattle.rc_store.specs.declared.receipt.TryFault.{TryFault}
pub use Rattle.rc_tuple.specs.ColSet.{Within}
pub use Rattle.rc_tuple.specs.ColSetLaws.{in_range_below, in_range_bounds, rising_range, within_from_test}
pub use Rattle.rc_tuple.specs.MergeLaws.{Agree-value}
pub use Rattle.rc_tuple.specs.RelationLaws.{list_any_in}
pub use Rattle.rc_tuple.specs.RisingSet.{AreDistinct, In, IsRising}
pub use Rattle.rc_tuple.specs.RisingSetLaws.{append_in_left, append_in_right, filter_in, flat_map_in, gather_in, in_map, in_slice_get, map_in, nat_order, not_below_itself, same_rising, slice_get_in}
pub use Rattle.rc_tuple.specs.Tuple.{IsTuple, Pairs, cols_of, tuple_of}
pub use Rattle.rc_tuple.specs.TupleLaws.{Agree, one_pair}
pub use Rattle.rc_work.specs.CallColumns.{HasKnownColumns, call_of, columns_at, ranges_at, ranges_of, written_columns_at}
pub use Rattle.rc_work.specs.ShapeRules.{shape_place}
pub use Rattle.rc_work.specs.Shapes.{with_operations}
pub use Rattle.rc_work.specs.ShapesGrammar.{shapes_of}
pub use Rattle.rc_work.specs.ShapesGrammarLaws.{no_shapes}
pub use Rattle.rc_work.specs.ShapesLaws.{with_none}
pub use Rattle.std.specs.Arc.{arc_value}
pub use Rattle.std.specs.List.{AllByRecursion, flat_map, list_any, range_with_len, slice_get}
pub use Rattle.std.specs.Option.{option_map_or, option_or}
pub use Rattle.std.specs.Ordering.{nat_cmp}
pub use Rattle.std.specs.Prelude.{All, Err, IfErr, IfOk, IfSome, List, None, Ok, Option, Result, Some, [], option_map, ℕ}
pub use Rattle.std.specs.declared.cmp.Ordering.TheVariants.{Less}
