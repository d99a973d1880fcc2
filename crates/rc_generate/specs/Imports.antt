-- The names that files of specs/ take from the crates below and from std, passed on from one place.
pub use Rattle.rc_fd.specs.FollowsLaws.{follows_dependency, follows_subset, follows_union}
pub use Rattle.rc_reader.specs.InRangeLaws.{in_range-empty, in_range-keeps}
pub use Rattle.rc_reader.specs.ReadKeepsLaws.{text_keeps}
pub use Rattle.rc_reader.specs.WellNamedLaws.{well_named-empty, well_named-keeps}
pub use Rattle.rc_rel.specs.History.{AllFit, AreLegalFrom, IsLegal, StepsFit, after_steps, calls_of, own, replay, steps_of}
pub use Rattle.rc_rel.specs.HistoryLaws.{StepsFit-steps_of}
pub use Rattle.rc_rel.specs.declared.entry.Entry.{Entry}
pub use Rattle.rc_rel.specs.declared.entry.Step.{Step}
pub use Rattle.rc_spec.specs.Acceptance.{IsAccepted}
pub use Rattle.rc_spec.specs.Adequacy.{IsAdequate, IsRoot, KeepsA1, KeepsA3, KeepsA4, KeepsA5, KeepsA6, KeepsA7}
pub use Rattle.rc_spec.specs.Calls.{Fits, FitsAt, value_columns}
pub use Rattle.rc_spec.specs.Decomposition.{IsCircle, IsWalk, bound, edge_at, source_and_key}
pub use Rattle.rc_spec.specs.InRange.{HasColumnAndNode, IsInRange}
pub use Rattle.rc_spec.specs.Names.{IsWellNamed}
pub use Rattle.rc_spec.specs.Placement.{AreOuts, IsPlaced, KeepsO, KeepsP1, KeepsP2, KeepsP3, KeepsP4, KeepsP5, KeepsP6, class_at, class_of, op_at, striping}
pub use Rattle.rc_spec.specs.Plain.{Outcome, at_most, first_broken_dependency, inserted_unless, plain, plain_at, plain_by, removed_first, rows_of, updated_first, updated_unless, without}
pub use Rattle.rc_spec.specs.PlainLaws.{plain_satisfies, rising_after}
pub use Rattle.rc_spec.specs.Ranges.{IsBounded, in_ranges, is_asked}
pub use Rattle.rc_spec.specs.declared.call.Call.{Call}
pub use Rattle.rc_spec.specs.declared.call.Reply.{Reply}
pub use Rattle.rc_spec.specs.declared.call.Reply.TheVariants.{Absent, Conflict, Inserted, Many, Present, Removed, Rows, Updated}
pub use Rattle.rc_spec.specs.declared.items.ColKind.TheVariants.{Num}
pub use Rattle.rc_spec.specs.declared.items.Edge.{Edge}
pub use Rattle.rc_spec.specs.declared.items.EdgeKind.TheVariants.{Hash, Ordered, Singleton}
pub use Rattle.rc_spec.specs.declared.items.Op.{Op}
pub use Rattle.rc_spec.specs.declared.items.OpKind.{OpKind}
pub use Rattle.rc_spec.specs.declared.items.OpKind.TheVariants.{Insert, Query, Remove, Update}
pub use Rattle.rc_spec.specs.declared.range.Range.{Range}
pub use Rattle.rc_spec.specs.declared.spec.Spec.{Spec}
pub use Rattle.rc_text.specs.Lines.{printed_lines}
pub use Rattle.rc_tuple.specs.ColSet.{IsColSet, inter, is_within}
pub use Rattle.rc_tuple.specs.ColSetLaws.{in_range_below, in_range_bounds, inter_in, rising_range, within_from_test}
pub use Rattle.rc_tuple.specs.MergeLaws.{value-project}
pub use Rattle.rc_tuple.specs.Relation.{Follows, Satisfies, breaks, breaks_pair, breaks_with}
pub use Rattle.rc_tuple.specs.RelationLaws.{agree_from_test, breaks-put, satisfies_fewer, satisfies_none, test_from_satisfies}
pub use Rattle.rc_tuple.specs.RisingSet.{In, IsRising, gather, put}
pub use Rattle.rc_tuple.specs.RisingSetLaws.{IsOrder, each_in, filter-filter, filter_in, flat_map_in, gather_in, in_each, in_filter, in_map, in_put, map_in, nat_order, put_new, put_old, rising_filter, rising_put, same_rising, slice_get_in}
pub use Rattle.rc_tuple.specs.Tuple.{IsTuple, Pairs, agree_on, cols_of, matches, project, tuple_cmp, tuple_eq, value}
pub use Rattle.rc_tuple.specs.TupleLaws.{IsTuple-zip, same_from_test, tuple_order}
pub use Rattle.rc_tuple.specs.declared.dep.Dep.{Dep}
pub use Rattle.rc_work.specs.Fitting.{HasThreads, RoundsFit, TurnsFit}
pub use Rattle.rc_work.specs.Limits.{HasSingleTurns, KeepsLimits}
pub use Rattle.rc_work.specs.Made.{plain_steps}
pub use Rattle.rc_work.specs.MadeLaws.{calls_of_plain, legal_are_plain, plain_are_legal}
pub use Rattle.rc_work.specs.Report.{count_line}
pub use Rattle.rc_work.specs.Runs.{Runs, thread_calls}
pub use Rattle.rc_work.specs.RunsLaws.{runs_make_calls}
pub use Rattle.rc_work.specs.declared.work.Turn.{Turn}
pub use Rattle.rc_work.specs.declared.work.Work.{Work}
pub use Rattle.std.specs.List.{AllByRecursion, filter, flat_map, list_any, range_with_len, slice_get, zip}
pub use Rattle.std.specs.Ordering.{nat_cmp}
pub use Rattle.std.specs.Prelude.{sum_by}
pub use Rattle.std.specs.declared.cmp.Ordering.{Ordering}
