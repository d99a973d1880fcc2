-- The names that files of specs/ take from the crates below and from std, passed on from one place.
pub use Rattle.rc_spec.specs.Acceptance.{IsSealed}
pub use Rattle.rc_spec.specs.Adequacy.{IsAdequate, IsLossless}
pub use Rattle.rc_spec.specs.Calls.{Fits, FitsAt, GivesTuple, all_columns, value_columns}
pub use Rattle.rc_spec.specs.CallsLaws.{fits_at_op, plain_keeps_relation}
pub use Rattle.rc_spec.specs.Contents.{join}
pub use Rattle.rc_spec.specs.ContentsLaws.{holds_deps, lossless_holds, target_within}
pub use Rattle.rc_spec.specs.CountedRows.{row_in, with_rows, without_rows}
pub use Rattle.rc_spec.specs.CountedRowsLaws.{AllHeld, fragment_of-insert, fragment_of-remove, with_rows-fragments, with_rows-without, without_rows-fragments, without_rows-with}
pub use Rattle.rc_spec.specs.Decomposition.{bound, edge_at, source_and_key, target_columns}
pub use Rattle.rc_spec.specs.First.{EachHolds, IsFirstFailing}
pub use Rattle.rc_spec.specs.FirstLaws.{each_append, each_left, each_listed, each_one, each_right, first_not_each, listed_each, one_first}
pub use Rattle.rc_spec.specs.Fragments.{EdgeRow, all_rows, edge_numbers, fragment_of, on_stripes, row_stripe, rows_on, tuples_of_edge}
pub use Rattle.rc_spec.specs.FragmentsLaws.{AreProjections-rows, fragments_in, in_fragments, in_tuples_of_edge, tuples_of_edge_in}
pub use Rattle.rc_spec.specs.HeathLaws.{AreProjections, IsJoined, IsReached, IsSeen, in_join, join_in, reached_more, rising_join}
pub use Rattle.rc_spec.specs.InRange.{HasColumnAndNode, IsInRange, IsOpAmong}
pub use Rattle.rc_spec.specs.Locks.{StripeLock, Suffices}
pub use Rattle.rc_spec.specs.Placement.{IsPlaced, KeepsO, class_at, class_of, no_op, op_at}
pub use Rattle.rc_spec.specs.PlacementLaws.{class_of_known}
pub use Rattle.rc_spec.specs.Plain.{Outcome, at_most, first_broken_dependency, plain, plain_by, removed_first, row_cmp, rows_of, without}
pub use Rattle.rc_spec.specs.PlainLaws.{insert-absent, insert-present, plain-known, plain_satisfies, update-absent, update-found}
pub use Rattle.rc_spec.specs.Ranges.{in_ranges, is_asked, range_column, range_columns}
pub use Rattle.rc_spec.specs.RangesLaws.{in_ranges-project}
pub use Rattle.rc_spec.specs.RefusalText.{no_column}
pub use Rattle.rc_spec.specs.Stripes.{band_start, physical_stripe}
pub use Rattle.rc_spec.specs.StripesLaws.{agreeing_law, band_before, stripe_by_values, stripe_in_band}
pub use Rattle.rc_spec.specs.declared.call.Call.{Call}
pub use Rattle.rc_spec.specs.declared.call.Reply.{Reply}
pub use Rattle.rc_spec.specs.declared.call.Reply.TheVariants.{Absent, Conflict, Inserted, Many, Present, Removed, Rows, Updated}
pub use Rattle.rc_spec.specs.declared.items.ColKind.TheVariants.{Num}
pub use Rattle.rc_spec.specs.declared.items.Edge.{Edge}
pub use Rattle.rc_spec.specs.declared.items.EdgeKind.TheVariants.{Hash, Ordered}
pub use Rattle.rc_spec.specs.declared.items.Op.{Op}
pub use Rattle.rc_spec.specs.declared.items.OpKind.{OpKind}
pub use Rattle.rc_spec.specs.declared.items.OpKind.TheVariants.{Insert, Query, Remove, Update}
pub use Rattle.rc_spec.specs.declared.lock.Mode.{Mode}
pub use Rattle.rc_spec.specs.declared.lock.Mode.TheVariants.{Exclusive, Shared}
pub use Rattle.rc_spec.specs.declared.range.Range.{Range}
pub use Rattle.rc_spec.specs.declared.spec.Spec.{Spec}
pub use Rattle.rc_tuple.specs.ColSet.{Within, has, inter, is_within, minus, union}
pub use Rattle.rc_tuple.specs.ColSetLaws.{has-filter, in_range_below, in_range_bounds, in_union, inter_in, range_with_len_more, rising_range, test_from_within, union_left, union_right, union_within, within_from_test}
pub use Rattle.rc_tuple.specs.MergeLaws.{inter-same, project_all, value-project, value_in}
pub use Rattle.rc_tuple.specs.Relation.{Follows, IsRelation, Satisfies, SatisfiesOne, breaks, breaks_pair, breaks_with}
pub use Rattle.rc_tuple.specs.RelationLaws.{agree_from_test, agree_on-swap, breaks-put, in_list_any, list_any_in, rising_of, satisfies_fewer, test_from_agree, test_from_satisfies}
pub use Rattle.rc_tuple.specs.RisingSet.{In, IsRising, gather, put}
pub use Rattle.rc_tuple.specs.RisingSetLaws.{IsOrder, append_in_left, append_in_right, each_in, filter_in, gather-rising, gather_in, get_or_in, has_in, in_append, in_filter, in_gather, in_map, list_all_in, map_in, nat_order, number_lists_order, rising_filter, rising_gather, same_gather, same_rising, slice_get_in, slice_get_there}
pub use Rattle.rc_tuple.specs.Tuple.{Pairs, agree_on, agrees, cols_of, matches, merge, pair_cmp, pick, project, tuple_cmp, tuple_eq, value}
pub use Rattle.rc_tuple.specs.TupleLaws.{Agree, agree_from, agrees_to, in_merge, in_project, merge_left, merge_right, one_pair, pair_order, project-project, project_in, project_less, rising_cols, rising_merge, same_from_test, test_from_same, then_equal, tuple_order}
pub use Rattle.rc_tuple.specs.declared.dep.Dep.{Dep}
pub use Rattle.std.specs.Fmt.{decimal}
pub use Rattle.std.specs.List.{AllByRecursion, flat_map, fold, list_all, list_any, range_with_len, slice_get}
pub use Rattle.std.specs.Ordering.{nat_cmp, ordering_then}
pub use Rattle.std.specs.declared.cmp.Ordering.{Ordering}
pub use Rattle.std.specs.declared.cmp.Ordering.TheVariants.{Equal}
