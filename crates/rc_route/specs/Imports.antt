-- The names that files of specs/ take from the crates below and from std, passed on from one place.
pub use Rattle.rc_fd.specs.Closed.{IsClosed}
pub use Rattle.rc_fd.specs.ClosedLaws.{follows_closed}
pub use Rattle.rc_fd.specs.FollowsLaws.{follows_dependency, follows_subset, follows_transitive, follows_union}
pub use Rattle.rc_graph.specs.Walks.{Reaches}
pub use Rattle.rc_graph.specs.WalksLaws.{reaches_circle}
pub use Rattle.rc_spec.specs.Adequacy.{HasEdgeInto, IsAdequate, IsLossless, IsRoot, KeepsA2, KeepsA6, visited}
pub use Rattle.rc_spec.specs.Calls.{all_columns}
pub use Rattle.rc_spec.specs.Decomposition.{bound, edge_at, no_edge, target_columns}
pub use Rattle.rc_spec.specs.DecompositionLaws.{edge_at_in, visited_more}
pub use Rattle.rc_spec.specs.InRange.{HasColumnAndNode, IsInRange}
pub use Rattle.rc_spec.specs.Placement.{IsPlaced, class_at, class_of, no_class, striping}
pub use Rattle.rc_spec.specs.PlacementLaws.{class_of_known}
pub use Rattle.rc_spec.specs.declared.items.Class.{Class}
pub use Rattle.rc_spec.specs.declared.items.Edge.{Edge}
pub use Rattle.rc_spec.specs.declared.items.EdgeKind.{EdgeKind}
pub use Rattle.rc_spec.specs.declared.spec.Spec.{Spec}
pub use Rattle.rc_tuple.specs.ColSet.{IsColSet, Within, has, inter, is_within, union}
pub use Rattle.rc_tuple.specs.ColSetLaws.{in_range_below, in_range_bounds, inter_in, test_from_within, union_left, union_right, union_within, within_from_test}
pub use Rattle.rc_tuple.specs.GrowthLaws.{missing, missing_union}
pub use Rattle.rc_tuple.specs.Relation.{Follows}
pub use Rattle.rc_tuple.specs.RisingSet.{AreDistinct, In, IsRising, gather}
pub use Rattle.rc_tuple.specs.RisingSetLaws.{IsOrder, filter_in, flat_map_in, gather_in, has_in, in_append, in_filter, in_flat_map, in_gather, in_has, in_map, map_in, not_below_itself, number_lists_order, rising_gather}
pub use Rattle.rc_tuple.specs.TupleLaws.{then_equal}
pub use Rattle.rc_tuple.specs.declared.dep.Dep.{Dep}
pub use Rattle.std.specs.Cmp.Lexicographic.{slice_cmp}
pub use Rattle.std.specs.List.{flat_map, range_with_len, sum_by}
pub use Rattle.std.specs.Ordering.{MatchOrdering, nat_cmp, ordering_then}
pub use Rattle.std.specs.declared.cmp.Ordering.{Ordering}
pub use Rattle.std.specs.declared.cmp.Ordering.TheVariants.{Equal, Greater, Less}
