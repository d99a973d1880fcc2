-- The names that files of specs/ take from the crates below and from std, passed on from one place.
pub use Rattle.rc_edges.specs.EdgeMap.{Counted, HasExtra, HasNoOther, HasWidth, Rows, current, listed, present, written}
pub use Rattle.rc_edges.specs.Values.{Values, values_cmp, values_eq}
pub use Rattle.rc_maps.specs.HashTable.{entries_of}
pub use Rattle.rc_maps.specs.OrderedEdge.{has_one_column, rows_of}
pub use Rattle.rc_maps.specs.declared.keyed.Keyed.{Keyed}
pub use Rattle.rc_spec.specs.Acceptance.{IsSealed}
pub use Rattle.rc_spec.specs.Adequacy.{IsAdequate, KeepsA3, KeepsA4, KeepsA5}
pub use Rattle.rc_spec.specs.Calls.{all_columns}
pub use Rattle.rc_spec.specs.Contents.{how_many}
pub use Rattle.rc_spec.specs.ContentsLaws.{holds_on, target_within}
pub use Rattle.rc_spec.specs.CountedRows.{count_at, is_row_at, lowered, raised, with_count}
pub use Rattle.rc_spec.specs.CountedRowsLaws.{AreCountedRows, AreCountedRows-with_count, count-with_count, count_none, in_count, same_counts}
pub use Rattle.rc_spec.specs.Decomposition.{bound, edge_at, no_edge, no_node, node_at, source_and_key}
pub use Rattle.rc_spec.specs.DecompositionLaws.{edge_at_in}
pub use Rattle.rc_spec.specs.Fragments.{EdgeRow, edge_numbers, edge_row_cmp, fragment_of, row_stripe, tuples_of_edge}
pub use Rattle.rc_spec.specs.FragmentsLaws.{IsEdgeRow, edge_row_order, in_all_rows, in_fragments, in_tuples_of_edge, tuples_of_edge_in}
pub use Rattle.rc_spec.specs.InRange.{IsEdgeAmong, IsInRange}
pub use Rattle.rc_spec.specs.Locks.{StripeLock, Suffices}
pub use Rattle.rc_spec.specs.Placement.{class_of}
pub use Rattle.rc_spec.specs.declared.items.Edge.{Edge}
pub use Rattle.rc_spec.specs.declared.items.EdgeKind.{EdgeKind}
pub use Rattle.rc_spec.specs.declared.items.EdgeKind.TheVariants.{Hash, Ordered, Singleton}
pub use Rattle.rc_spec.specs.declared.lock.Mode.{Mode}
pub use Rattle.rc_spec.specs.declared.lock.Mode.TheVariants.{Exclusive}
pub use Rattle.rc_spec.specs.declared.spec.Spec.{Spec}
pub use Rattle.rc_tuple.specs.ColSet.{IsColSet, Within, has, minus, union}
pub use Rattle.rc_tuple.specs.ColSetLaws.{IsColSet-filter, in_minus, in_range_bounds, in_union, minus_in, rising_range, union_left, union_right}
pub use Rattle.rc_tuple.specs.MergeLaws.{merge-merge, project_all}
pub use Rattle.rc_tuple.specs.Relation.{IsRelation, Satisfies}
pub use Rattle.rc_tuple.specs.RelationLaws.{rising_of}
pub use Rattle.rc_tuple.specs.RisingSet.{In, IsRising, gather, put}
pub use Rattle.rc_tuple.specs.RisingSetLaws.{append_in_left, append_in_right, filter_in, gather-rising, gather_in, get_or_in, has_in, in_append, in_filter, in_gather, in_has, in_map, map_in, not_below_itself, rising_filter, rising_gather, same_rising}
pub use Rattle.rc_tuple.specs.Tuple.{Pairs, cols_of, merge, pair_cmp, project, tuple_eq}
pub use Rattle.rc_tuple.specs.TupleLaws.{cols-project, pair_order, project-project, project_by, rising_cols, same_from_test, test_from_same}
pub use Rattle.std.specs.Arc.{arc_value}
pub use Rattle.std.specs.Borrow.{Fml, LendsSo, MutBor}
pub use Rattle.std.specs.FinMap.{FinMap}
pub use Rattle.std.specs.List.{find, flat_map, range_with_len, slice_get, zip}
pub use Rattle.std.specs.Option.{OnSome, option_and_then, option_map, option_map_or}
pub use Rattle.std.specs.Ordering.{match_ordering, nat_cmp}
pub use Rattle.std.specs.Prelude.{Bool, false}
pub use Rattle.std.specs.Vec.{vec_capacity, vec_len}
pub use Rattle.std.specs.declared.cmp.Ordering.{Ordering}
pub use Rattle.std.specs.declared.cmp.Ordering.TheVariants.{Equal, Greater, Less}
