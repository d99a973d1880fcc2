-- The names that files of specs/ take from the crates below and from std, passed on from one place.
pub use Rattle.rc_spec.specs.Acceptance.{IsSealed}
pub use Rattle.rc_spec.specs.Calls.{Fits, value_columns}
pub use Rattle.rc_spec.specs.Decomposition.{edge_at, no_edge}
pub use Rattle.rc_spec.specs.InRange.{IsInRange}
pub use Rattle.rc_spec.specs.Names.{AreNames, IsWellNamed, edge_names, node_names}
pub use Rattle.rc_spec.specs.Placement.{KeepsP1, KeepsP3, class_at, class_of, no_class, places_of, striping}
pub use Rattle.rc_spec.specs.PlacementLaws.{class_of_known}
pub use Rattle.rc_spec.specs.Plain.{plain, plain_at}
pub use Rattle.rc_spec.specs.declared.call.Call.{Call}
pub use Rattle.rc_spec.specs.declared.items.Class.{Class}
pub use Rattle.rc_spec.specs.declared.items.Edge.{Edge}
pub use Rattle.rc_spec.specs.declared.items.EdgeKind.{EdgeKind}
pub use Rattle.rc_spec.specs.declared.items.EdgeKind.TheVariants.{Hash, Ordered, Singleton}
pub use Rattle.rc_spec.specs.declared.items.Op.{Op}
pub use Rattle.rc_spec.specs.declared.items.OpKind.{OpKind}
pub use Rattle.rc_spec.specs.declared.items.OpKind.TheVariants.{Insert, Query, Remove, Update}
pub use Rattle.rc_spec.specs.declared.items.Place.{Place}
pub use Rattle.rc_spec.specs.declared.spec.Spec.{Spec}
pub use Rattle.rc_tuple.specs.ColSet.{IsColSet, is_within}
pub use Rattle.rc_tuple.specs.ColSetLaws.{in_range_below, in_range_bounds, test_from_within, within_from_test}
pub use Rattle.rc_tuple.specs.RisingSet.{AreDistinct, In, gather}
pub use Rattle.rc_tuple.specs.RisingSetLaws.{get_or_in, in_list_all, list_all_in, nat_order, same_rising}
pub use Rattle.rc_tuple.specs.Tuple.{Pairs}
pub use Rattle.std.specs.List.{count_by, find, list_all, position, position_or_len, range_with_len, remove, slice_get}
pub use Rattle.std.specs.Option.{option_map_or}
pub use Rattle.std.specs.Ordering.{nat_cmp}
