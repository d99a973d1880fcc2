-- The names that files of proofs/ take from the crates below, from std and from specs/, passed on from one place.
pub use Rattle.rc_fd.specs.FollowsLaws.{follows_by, follows_subset, follows_transitive, follows_union, follows_weaker}
pub use Rattle.rc_inline.specs.Contraction.{contracted, edges_into, edges_out_of, first_inlinable, is_inlinable, is_singleton, rejoined, renumbered, renumbered_place}
pub use Rattle.rc_inline.specs.Inlining.{inlined}
pub use Rattle.rc_inline.specs.InliningLaws.{contracted_shorter, inlined_more, inlined_named, inlined_rest}
pub use Rattle.rc_inline.specs.Placing.{co_placed, is_widest, moved, placed_together, widest}
pub use Rattle.rc_inline.specs.PlacingLaws.{AreOrdered, co_class, co_count, co_striping, embedded_is, order_tested, together_inlinable, together_moved, together_named, unordered_stay}
pub use Rattle.rc_inline.specs.RemovedLaws.{in_removed, others_fail}
pub use Rattle.rc_inline.specs.WidestLaws.{widest_known}
pub use Rattle.rc_spec.specs.Acceptance.{IsAccepted, IsSealed}
pub use Rattle.rc_spec.specs.Adequacy.{HasEdgeInto, HasEdgeOutOf, IsAdequate, IsLossless, IsReachedBy, IsRoot, KeepsA1, KeepsA2, KeepsA3, KeepsA4, KeepsA5, KeepsA6, KeepsA7, visited}
pub use Rattle.rc_spec.specs.Decomposition.{IsCircle, IsWalk, LiesOn, LiesOnCircle, bound, edge_at, no_edge, no_node, node_at, source_and_key}
pub use Rattle.rc_spec.specs.DecompositionLaws.{edge_among, edge_at_found, edge_at_in}
pub use Rattle.rc_spec.specs.InRange.{HasColumnAndNode, IsEdgeAmong, IsInRange, IsPlaceAmong, IsWellFormed}
pub use Rattle.rc_spec.specs.Names.{IsWellNamed}
pub use Rattle.rc_spec.specs.Order.{IsNext, IsTopologicalOrder}
pub use Rattle.rc_spec.specs.Placement.{IsPlaced, KeepsO, KeepsP1, KeepsP2, KeepsP3, KeepsP5, class_at, class_of, no_class, op_at, places_of, striping}
pub use Rattle.rc_spec.specs.declared.items.Class.{Class}
pub use Rattle.rc_spec.specs.declared.items.Edge.{Edge}
pub use Rattle.rc_spec.specs.declared.items.EdgeKind.{EdgeKind}
pub use Rattle.rc_spec.specs.declared.items.EdgeKind.TheVariants.{Hash, Ordered, Singleton}
pub use Rattle.rc_spec.specs.declared.items.Place.{Place}
pub use Rattle.rc_spec.specs.declared.spec.Spec.{Spec}
pub use Rattle.rc_tuple.specs.ColSet.{Within, inter, union}
pub use Rattle.rc_tuple.specs.ColSetLaws.{in_inter, inter_in, union_left}
pub use Rattle.rc_tuple.specs.Relation.{Follows}
pub use Rattle.rc_tuple.specs.RisingSet.{In}
pub use Rattle.rc_tuple.specs.RisingSetLaws.{flat_map_in, gather_in, get_or_in, in_filter, in_flat_map, in_gather, in_map, map_in, nat_order}
pub use Rattle.std.proofs.Common.{rules}
pub use Rattle.std.proofs.lemmas.Bool.{cases_eq, eq-eqb, eqb-false, eqb-true, iff_false, le-ltb, lt-ltb, ltb-false, ltb-true, ne_eqb, not-true}
pub use Rattle.std.proofs.lemmas.Fn.{filter_same}
pub use Rattle.std.proofs.lemmas.List.{get_or_default, length-map, with_items_is}
pub use Rattle.std.proofs.lemmas.List.Edits.{get_or-remove_above, get_or-remove_below, length-remove, map_over_more}
pub use Rattle.std.proofs.lemmas.List.Quantifiers.{position-Some}
pub use Rattle.std.proofs.lemmas.List.Sums.{count_by-le-length, length-filter, sum_by-cons}
pub use Rattle.std.proofs.lemmas.Result.{IfOk-weaker}
pub use Rattle.std.specs.List.{count_by, find, position, remove}
pub use Rattle.std.specs.Option.{option_map_or}
pub use Rattle.std.specs.Ordering.{nat_cmp}
