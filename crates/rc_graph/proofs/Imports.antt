-- The names that files of proofs/ take from the crates below, from std and from specs/, passed on from one place.
pub use Rattle.rc_graph.specs.Walks.{IsTarget, Reaches}
pub use Rattle.rc_graph.specs.WalksLaws.{circle_reaches, reaches_before, reaches_circle, reaches_more, reaches_one, walk_inside}
pub use Rattle.rc_spec.specs.Adequacy.{KeepsA2}
pub use Rattle.rc_spec.specs.Decomposition.{IsWalk, LiesOnCircle}
pub use Rattle.rc_spec.specs.InRange.{IsInRange}
pub use Rattle.rc_spec.specs.Order.{CanBeNext, IsNext, IsTopologicalOrder}
pub use Rattle.rc_spec.specs.declared.items.Edge.{Edge}
pub use Rattle.rc_spec.specs.declared.spec.Spec.{Spec}
pub use Rattle.rc_tuple.specs.ColSet.{IsColSet, has, is_within, union, with_column}
pub use Rattle.rc_tuple.specs.ColSetLaws.{in_union, within_from_test}
pub use Rattle.rc_tuple.specs.GrowthLaws.{missing, missing_lt}
pub use Rattle.rc_tuple.specs.RelationLaws.{in_list_any, list_any_in}
pub use Rattle.rc_tuple.specs.RisingSet.{In}
pub use Rattle.rc_tuple.specs.RisingSetLaws.{append_in_left, append_in_right, get_or_in, has_in, in_append, in_has, in_list_all, in_put, list_all_in, nat_order, put_new, put_old}
pub use Rattle.std.proofs.Common.{take}
pub use Rattle.std.proofs.Math.ListN.{get_or-append}
pub use Rattle.std.proofs.Math.Seq.{get_or-append_seam, take-append_seam, take-length}
pub use Rattle.std.proofs.lemmas.Bool.{both_ways, cases_Bool, cases_eq, cases_lt, eq-eqb, eqb-true, false≢true, not-true, not_from_false, or_cases, or_left, or_right}
pub use Rattle.std.proofs.lemmas.Iterator.{YieldsList-from_slice}
pub use Rattle.std.proofs.lemmas.Iterator.Search.{all_from_yields_List, any_from_yields_List}
pub use Rattle.std.proofs.lemmas.List.{length-append, take-append-le, take_more}
pub use Rattle.std.specs.List.{list_all, list_any}
pub use Rattle.std.specs.Ordering.{nat_cmp}
