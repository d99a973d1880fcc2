-- The names that files of proofs/ take from the crates below, from std and from specs/, passed on from one place.
pub use Rattle.rc_spec.specs.Calls.{value_columns}
pub use Rattle.rc_spec.specs.Contents.{content, contents, represented}
pub use Rattle.rc_spec.specs.Decomposition.{edge_at, no_edge}
pub use Rattle.rc_spec.specs.DecompositionLaws.{at_found, class_among, edge_among, op_among}
pub use Rattle.rc_spec.specs.Fragments.{all_rows, edge_row_cmp, fragment_of, represented_by}
pub use Rattle.rc_spec.specs.InRange.{IsEdgeAmong, IsOpAmong, IsSetBelow}
pub use Rattle.rc_spec.specs.Placement.{class_of, no_class, no_op}
pub use Rattle.rc_spec.specs.PlacementLaws.{class_of_known, hash_of_more}
pub use Rattle.rc_spec.specs.Plain.{row_cmp}
pub use Rattle.rc_spec.specs.RowEnds.{AreInRange, ends_of, even_ends}
pub use Rattle.rc_spec.specs.RowEndsLaws.{even_ends-more, length-even_ends, start_even}
pub use Rattle.rc_spec.specs.RowLists.{AreEnds, rows_from}
pub use Rattle.rc_spec.specs.RowListsLaws.{AreEnds-even, AreEnds-push, last_end, length-rows_from, rows_from-even, rows_from-push}
pub use Rattle.rc_spec.specs.Rows.{rows_in}
pub use Rattle.rc_spec.specs.RowsLaws.{rows_in-insert}
pub use Rattle.rc_spec.specs.Stripes.{mix}
pub use Rattle.rc_spec.specs.declared.call.Reply.{Reply}
pub use Rattle.rc_spec.specs.declared.call.Reply.TheVariants.{Removed, Updated}
pub use Rattle.rc_spec.specs.declared.items.Class.{Class}
pub use Rattle.rc_spec.specs.declared.items.ColKind.TheVariants.{Num}
pub use Rattle.rc_spec.specs.declared.items.Edge.{Edge}
pub use Rattle.rc_spec.specs.declared.items.EdgeKind.TheVariants.{Hash, Ordered, Singleton}
pub use Rattle.rc_spec.specs.declared.items.Op.{Op}
pub use Rattle.rc_spec.specs.declared.items.Place.{Place}
pub use Rattle.rc_spec.specs.declared.spec.Spec.{Spec}
pub use Rattle.rc_tuple.specs.ColSetLaws.{rising_range}
pub use Rattle.rc_tuple.specs.RisingSet.{In, gather, put}
pub use Rattle.rc_tuple.specs.RisingSetLaws.{gather-rising, get_or_in, nat_order, slice_get_there}
pub use Rattle.rc_tuple.specs.Tuple.{Pairs, tuple_eq, value}
pub use Rattle.rc_tuple.specs.TupleLaws.{same_from_test, test_from_same}
pub use Rattle.std.proofs.Common.{ap, arith, length, refl, rules, subst}
pub use Rattle.std.proofs.Math.Nat.{mul-le-mul_right, suc-mul}
pub use Rattle.std.proofs.Math.Numerals.{add-one}
pub use Rattle.std.proofs.lemmas.Bool.Decides.{Decides-eqb}
pub use Rattle.std.proofs.lemmas.Fn.{filter_same}
pub use Rattle.std.proofs.lemmas.List.{length-append, take_more}
pub use Rattle.std.proofs.lemmas.Option.{slice_get_within}
pub use Rattle.std.proofs.lemmas.Slice.Eq.{slice_eq-Decides}
pub use Rattle.std.specs.List.{find}
pub use Rattle.std.specs.Option.{option_map_or, unwrap_or}
pub use Rattle.std.specs.Ordering.{is_eq, nat_cmp}
