-- The names that files of specs/ take from the crates below and from std, passed on from one place.
pub use Rattle.rc_fragment.specs.Fragment.{edge_table, shape_of}
pub use Rattle.rc_fragment.specs.FragmentRows.{FragmentRows, no_rows}
pub use Rattle.rc_fragment.specs.Holder.{AreOfOneRelation, AreOfRelation, HeldStripe, Holding, IsHeld, LentStripe, held_of}
pub use Rattle.rc_fragment.specs.Keep.{IsAtRest, KeptRows, at_rest}
pub use Rattle.rc_fragment.specs.declared.shape.EdgeShape.{EdgeShape}
pub use Rattle.rc_spec.specs.Acceptance.{IsSealed}
pub use Rattle.rc_spec.specs.Calls.{all_columns}
pub use Rattle.rc_spec.specs.Fragments.{EdgeRow, all_stripes, fragment_of, represented_by}
pub use Rattle.rc_spec.specs.FragmentsLaws.{instances_law}
pub use Rattle.rc_spec.specs.Placement.{class_of}
pub use Rattle.rc_spec.specs.PlacementLaws.{class_of_known, physical_stripe_below}
pub use Rattle.rc_spec.specs.Stripes.{physical_stripe, stripe_total}
pub use Rattle.rc_spec.specs.declared.lock.Mode.{Mode}
pub use Rattle.rc_spec.specs.declared.spec.Spec.{Spec}
pub use Rattle.rc_tuple.specs.Relation.{IsRelation, Satisfies}
pub use Rattle.rc_tuple.specs.RisingSet.{In}
pub use Rattle.rc_tuple.specs.RisingSetLaws.{append_in_left, append_in_right, in_append, slice_get_in}
pub use Rattle.rc_tuple.specs.Tuple.{Pairs, project, tuple_cmp, tuple_eq}
pub use Rattle.std.specs.Borrow.{Bor}
pub use Rattle.std.specs.FinMap.{FinMap}
pub use Rattle.std.specs.List.{flat_map, range_with_len, slice_get}
