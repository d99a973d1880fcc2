-- The names that files of proofs/ take from the crates below, from std and from specs/, passed on from one place.
pub use Rattle.rc_fragment.specs.Fragment.{AreAllRows, IsThere, edge_table, shape_of}
pub use Rattle.rc_fragment.specs.FragmentRows.{FragmentRows, no_rows, rolled_back, settled, with_promise}
pub use Rattle.rc_fragment.specs.Holder.{AreOffered, CanLower, CanRaise, HasRoomFor, HasTaken, HeldStripe, IsAbove, IsHeld, IsHeldExclusive, IsLent, IsPartlyAddedAt, LentStripe, all_reverted, held_of, just_taken, lent_reverted, with_changes, with_changes_at, with_now, with_room, with_room_at}
pub use Rattle.rc_fragment.specs.Implied.{NumberedRow, lowered_all, raised_all}
pub use Rattle.rc_fragment.specs.ImpliedTables.{class_rows}
pub use Rattle.rc_fragment.specs.Keep.{IsAtRest, KeptRows, at_rest, kept_rows}
pub use Rattle.rc_fragment.specs.Tuples.{ArePartlyAdded, CanAddTuple, HasTuple, IsPartlyAdded, changed_by, changes_of_class}
pub use Rattle.rc_fragment.specs.declared.shape.EdgeShape.{EdgeShape}
pub use Rattle.rc_instance.specs.Fragments.{IsEmptyFragment, each_at, with_at}
pub use Rattle.rc_instance.specs.Index.{Entries, IsAdded, IsIndexed, found_at, tuples_in, tuples_of, whole_of}
pub use Rattle.rc_instance.specs.Instance.{AreReleased, HaveOneTable, IsEmpty, IsInstance, IsOfOneRelation, IsOfRelation, IsWholeInstance, Stripe, held_from, held_numbers, held_part, holding, kept_stripe, lent_from, lent_part, number_part, offered_at, room_at, room_in, rows_of, rows_of_fragments, stripes_of, table_of, table_of_fragments, taken_in}
pub use Rattle.rc_instance.specs.InstanceLaws.{IsHeldFrom, as_held, held-lent, held_from_in, held_of-holding, in_held_from, lent_as, no_table, offered-length, place_in}
pub use Rattle.rc_instance.specs.RelationLaws.{free_law}
pub use Rattle.rc_spec.specs.Acceptance.{IsSealed}
pub use Rattle.rc_spec.specs.Contents.{join, join_all}
pub use Rattle.rc_spec.specs.Fragments.{EdgeRow, represented_by, tuples_of_edge}
pub use Rattle.rc_spec.specs.FragmentsLaws.{empty_law, in_tuples_of_edge, tuples_of_edge_in}
pub use Rattle.rc_spec.specs.HeathLaws.{IsJoined, in_join, join_in, rising_join}
pub use Rattle.rc_spec.specs.InRange.{AreBelow}
pub use Rattle.rc_spec.specs.JoinLaws.{join_by_columns}
pub use Rattle.rc_spec.specs.PlacementLaws.{placed_total}
pub use Rattle.rc_spec.specs.Stripes.{stripe_total}
pub use Rattle.rc_spec.specs.declared.lock.Mode.{Mode}
pub use Rattle.rc_spec.specs.declared.spec.Spec.{Spec}
pub use Rattle.rc_tuple.specs.ColSet.{Within}
pub use Rattle.rc_tuple.specs.ColSetLaws.{in_inter}
pub use Rattle.rc_tuple.specs.RelationLaws.{satisfies_none}
pub use Rattle.rc_tuple.specs.RisingSet.{In, gather}
pub use Rattle.rc_tuple.specs.RisingSetLaws.{append_in_left, append_in_right, get_or_in, in_append, in_map, map_in, same_rising, slice_get_in}
pub use Rattle.rc_tuple.specs.Tuple.{IsTuple, Pairs, cols_of, merges_of, project, tuple_cmp, tuple_eq}
pub use Rattle.rc_tuple.specs.TupleLaws.{rising_pairs, same_from_test, test_from_same, tuple_order}
pub use Rattle.std.proofs.Common.{Some, arith, subst, sym, take}
pub use Rattle.std.proofs.Math.ListN.{set}
pub use Rattle.std.proofs.Math.Seq.{take-suc}
pub use Rattle.std.proofs.lemmas.Bool.{eq-eqb, eqb-true}
pub use Rattle.std.proofs.lemmas.Bool.Decides.{Decides-and, Decides-eqb, Decides-like, same_from_decides}
pub use Rattle.std.proofs.lemmas.Grind.{flat_map-append}
pub use Rattle.std.proofs.lemmas.List.{append-nil, append_assoc, drop_all, drop_more, length-append, length-map, length-set, map-append, take_all, take_more}
pub use Rattle.std.proofs.lemmas.List.FromFn.{length-map-range_with_len, map-range_with_len_more}
pub use Rattle.std.proofs.lemmas.Option.{none-some, same_Some, slice_get_read, slice_get_within}
pub use Rattle.std.proofs.lemmas.Slice.Zip.{AllZip-long}
pub use Rattle.std.specs.Bool.{Decides}
pub use Rattle.std.specs.Borrow.{Bor}
pub use Rattle.std.specs.Cmp.{IsTotalOrder}
pub use Rattle.std.specs.Cmp.Lexicographic.{pointwise, pointwise_decides}
pub use Rattle.std.specs.FinMap.{FinMap, find, get-from_entries, get-insert, get-remove, same_map}
pub use Rattle.std.specs.List.{AllByRecursion, AllZip, flat_map, range_with_len, slice_get}
pub use Rattle.std.specs.Map.{AreApart, IsKeyTest, KeepsOthers, lookup}
pub use Rattle.std.specs.Prelude.{List, OnOk, Option, map, vec_capacity}
pub use Rattle.std.specs.Vec.Iter.{into_iter_items, into_iter_len}
