-- The names that files of proofs/ take from the crates below, from std and from specs/, passed on from one place.
pub use Rattle.rc_bindings.specs.Bindings.{AreBindings, AreRows, BindingList, HasMore, IsGivenBy, IsRowWith, OneBinding, TakesRows, given, key_and_extra, seen_list, tuples_in, with_tuples}
pub use Rattle.rc_bindings.specs.BindingsLaws.{AreBindings-push, HasFirst, HasPushed, all_pushed, cols_of-given, count_within, first_row, first_rows, first_tuples, in_tuples_in, length-rows, length-tuples_in, merged_row, next_row, no_merge, rising_behind, rising_tuples_in, row_set, row_within, rows_as_long, tuple_at, tuples_in-push, written_behind}
pub use Rattle.rc_bindings.specs.Registers.{all_written, columns_below, fits, fits_all, register, tuple_in, values_of}
pub use Rattle.rc_bindings.specs.RegistersLaws.{IsTuple-tuple_in, all_written-append, cols_of-tuple_in, columns_below_all, fits_all-append, fits_apart, get-same, get-tuple_in, has_not, hash_of_next, if_ok, length-all_written, length-columns_below_more, none_shared, not_different, on_ok, option_same, pairs_below, pairs_below_all, pairs_below_out, pairs_below_there, place_within, project-same_values, project-tuple_in, register-unwritten, register-written, tuple_in-decided, tuple_in-equal, tuple_in-written, values_next, values_of-tuple_in, zip-registers, zip_there}
pub use Rattle.rc_spec.specs.InRange.{AreBelow, IsSetBelow}
pub use Rattle.rc_spec.specs.Plain.{row_cmp}
pub use Rattle.rc_spec.specs.Ranges.{in_ranges}
pub use Rattle.rc_spec.specs.Stripes.{hash_of, mix}
pub use Rattle.rc_tuple.specs.ColSet.{IsColSet, has, inter, union}
pub use Rattle.rc_tuple.specs.ColSetLaws.{in_inter, slice_get-rank, union_left, union_right}
pub use Rattle.rc_tuple.specs.MergeLaws.{project_all}
pub use Rattle.rc_tuple.specs.RisingSet.{In, IsRising, gather}
pub use Rattle.rc_tuple.specs.RisingSetLaws.{append_in_left, append_in_right, gather-rising, get_or_in, has_in, in_append, in_from_places, in_gather, in_has, list_all_in, map_in}
pub use Rattle.rc_tuple.specs.Tuple.{IsTuple, Pairs, agree_on, cols_of, get, merges_of, pair_cmp, pick, project, tuple_cmp, value}
pub use Rattle.rc_tuple.specs.TupleLaws.{cols-project, cols_of-zip, same_from_test, test_from_same, tuple_order}
pub use Rattle.std.proofs.Common.{subst, sym}
pub use Rattle.std.proofs.Math.ListN.{length-set}
pub use Rattle.std.proofs.Math.Nat.{add-div_left, eq-or-lt_of_le, mul-le-mul_right, suc-mul}
pub use Rattle.std.proofs.Math.Seq.{take-suc}
pub use Rattle.std.proofs.lemmas.Bool.{and_from, eq-eqb, eqb-true, false≢true, or_cases, or_left, or_right}
pub use Rattle.std.proofs.lemmas.Cmp.{ranked}
pub use Rattle.std.proofs.lemmas.List.{append-nil, append_assoc, drop_more, get_or_default, length-append, length-drop, length-take-le, set-append_right, take-append-drop, take_all, with_items_is}
pub use Rattle.std.proofs.lemmas.List.Filters.{FiltersInPlace, FiltersInPlace-more_no, FiltersInPlace-more_set}
pub use Rattle.std.specs.List.{flat_map, zip}
pub use Rattle.std.specs.Option.{unwrap_or}
pub use Rattle.std.specs.Ordering.{nat_cmp}
pub use Rattle.std.specs.Slice.Iter.{chunks_exact_rest, chunks_exact_size}
pub use Rattle.std.specs.Vec.{vec_capacity, vec_len}
pub use Rattle.std.specs.declared.cmp.Ordering.{Ordering}
pub use Rattle.std.specs.declared.cmp.Ordering.TheVariants.{Equal, Greater, Less}
