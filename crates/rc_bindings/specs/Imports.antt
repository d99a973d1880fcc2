-- The names that files of specs/ take from the crates below and from std, passed on from one place.
pub use Rattle.rc_spec.specs.InRange.{IsSetBelow}
pub use Rattle.rc_spec.specs.Stripes.{hash_of, mix}
pub use Rattle.rc_tuple.specs.ColSet.{IsColSet, Within, has, inter}
pub use Rattle.rc_tuple.specs.ColSetLaws.{in_range_below, inter_in, range_with_len_more, rank_more, rising_range, slice_get-rank}
pub use Rattle.rc_tuple.specs.RisingSet.{In, IsRising}
pub use Rattle.rc_tuple.specs.RisingSetLaws.{IsOrder, filter_in, get_or_in, has_in, in_append, in_filter, in_has, in_list_all, in_map, list_all_in, map_in, nat_order, not_below_itself, rising_filter, same_bool, same_rising}
pub use Rattle.rc_tuple.specs.Tuple.{IsTuple, Pairs, agrees, cols_of, get, merge, merges_of, pair_cmp, project, tuple_cmp, value}
pub use Rattle.rc_tuple.specs.TupleLaws.{GivesOne, agree_from, agrees_to, cols_of-zip, in_merge, in_project, merge_left, merge_right, one_pair, pair_order, project_in, rising_cols, rising_merge, rising_pairs, zip_more}
pub use Rattle.std.specs.Cmp.{nat_cmp_is}
pub use Rattle.std.specs.List.{flat_map, fold, list_all, range_with_len, slice_get, zip}
pub use Rattle.std.specs.Option.{option_eq, unwrap_or}
pub use Rattle.std.specs.Ordering.{nat_cmp, ordering_then}
pub use Rattle.std.specs.Prelude.{Err, IfOk, Ok, OnOk, Result}
pub use Rattle.std.specs.declared.cmp.Ordering.{Ordering}
pub use Rattle.std.specs.declared.cmp.Ordering.TheVariants.{Equal, Greater, Less}
