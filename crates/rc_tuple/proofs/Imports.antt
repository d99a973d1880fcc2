-- The names that files of proofs/ take from the crates below, from std and from specs/, passed on from one place.
pub use Rattle.rc_tuple.specs.ColSet.{IsColSet, columns_of, has, is_within, mask_of, rank}
pub use Rattle.rc_tuple.specs.ColSetLaws.{IsColSet-columns_of, IsColSet-from_mask, IsColSet-none, columns_of-minus, has-columns_of_shifted, has_above, mask_of-columns_of, rank-from_mask, rank-le, rank_more, rank_within, slice_get-at_rank, slice_get-past_rank, within_none}
pub use Rattle.rc_tuple.specs.RisingSet.{In, IsRising, gather, put}
pub use Rattle.rc_tuple.specs.RisingSetLaws.{gather-rising, gather_next, get_or_in, in_from_places, in_has, kept_once, map_in, nat_order, put_behind, rising_gather}
pub use Rattle.rc_tuple.specs.Tuple.{IsTuple, Pairs, cols_of, has_pair, merge, pair_cmp, project, same_at, tuple_cmp, tuple_eq, tuple_of}
pub use Rattle.rc_tuple.specs.TupleLaws.{IsTuple-filter, IsTuple-merge, IsTuple-tuple_of, IsTuple-zip, agree_from, agree_on_zip, cols_of-zip, columns_more, in_project, length-zip_below, matches_has_pairs, merge_more, merge_none, merge_with, pair_order, put_above, rising_merge, rising_pairs, tuple_of_next, tuple_order, zip_below, zip_below_all, zip_below_with, zip_below_without}
pub use Rattle.std.proofs.Common.{arith}
pub use Rattle.std.proofs.lemmas.Bool.{eq-eqb, eqb-true, le-ltb, ltb-true}
pub use Rattle.std.proofs.lemmas.Fn.{dedup_same}
pub use Rattle.std.proofs.lemmas.List.{take_all}
pub use Rattle.std.proofs.lemmas.List.Edits.{insert_end}
pub use Rattle.std.proofs.lemmas.List.Sorted.{answers_always, ranks_by}
pub use Rattle.std.proofs.lemmas.Nat.{one_shl}
pub use Rattle.std.proofs.lemmas.Option.{slice_get_within}
pub use Rattle.std.specs.List.{list_all, slice_get, zip}
pub use Rattle.std.specs.Option.{option_copied}
pub use Rattle.std.specs.Ordering.{nat_cmp}
pub use Rattle.std.specs.Prelude.{cond}
pub use Rattle.std.specs.Vec.{vec_capacity, vec_len}
