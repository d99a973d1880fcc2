-- The names that files of proofs/ take from the crates below, from std and from specs/, passed on from one place.
pub use Rattle.rc_edges.specs.EdgeMap.{Counted, HasAsMany, HasExtra, HasWidth, IsAddedNew, Rows, count_of, current, extra_of, listed, once_less, once_more, one_less, present, swept, written}
pub use Rattle.rc_edges.specs.ListMap.{IsAt, IsGap, IsKeyed, Items, count_in, is_filled, rows_in, values_in}
pub use Rattle.rc_edges.specs.ListMapLaws.{get_none, gone_rows, got_none, has_row-items, len-rows, listed-rows, rows_pushed, swept_filled, swept_none}
pub use Rattle.rc_edges.specs.OneMapLaws.{if_ok}
pub use Rattle.rc_edges.specs.RowsLaws.{counts, started_at, started_new, tombstone_absent, total, written_again}
pub use Rattle.rc_edges.specs.Values.{Values}
pub use Rattle.rc_maps.specs.Block.{item_of, items_of}
pub use Rattle.rc_maps.specs.BlockLaws.{IsSearched, IsWritten, at_key, begins_no_key, begins_no_row, begins_row, counted, entries_are, gone_in, halved, item_at, kept_at, len_is, list_any-map, none_other, out_keyed, out_swept, present_gone, present_there, put_row, searched, set_row, stays_swept}
pub use Rattle.rc_maps.specs.Blocks.{IsOwn, begin_by, begins_by, items_in}
pub use Rattle.rc_maps.specs.BlocksLaws.{AreHalved, AreOf, HasOwn, added_are, added_ok, as_many_some, begun_before_first, behind_first, below_most, count_before, none_left, own_found, own_get, own_lowered, own_out, own_place, own_set, own_swept, place_within, raised_are, raised_ok, some_left, split_in, stays_err}
pub use Rattle.rc_maps.specs.BlocksWalkLaws.{HasRow, first_items, gone_alone, gone_none, has_any, joined_all, len_all, len_sum, next_block, one_block, pushed_all, pushed_next, row_count, rows_fit}
pub use Rattle.rc_maps.specs.HashLaws.{apart_one, changed_one, found_many, found_one}
pub use Rattle.rc_maps.specs.KeyLengths.{has_other, has_two}
pub use Rattle.rc_maps.specs.Keyed.{AreApart, by_many, by_one, by_two, entries_one, has_row, pair_of, values_of_walk}
pub use Rattle.rc_maps.specs.OrderedLaws.{apart_many, changed_many, rising_many, rising_one}
pub use Rattle.rc_maps.specs.OrderedTable.{entries_of, has_one_column}
pub use Rattle.rc_maps.specs.OtherKeys.{others_of, same_others}
pub use Rattle.rc_maps.specs.PairKeys.{pairs_of, same_pairs}
pub use Rattle.rc_maps.specs.PushLaws.{IsPushed, IsPushed-all, IsPushed-kept, IsPushed-next, kept_before, on_err, walked_next}
pub use Rattle.rc_maps.specs.SplitLaws.{added-pairs, apart_both, both-none, changed_two, first-kept, found_two, none-both, other_from, others-changed, others-found, pair, pairs-changed, pairs-found, passed-changed, passed-put, raised-pairs, second-kept, two-changed, two_from, values-both}
pub use Rattle.rc_maps.specs.TableEdge.{TableRows}
pub use Rattle.rc_maps.specs.TableLaws.{many, no_one, none-whole, on_found, on_some, one, one_widths, raised, stays, values-by_values, whole}
pub use Rattle.rc_maps.specs.WalkLaws.{IsCopied, IsCopied-all, IsCopied-more, IsCopied-none, IsSorted, IsSorted-by, apart_rising, has_row-walk, is_before, len-walk}
pub use Rattle.rc_maps.specs.declared.keyed.Keyed.{Keyed}
pub use Rattle.std.proofs.Common.{None, Some, ap, map, not, refl, rules, subst, sym}
pub use Rattle.std.proofs.lemmas.Bool.{eqb-true, false≢true}
pub use Rattle.std.proofs.lemmas.Iterator.{YieldsList-from_map, YieldsList-from_slice, cases_from_any}
pub use Rattle.std.proofs.lemmas.Iterator.Consumers.{YieldsList-at, YieldsList-from_rest, fits_by_from_yields_list, sum_by_from_yields_List}
pub use Rattle.std.proofs.lemmas.Iterator.Search.{any_from_yields_List}
pub use Rattle.std.proofs.lemmas.List.{append-nil, drop_all, drop_more, get_or-map, length-map, take-map, take_all}
pub use Rattle.std.proofs.lemmas.List.Folds.{list_any-append}
pub use Rattle.std.proofs.lemmas.List.Sorted.{IsPartitionPoint-from_clause, answers_always, ranks_by}
pub use Rattle.std.proofs.lemmas.List.Sums.{sum_by-append}
pub use Rattle.std.proofs.lemmas.Option.{IfSome_then}
pub use Rattle.std.proofs.lemmas.Result.{IfOk-weaker, on_err_weaker, on_ok_weaker}
pub use Rattle.std.specs.Bool.{IsTrue}
pub use Rattle.std.specs.HashMap.Entry.{entry_value}
pub use Rattle.std.specs.List.{All, count_by, list_any, slice_get}
pub use Rattle.std.specs.Map.{values_of}
pub use Rattle.std.specs.Option.{option_and_then}
pub use Rattle.std.specs.Prelude.{IsSome, insert, slice_set}
pub use Rattle.std.specs.Vec.{vec_capacity, vec_len}
