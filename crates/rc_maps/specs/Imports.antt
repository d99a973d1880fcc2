-- The names that files of specs/ take from the crates below and from std, passed on from one place.
pub use Rattle.rc_edges.specs.EdgeMap.{Counted, HasAsMany, HasWidth, IsAddedNew, Rows, count_at, count_of, current, extra_of, found, listed, once_less, once_more, one_less, parts, present, rows_code, swept, written}
pub use Rattle.rc_edges.specs.ListMap.{IsAt, IsGap, IsKeyed, Items, count_in, rows_in, values_in}
pub use Rattle.rc_edges.specs.ListMapLaws.{count_next, count_within, entries-whole, get_at, len-rows, listed-rows, put_in, set_at, swept_filled, swept_out, writes_at, writes_gap, writes_out}
pub use Rattle.rc_edges.specs.RowsLaws.{below_more, entries-keep, find_below, get-keep, get-written, head_below, keep-written, less, same_answers, tail_sorted, total, written_again}
pub use Rattle.rc_edges.specs.Values.{Values, values_cmp, values_eq}
pub use Rattle.rc_edges.specs.ValuesLaws.{pointwise_same, same_from_test, test_from_same, test_symmetric, values_order}
pub use Rattle.std.specs.BTreeMap.{is_at}
pub use Rattle.std.specs.Bool.{IsTrue, MatchBool}
pub use Rattle.std.specs.Borrow.{Fml, LendsSo, MutBor, RattleType}
pub use Rattle.std.specs.Cmp.{eq_by_cmp_equiv, nat_cmp_is}
pub use Rattle.std.specs.Cmp.Lexicographic.{pointwise}
pub use Rattle.std.specs.Coded.{Coded, code_by, coded_bool, coded×}
pub use Rattle.std.specs.FinMap.{FinMap, empty_of_len, entries-insert, entries_sorted, find, get-empty, get-entries, get-from_entries, get-remove, is_sorted, len-empty, len-entries, len-insert, len-remove, put}
pub use Rattle.std.specs.FinMap.Entries.{below_all, by_order, find-where_key, is_sorted-put, is_sorted-where_key, same_entries, where_key}
pub use Rattle.std.specs.List.{All, AllByRecursion, AllWithin, HoldsAt, IsDistinct, count_by, flat_map, fold, list_all, list_any, slice_get, sum_by}
pub use Rattle.std.specs.List.Sorted.{IsBinarySearchResult, IsNonDecreasingBy, IsPartitionPoint, IsPartitionedBy, IsPermutation, IsSearchInRange, IsSortedBy, IsStrictlySortedBy}
pub use Rattle.std.specs.Map.{IsKeyTest, KeepsOthers, keys_of, lookup, values_of}
pub use Rattle.std.specs.Option.{OnSome, option_and_then, option_map, option_or, unwrap_or}
pub use Rattle.std.specs.Ordering.{eq_by_cmp, is_eq, is_lt, nat_cmp, ordering_index, ordering_reverse, ordering_then}
pub use Rattle.std.specs.Prelude.{List, ℕ}
pub use Rattle.std.specs.declared.cmp.Ordering.{Ordering}
pub use Rattle.std.specs.declared.cmp.Ordering.TheVariants.{Equal, Greater, Less}
