-- The names that files of specs/ take from the crates below and from std, passed on from one place.
pub use Rattle.rc_tuple.specs.RisingSetLaws.{IsOrder, is_eq_equal, number_lists_order}
pub use Rattle.std.specs.Bool.{IsTrue}
pub use Rattle.std.specs.Cmp.{IsTotalOrder, tied_itself}
pub use Rattle.std.specs.Cmp.Lexicographic.{pointwise, pointwise_decides, slice_cmp}
pub use Rattle.std.specs.Coded.{Coded, coded_list, coded_ℕ, coded×}
pub use Rattle.std.specs.FinMap.{FinMap, entries_sorted, find, get-empty, get-entries, get-from_entries, get-insert, get-remove, is_sorted, len-entries, put, same_map}
pub use Rattle.std.specs.FinMap.Entries.{below_all, by_order, find-put, find-where_key, is_sorted-put, is_sorted-where_key, same_entries, where_key}
pub use Rattle.std.specs.List.{cons_option, filter_map, flat_map, list_any}
pub use Rattle.std.specs.Option.{option_and_then, option_map}
pub use Rattle.std.specs.Ordering.{is_eq, is_lt, nat_cmp, ordering_reverse}
pub use Rattle.std.specs.Prelude.{Bool, List, ℕ}
pub use Rattle.std.specs.declared.cmp.Ordering.{Ordering}
pub use Rattle.std.specs.declared.cmp.Ordering.TheVariants.{Equal, Greater, Less}
