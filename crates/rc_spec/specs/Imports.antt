-- The names that files of specs/ take from the crates below and from std, passed on from one place.
pub use Rattle.rc_tuple.specs.ColSet.{IsColSet, Within, has, inter, union}
pub use Rattle.rc_tuple.specs.ColSetLaws.{gather-union, in_inter, in_range_below, in_range_bounds, range_at, rising_range, union_left, union_right, union_within}
pub use Rattle.rc_tuple.specs.MergeLaws.{Agree-back, Agree-less, Agree-union, Agree-value, inter-same, merge-merge, project-nothing, project_all, value-project}
pub use Rattle.rc_tuple.specs.Relation.{Follows, HoldsDeps, IsOver, IsRelation, Satisfies, SatisfiesOne, breaks}
pub use Rattle.rc_tuple.specs.RelationLaws.{rising_of, satisfies_fewer, satisfies_from_test, test_from_agree}
pub use Rattle.rc_tuple.specs.RisingSet.{AreDistinct, In, IsRising, gather, put}
pub use Rattle.rc_tuple.specs.RisingSetLaws.{IsOrder, append_in_left, append_in_right, filter-filter, filter_in, flat_map_in, gather-rising, gather_in, get_or_in, has_in, in_append, in_filter, in_flat_map, in_gather, in_has, in_map, in_put, in_slice_get, map_in, nat_order, not_below_itself, put_new, put_old, rising_filter, rising_gather, rising_put, same_gather, same_rising}
pub use Rattle.rc_tuple.specs.Tuple.{IsTuple, Pairs, agree_on, agrees, cols_of, matches, merge, pair_cmp, pick, project, tuple_cmp, tuple_eq, value}
pub use Rattle.rc_tuple.specs.TupleLaws.{Agree, agree_from, agrees_to, in_merge, in_project, merge_left, merge_none, merge_right, one_pair, pair_order, project_in, same_from_test, test_from_same, then_equal, tuple_order}
pub use Rattle.rc_tuple.specs.declared.dep.Dep.{Dep}
pub use Rattle.std.specs.BTreeSet.{BTreeSet, insert_key}
pub use Rattle.std.specs.Char.{is_ascii_digit, is_ascii_lowercase}
pub use Rattle.std.specs.Cmp.Lexicographic.{slice_cmp}
pub use Rattle.std.specs.List.{AllByRecursion, filter, find, flat_map, fold, list_all, list_any, range_with_len, slice_get, sum_by}
pub use Rattle.std.specs.Option.{option_map_or}
pub use Rattle.std.specs.Ordering.{match_ordering, nat_cmp, ordering_then}
pub use Rattle.std.specs.Prelude.{List, map, ℕ}
pub use Rattle.std.specs.Result.{IfErr, IsOk}
pub use Rattle.std.specs.declared.cmp.Ordering.{Ordering}
pub use Rattle.std.specs.declared.cmp.Ordering.TheVariants.{Equal, Greater, Less}
