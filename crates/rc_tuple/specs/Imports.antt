-- The names that files of specs/ take from the crates below and from std, passed on from one place.
pub use Rattle.std.specs.Cmp.{IsEquivalence, IsTotalOrder, eq_by_cmp_equiv, nat_cmp_is, tied_itself}
pub use Rattle.std.specs.Cmp.Lexicographic.{slice_cmp}
pub use Rattle.std.specs.Int.{bit_at, bit_not, w32}
pub use Rattle.std.specs.List.{AllByRecursion, dedup, filter, flat_map, insert, list_all, list_any, range_with_len, slice_get, zip}
pub use Rattle.std.specs.Ordering.{eq_by_cmp, is_eq, match_ordering, nat_cmp, ordering_reverse, ordering_then}
pub use Rattle.std.specs.declared.cmp.Ordering.{Ordering}
pub use Rattle.std.specs.declared.cmp.Ordering.TheVariants.{Equal, Greater, Less}
