-- The names that files of specs/ take from the crates below and from std, passed on from one place.
pub use Rattle.rc_rel.specs.History.{own_placed, placed, placed_from}
pub use Rattle.rc_rel.specs.OwnLaws.{own_stands, same_placed, same_places, stands_from}
pub use Rattle.rc_rel.specs.SharesLaws.{shares_add_up}
pub use Rattle.rc_rel.specs.declared.entry.Entry.{Entry}
pub use Rattle.rc_rel.specs.declared.entry.Placed.{Placed}
pub use Rattle.rc_tuple.specs.ColSetLaws.{in_range_below, in_range_bounds}
pub use Rattle.rc_tuple.specs.RisingSet.{AreDistinct, In}
pub use Rattle.rc_tuple.specs.RisingSetLaws.{flat_map_in, get_or_in, in_append, in_flat_map, in_map, in_slice_get, map_in, slice_get_in}
pub use Rattle.std.specs.List.{AllPairs, flat_map, range_with_len, slice_get, slice_set, sum_by}
pub use Rattle.std.specs.Prelude.{List, replicate, ℕ}
