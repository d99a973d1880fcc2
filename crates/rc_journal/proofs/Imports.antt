-- The names that files of proofs/ take from the crates below, from std and from specs/, passed on from one place.
pub use Rattle.rc_journal.specs.Merge.{IsMerged, placed_of, with_all}
pub use Rattle.rc_journal.specs.MergeLaws.{length-with_all, merged_is_history, merged_with, places_below, with_all-append}
pub use Rattle.rc_journal.specs.PartEntries.{PartEntries}
pub use Rattle.rc_journal.specs.Parting.{pushed, pushed_at, with_placed}
pub use Rattle.rc_rel.specs.History.{own_placed, placed, placed_from}
pub use Rattle.rc_rel.specs.OwnLaws.{own_end_mine, own_end_other, placed_from-append}
pub use Rattle.rc_rel.specs.declared.entry.Entry.{Entry}
pub use Rattle.rc_rel.specs.declared.entry.Placed.{Placed}
pub use Rattle.rc_tuple.specs.RisingSet.{In}
pub use Rattle.rc_tuple.specs.RisingSetLaws.{append_in_left, append_in_right}
pub use Rattle.std.proofs.Math.ListN.{drop_of_length-le}
pub use Rattle.std.proofs.Math.Seq.{take-length}
pub use Rattle.std.proofs.lemmas.Bool.{cases_eq}
pub use Rattle.std.proofs.lemmas.List.{append-nil, append_assoc, length-set, nil_from_length}
pub use Rattle.std.proofs.lemmas.Option.{same_Some}
pub use Rattle.std.specs.List.{slice_get, slice_index_or}
pub use Rattle.std.specs.Prelude.{slice_set}
pub use Rattle.std.specs.Vec.Iter.{into_iter_items, into_iter_len}
