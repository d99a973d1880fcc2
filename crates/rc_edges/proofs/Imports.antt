-- The names that files of proofs/ take from the crates below, from std and from specs/, passed on from one place.
pub use Rattle.rc_edges.specs.EdgeMap.{Counted, HasAsMany, HasExtra, Rows, count_at, count_of, current, extra_of, listed, once_less, one_less, present, swept, written}
pub use Rattle.rc_edges.specs.ListMap.{IsAt, IsGap, IsKeyed, Items, count_in, is_filled, rows_in, values_in}
pub use Rattle.rc_edges.specs.ListMapLaws.{count_next, count_one, found_at, found_none, get_at, get_none, gone_rows, has_row-items, len-rows, listed-rows, past_all, past_at, past_gap, past_more, put_in, rows-none, rows_pushed, set_at, swept_filled, swept_none, swept_out, writes_at, writes_gap, writes_out}
pub use Rattle.rc_edges.specs.OneMap.{rows_at}
pub use Rattle.rc_edges.specs.OneMapLaws.{alone, if_ok, in_list, in_place, is_other, is_own, no_place, on_ok, other_none, own_found, own_get, own_kept, own_there, set_own, swept_own}
pub use Rattle.rc_edges.specs.RowsLaws.{counts, started_at, started_new}
pub use Rattle.rc_edges.specs.Values.{Values, values_cmp}
pub use Rattle.rc_edges.specs.declared.one_map.OneMap.TheInside.{Inside}
pub use Rattle.std.proofs.lemmas.Bool.{false≢true}
pub use Rattle.std.proofs.lemmas.Grind.{common_steps}
pub use Rattle.std.proofs.lemmas.List.{append-nil, drop_all}
pub use Rattle.std.specs.Bool.{IsTrue}
pub use Rattle.std.specs.List.{list_any}
pub use Rattle.std.specs.Option.{option_and_then}
pub use Rattle.std.specs.Prelude.{IsSome, insert}
