-- The names that files of proofs/ take from the crates below, from std and from specs/, passed on from one place.
pub use Rattle.rc_edges.specs.EdgeMap.{Counted, HasAsMany, HasExtra, HasWidth, IsAddedNew, Rows, count_of, extra_of, found, one_less, present, written}
pub use Rattle.rc_edges.specs.OneMapLaws.{if_ok}
pub use Rattle.rc_edges.specs.RowsLaws.{counts, get-current, get-written, head_below, present_is, tail_sorted, total, written_again}
pub use Rattle.rc_edges.specs.Values.{Values, values_cmp, values_eq}
pub use Rattle.rc_edges.specs.ValuesLaws.{values_order}
pub use Rattle.rc_fragment.specs.Container.{Form, form_in, kept_in, now_in, takes, takes_one}
pub use Rattle.rc_fragment.specs.Cow.{had_in}
pub use Rattle.rc_fragment.specs.Fragment.{AreAllRows, AreAlone, AreNoted, AreRowsOf, AreTombstonesNoted, AreWhole, HasAlone, HasColumns, HasNoRowOf, HasRowOf, HasScanned, HasShape, HasSingle, IsFoundAt, IsFragment, IsLookedUp, IsLookedUpBy, IsNoted, IsScan, IsSweptBy, IsThere, IsThereWith, NoneIsEmptied, edge_row, edge_table, is_below, key_and_extra, seen_parts, shape_of}
pub use Rattle.rc_fragment.specs.FragmentLaws.{parted_edge, table_of_spec}
pub use Rattle.rc_fragment.specs.FragmentRows.{FragmentRows, changed, without_promise}
pub use Rattle.rc_fragment.specs.Holder.{HasNoRowAt}
pub use Rattle.rc_fragment.specs.HoldingLaws.{none_partly}
pub use Rattle.rc_fragment.specs.Implied.{Implied, lowered_all, raised_all, with_all, with_implied}
pub use Rattle.rc_fragment.specs.ImpliedReads.{AreSources, HasListed, HasSource, HasSourceRows}
pub use Rattle.rc_fragment.specs.ImpliedReadsLaws.{HaveSameRows, full_fit, implied_all, implied_found, implied_lookup, implied_no_scan, implied_none, implied_rows_at, implied_scan, kept_same, same_all, same_found, same_lookup, same_scan, same_scanned}
pub use Rattle.rc_fragment.specs.ImpliedTables.{IsLowerOf, IsTable, full_rows, implied_in, is_kept, is_kept_of_class}
pub use Rattle.rc_fragment.specs.Listing.{AreEmpty, AreStored, IsFiled, IsStored, found_by, found_of, listing, row_at, row_found, rows_from, rows_of_edge, rows_of_source, rows_with, shapes, source_rows}
pub use Rattle.rc_fragment.specs.Notes.{HasRowValues, IsEmptiedAt, IsNewPlace, IsRowAt, IsSetPlace, IsWithin, Place, PlaceBecomes, change_of, changes_of, is_swept, kept_at_place, key_of, noted_extra, now_at_place, place_of, row_noted, set_back, source_of, taken_rows, undone}
pub use Rattle.rc_fragment.specs.RowValues.{HasValues, HaveWidth, IsParted, extra_columns, row_from, values_at}
pub use Rattle.rc_fragment.specs.RowValuesLaws.{extra_set, extra_within, length_values, row_from_values, same_key, same_source, values_of_row, zip_from_values, zip_pairs}
pub use Rattle.rc_fragment.specs.SourceTable.{IsSet, containers_of, width_for, width_of}
pub use Rattle.rc_fragment.specs.Sources.{AreOfShape, AreOfWidth, AreSame, AreSeenAlike, Becomes, HasPushed, HasRowAt, HaveForm, IsClean, IsEmptied, IsNewAt, IsSetAt, IsSingle, IsStoredRow, SeenContainer, Sources, form_of, found_at, found_in, is_shown, kept_at, listed_in, now_at, seen_container, shown_sources, sources_of}
pub use Rattle.rc_fragment.specs.Tuples.{CanAddRow, CanAddTuple, IsFirstKept, IsNewRow, IsNewRowIn, IsPartlyAdded, IsRowOf, changes_of_class, full_fragment}
pub use Rattle.rc_fragment.specs.TuplesLaws.{before_first, before_next, before_other, can_before, changed_before, lowered_last, lowered_tuple, partly_added, raised_last, raised_tuple, room_before, rows_before, there_before}
pub use Rattle.rc_fragment.specs.declared.container.Container.{Container}
pub use Rattle.rc_fragment.specs.declared.edge_rows.EdgeRows.{EdgeRows}
pub use Rattle.rc_fragment.specs.declared.note.Note.{Note}
pub use Rattle.rc_fragment.specs.declared.note.NotedRow.{NotedRow}
pub use Rattle.rc_fragment.specs.declared.note.Sweep.{Sweep}
pub use Rattle.rc_fragment.specs.declared.note.Sweep.TheVariants.{Committed, RolledBack}
pub use Rattle.rc_fragment.specs.declared.shape.EdgeShape.{EdgeShape}
pub use Rattle.rc_fragment.specs.declared.source_table.SourceTable.{SourceTable}
pub use Rattle.rc_fragment.specs.declared.source_table.SourceTable.TheVariants.{Root}
pub use Rattle.rc_fragment.specs.declared.stored.Parts.{Parts}
pub use Rattle.rc_maps.specs.HashTable.{entries_of, has_one_column}
pub use Rattle.rc_maps.specs.Keyed.{AreApart, IsKeyed, by_one, pair_of}
pub use Rattle.rc_maps.specs.PushLaws.{on_err}
pub use Rattle.rc_maps.specs.TableLaws.{written_twice}
pub use Rattle.rc_maps.specs.WalkLaws.{IsSorted, IsSorted-by, apart_rising, is_before}
pub use Rattle.rc_maps.specs.declared.hash_table.HashTable.{HashTable}
pub use Rattle.rc_maps.specs.declared.hash_table.HashTable.TheVariants.{Many, One}
pub use Rattle.rc_maps.specs.declared.keyed.Keyed.{Keyed}
pub use Rattle.rc_spec.specs.CountedRows.{count_at, is_row_at, lowered, raised, with_count}
pub use Rattle.rc_spec.specs.CountedRowsLaws.{AreCountedRows, AreCountedRows-with_count, count-with_count, count_none, in_count, in_with_count, same_counts}
pub use Rattle.rc_spec.specs.Fragments.{EdgeRow, edge_row_cmp}
pub use Rattle.rc_spec.specs.FragmentsLaws.{edge_row_order}
pub use Rattle.rc_spec.specs.declared.items.EdgeKind.{EdgeKind}
pub use Rattle.rc_spec.specs.declared.spec.Spec.{Spec}
pub use Rattle.rc_tuple.specs.ColSet.{IsColSet, Within, has, rank, union}
pub use Rattle.rc_tuple.specs.ColSetLaws.{in_minus, in_union, minus_in, rank_all, rank_more, slice_get-rank, union_left, union_right}
pub use Rattle.rc_tuple.specs.MergeLaws.{value-project}
pub use Rattle.rc_tuple.specs.RisingSet.{In, IsRising}
pub use Rattle.rc_tuple.specs.RisingSetLaws.{append_in_left, append_in_right, filter_in, flat_map_in, gather_in, get_or_in, has_in, in_append, in_filter, in_flat_map, in_gather, in_has, in_map, in_slice_get, map_in, rising_filter, rising_gather, same_bool, slice_get_in, slice_get_there}
pub use Rattle.rc_tuple.specs.Tuple.{IsTuple, Pairs, cols_of, get, project, tuple_eq, value}
pub use Rattle.rc_tuple.specs.TupleLaws.{project-project, same_from_test, test_from_same}
pub use Rattle.std.proofs.Common.{Global, Vec, [], arith, inl, inr, refl, subst, sym}
pub use Rattle.std.proofs.Math.Nat.{div-mul-le_self, min-le_left, min-le_right}
pub use Rattle.std.proofs.Math.Seq.{drop-append_seam, take-append_seam, take-suc}
pub use Rattle.std.proofs.lemmas.Bool.{and_from, and_parts, eq-eqb, eqb-true, false≢true, lt-ltb, ltb-false, ltb-true, ne_eqb}
pub use Rattle.std.proofs.lemmas.Bool.Decides.{nat_tests}
pub use Rattle.std.proofs.lemmas.Iterator.{YieldsList-from_range, serves_from_Range}
pub use Rattle.std.proofs.lemmas.Iterator.Adapters.{option_map_id}
pub use Rattle.std.proofs.lemmas.Iterator.Search.{find_from_yields_List}
pub use Rattle.std.proofs.lemmas.List.{append-nil, append_assoc, drop-append-le, drop_all, drop_more, length-append, length-drop, length-map, map-append, nil_from_length, take-append-le, take_all, take_more}
pub use Rattle.std.proofs.lemmas.List.Edits.{insert-append_left, insert-append_right, insert_end}
pub use Rattle.std.proofs.lemmas.List.Elements.{filter-append}
pub use Rattle.std.proofs.lemmas.List.FromFn.{map-range_with_len_more}
pub use Rattle.std.proofs.lemmas.List.Sorted.{answers_always, ranks_by}
pub use Rattle.std.proofs.lemmas.Map.Keys.{IsDistinct-head, IsDistinct-tail}
pub use Rattle.std.proofs.lemmas.Option.{IfSome_then, none-some, slice_get-get_or, slice_get_within}
pub use Rattle.std.specs.FinMap.{FinMap, entries_sorted, find, get-empty, get-entries, get-from_entries, is_sorted, len-entries}
pub use Rattle.std.specs.FinMap.Entries.{below_all}
pub use Rattle.std.specs.List.{AllByRecursion, flat_map, insert, range_with_len, slice_get, zip}
pub use Rattle.std.specs.Map.{keys_of}
pub use Rattle.std.specs.Option.{OnSome, option_and_then, option_map, option_map_or}
pub use Rattle.std.specs.Ordering.{is_eq, is_lt, nat_cmp, ordering_reverse}
pub use Rattle.std.specs.Prelude.{Err, IfOk, IsSome, List, Ok, OnErr, OnOk, Result, false, length, map, not, option_copied, slice_set, suc, true}
pub use Rattle.std.specs.Slice.Iter.{chunks_exact_rest, chunks_exact_size}
pub use Rattle.std.specs.Vec.{vec_capacity, vec_len}
pub use Rattle.std.specs.declared.cmp.Ordering.{Ordering}
pub use Rattle.std.specs.declared.cmp.Ordering.TheVariants.{Equal, Greater, Less}
