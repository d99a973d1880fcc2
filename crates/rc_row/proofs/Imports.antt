-- The names that files of proofs/ take from the crates below, from std and from specs/, passed on from one place.
pub use Rattle.atomic_table.proofs.Lists.{at_last, at_longer, at_map, at_set, set_again, set_else, set_here}
pub use Rattle.atomic_table.specs.Seated.{TableId}
pub use Rattle.atomic_table.specs.Table.{Act, Allows, Final, Joins, Me, Seen, Splits, State, Step, Valid, carried_after, chain, gives, homes_after, keeps, opening, rest, step, stepped, takes, turned}
pub use Rattle.rc_core.specs.AgreeLaws.{high_uncounted, sharing_counted, turning_counted}
pub use Rattle.rc_core.specs.CommitLaws.{commit_keeps}
pub use Rattle.rc_core.specs.Events.{IsAllowed, IsTaken, IsUnlocked, after, with_counted, with_keeper, with_pass, without_counted}
pub use Rattle.rc_core.specs.Good.{IsGood, IsGoodHistory, IsGoodKeeper, IsGoodPass, IsOfHistory}
pub use Rattle.rc_core.specs.KeepsLaws.{above_itself, at_below, good_home, lock_keeps, rows_of_it, share_takes, shares_held, writes_held}
pub use Rattle.rc_core.specs.ListLaws.{each_changed, get_set_other, get_set_same, has-held_end, has-held_more, has-held_without_other, has-held_without_same, in_stripes_in, length-all_but, length-put_new, less_held, not_has, or_false, other-end, rising_end, rows-end, stripes-other, stripes_have, stripes_in_have}
pub use Rattle.rc_core.specs.Passes.{IsAbove, IsHigh, MayCommit, back, blocked, committed, counted_in, learned, locked, next_of, other_holds, released, renewed, renewed_as, rows_of_hold, rows_then, shared, took}
pub use Rattle.rc_core.specs.Resumed.{MayGoOn, free_stripe, rested, resumed}
pub use Rattle.rc_core.specs.ResumedLaws.{made_there, resumed_good, stripe_of_range}
pub use Rattle.rc_core.specs.RunLaws.{of_history}
pub use Rattle.rc_core.specs.SizeLaws.{few_counted, few_tuples, history_law, length-rising}
pub use Rattle.rc_core.specs.State.{has_writer, held_in, hold, home_rows, is_at, is_mode, is_writer, no_pass, no_stripe, pass_at, shares_of, stripe_at, stripes_in, writes_of}
pub use Rattle.rc_core.specs.declared.event.Event.{Event}
pub use Rattle.rc_core.specs.declared.state.CoreState.{CoreState}
pub use Rattle.rc_core.specs.declared.state.Hold.{Hold}
pub use Rattle.rc_core.specs.declared.state.Keeper.{Keeper}
pub use Rattle.rc_core.specs.declared.state.Keeper.TheVariants.{Home, Writer}
pub use Rattle.rc_core.specs.declared.state.PassState.{PassState}
pub use Rattle.rc_core.specs.declared.state.StripeState.{StripeState}
pub use Rattle.rc_fragment.specs.Fragment.{edge_table}
pub use Rattle.rc_fragment.specs.FragmentRows.{FragmentRows, rolled_back, settled, with_promise}
pub use Rattle.rc_fragment.specs.Keep.{IsAtRest, KeptRows, at_rest, kept_rows}
pub use Rattle.rc_fragment.specs.Tuples.{ArePartlyAdded, changed_by, changes_of_class, with_tuple, without_tuple}
pub use Rattle.rc_journal.specs.HistoryWithLaws.{own_make_the_history}
pub use Rattle.rc_journal.specs.PartEntries.{PartEntries}
pub use Rattle.rc_plan.specs.Compiled.{ArePlansOf, IsCompiled, SpecWithPlans}
pub use Rattle.rc_rel.specs.History.{IsPrefix, own_placed, placed, replay, with_replies}
pub use Rattle.rc_rel.specs.HistoryLaws.{replay_in_states, states_are_relations, states_satisfy}
pub use Rattle.rc_rel.specs.PlaceLaws.{prefix_again, prefix_same}
pub use Rattle.rc_rel.specs.SharesLaws.{shares_add_up}
pub use Rattle.rc_rel.specs.declared.entry.Entry.{Entry}
pub use Rattle.rc_rel.specs.declared.entry.Placed.{Placed}
pub use Rattle.rc_row.specs.Ended.{AreEnded, HasHistory, IsEndedOf, IsEndedPass, IsLeftOf, no_entries, resumed_from}
pub use Rattle.rc_row.specs.HeldRows.{HeldRows, just_held}
pub use Rattle.rc_row.specs.HistoryMade.{made_by}
pub use Rattle.rc_row.specs.Law.{AreKnown, AreSeatedAt, AreTold, HasHanded, HasLatch, HasSeat, HaveHanded, HaveLatch, HomesAre, IsKept, IsOwn, IsOwnHome, IsTold, IsTrueView, OwnsAre, Slot, at_first_by, compiled_by, has_pass, history_by, home_of, kept_in, kept_of, latch_word, lodged, note_view, numbers_in, opener, own_place, pass_view, passes_view, slot_place, spec_by, standing_of, starts, stripe_word, stripes_by, view_of, word_of, writer_mark}
pub use Rattle.rc_row.specs.Own.{HasInFront, IsLockedWith, Slot?, give_owns, hand_out, hands_out, own_hands, pointer_in, take_owns, turned_times, value_at, value_of, with_owns, without_owns}
pub use Rattle.rc_row.specs.PassInside.{Agrees, AreOwnKept, IsWholePass, pass_seen}
pub use Rattle.rc_row.specs.Passes.{AreAtRest, ArePartlyAddedOn, CanAddNewTo, CanAddTo, CanSubFrom, HasAdded, HasNoRowIn, HasReserved, HasRowIn, HasWaited, IsMoreRoom, IsPassOf, KeepsAs, OfHeld, PassSeen, RowSeen, all_with, compiled_of, core_of, held_with, held_without, holds_now, holds_taken, new_pass, resumed_pass, spec_of, stripes_of, waited_so, with_commit, with_entry, with_fragment, with_held, with_standing, with_taken, without_stripe}
pub use Rattle.rc_row.specs.Released.{IsHeldSo}
pub use Rattle.rc_row.specs.Rooms.{AreFirstSlots, AreRooms, spaced}
pub use Rattle.rc_row.specs.RowInside.{IsWholeRow, row_seen}
pub use Rattle.rc_row.specs.Run.{CanStep, FreeLatch, MissLatch, OfCore, RowState, RowStep, TakeLatch, after_step, found_at, found_by, last_of, pass_of, pass_of_event, refusal_at, refusal_of, refusal_of_event, refusal_where, refusals_in, refused_reader, row_state}
pub use Rattle.rc_row.specs.RunLaws.{begins_with, can_go_on, goes_on, good_of, others_refusals, own_refusals, refusals_last, refusals_length, refusals_of, state_of}
pub use Rattle.rc_row.specs.Seats.{dealt, gathered, informed, noted, spent, undealt}
pub use Rattle.rc_row.specs.Slots.{kept_at}
pub use Rattle.rc_row.specs.Standings.{HaveOneRelation, IsAtHistory, KeepsOut, after_entry, after_learn, after_look, latched_out, refused, resumed_standing, told_of, turned_away, turned_by, wish_after, with_core, without_wish}
pub use Rattle.rc_row.specs.Told.{EntersOrTurns, HasCommitted, HasEntered, HasLatched, HasLeft, HasLocked, HasTurned, HasUnlatched, HasUnlocked, IsLatchedOut, IsLockedOut, LatchesOrNot, LocksOrNot, MayLeave, ToldAtBack, ToldAtCommit, ToldAtEnter, ToldAtLatch, ToldAtLeave, ToldAtLock, ToldAtLook, ToldAtUnlatch, ToldAtUnlock, found_in_latch, found_in_word, lacking, passes_in}
pub use Rattle.rc_row.specs.Turns.{IsHeldAt}
pub use Rattle.rc_row.specs.declared.close.EndedPass.{EndedPass}
pub use Rattle.rc_row.specs.declared.held.HeldFragment.{HeldFragment}
pub use Rattle.rc_row.specs.declared.keeping.Keeping.{Keeping}
pub use Rattle.rc_row.specs.declared.keeping.Keeping.TheVariants.{Counts, Entries}
pub use Rattle.rc_row.specs.declared.law.Key.{Key}
pub use Rattle.rc_row.specs.declared.law.Refusal.{Refusal}
pub use Rattle.rc_row.specs.declared.law.Standing.{Standing}
pub use Rattle.rc_row.specs.declared.law.View.{View}
pub use Rattle.rc_row.specs.declared.pass.Pass.TheInside.{Inside}
pub use Rattle.rc_row.specs.declared.slot.Slot.TheVariants.{Apart, Empty, Handed}
pub use Rattle.rc_spec.specs.Acceptance.{IsSealed}
pub use Rattle.rc_spec.specs.Fragments.{EdgeRow, fragment_of}
pub use Rattle.rc_spec.specs.FragmentsLaws.{empty_law}
pub use Rattle.rc_spec.specs.PlacementLaws.{placed_total}
pub use Rattle.rc_spec.specs.Stripes.{stripe_total}
pub use Rattle.rc_spec.specs.declared.lock.Found.{Found}
pub use Rattle.rc_spec.specs.declared.lock.Found.TheVariants.{Latch, Pass, Readers}
pub use Rattle.rc_spec.specs.declared.lock.Mode.{Mode}
pub use Rattle.rc_spec.specs.declared.lock.Mode.TheVariants.{Exclusive, Shared}
pub use Rattle.rc_spec.specs.declared.spec.Spec.{Spec}
pub use Rattle.rc_tuple.specs.ColSet.{has}
pub use Rattle.rc_tuple.specs.ColSetLaws.{in_range_below, in_range_bounds}
pub use Rattle.rc_tuple.specs.RelationLaws.{list_any_in}
pub use Rattle.rc_tuple.specs.RisingSet.{In, IsRising, put}
pub use Rattle.rc_tuple.specs.RisingSetLaws.{append_in_right, get_or_in, has_in, in_append, in_contains, in_put, map_in, nat_order, rising_filter, rising_put, slice_get_in}
pub use Rattle.rc_tuple.specs.Tuple.{Pairs}
pub use Rattle.std.proofs.Common.{Some, ap, drop, refl, subst, ℕ}
pub use Rattle.std.proofs.Math.Seq.{drop-cons, get_or-append_seam, set-append_seam}
pub use Rattle.std.proofs.lemmas.Bool.{cases_eq, eq-eqb, eqb-false, eqb-true, false≢true, ne_eqb, or_left, or_right}
pub use Rattle.std.proofs.lemmas.Cmp.{ranked}
pub use Rattle.std.proofs.lemmas.List.{append-nil, append_assoc, get_or-set_other, get_or-set_same, get_or_append_left, length-map, length-replicate, length-take-le, map-append, set-get_or, take-append-drop, take_more}
pub use Rattle.std.proofs.lemmas.List.Edits.{remove-append_right}
pub use Rattle.std.proofs.lemmas.List.Elements.{All-append, All-cons, All-contains, All-filter, All-get_or, All-map, All-nil, All-push, All-same, All-weaker, filter-append}
pub use Rattle.std.proofs.lemmas.List.Folds.{list_any-append}
pub use Rattle.std.proofs.lemmas.List.FromFn.{length-map-range_with_len, length-range_with_len}
pub use Rattle.std.proofs.lemmas.List.Sums.{sum_by-cons}
pub use Rattle.std.proofs.lemmas.Option.{get_or_from_slice_get, same_Some}
pub use Rattle.std.proofs.lemmas.Result.{on_err_weaker, on_ok_weaker}
pub use Rattle.std.specs.Cmp.{nat_cmp_is}
pub use Rattle.std.specs.Global.{Vec}
pub use Rattle.std.specs.List.{filter_map, flat_map, range_with_len, remove, slice_get, sum, sum_by}
pub use Rattle.std.specs.Ordering.{nat_cmp}
pub use Rattle.std.specs.Prelude.{All, Err, IfNone, IfSome, MatchBool, None, Ok, OnErr, OnOk, Option, Result, replicate, slice_index, slice_index_or, slice_set, vec_capacity, vec_len}
pub use Rattle.std.specs.Slots.{slots_filled, slots_items, slots_len}
pub use Rattle.std.specs.Slots.Ownership.{Filled}
pub use Rattle.std.specs.Vec.Iter.{into_iter_items, into_iter_len}
pub use Rattle.std.specs.declared.cmp.Ordering.TheVariants.{Less}
