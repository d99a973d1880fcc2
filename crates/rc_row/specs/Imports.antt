-- The names that files of specs/ take from the crates below and from std, passed on from one place.
pub use Rattle.atomic_table.specs.Seated.{TableId}
pub use Rattle.atomic_table.specs.Table.{Act, Me, State, Step, chain, gives, keeps, rest, takes, turned}
pub use Rattle.rc_core.specs.DetermineLaws.{passes_determine}
pub use Rattle.rc_core.specs.Events.{AreAllowed, CanLeave, IsAllowed, IsUnlocked, after, after_all}
pub use Rattle.rc_core.specs.Good.{IsGood, IsGoodHistory, IsOfHistory}
pub use Rattle.rc_core.specs.KeepsLaws.{at_below, good_home}
pub use Rattle.rc_core.specs.ListLaws.{get_set_other, get_set_same}
pub use Rattle.rc_core.specs.Passes.{IsHigh, back, blocked, committed, learned, locked, next_of, other_holds, released, rows_of_hold, shared, took}
pub use Rattle.rc_core.specs.Resumed.{MayGoOn, rested, resumed}
pub use Rattle.rc_core.specs.ResumedLaws.{events_add, resumed_good}
pub use Rattle.rc_core.specs.RunLaws.{events_keep, pass_there}
pub use Rattle.rc_core.specs.State.{fresh, has_writer, hold, home_rows, is_at, no_pass, pass_at, shares_of, stripe_at, stripes_in}
pub use Rattle.rc_core.specs.Waits.{IsCircleOfWaits}
pub use Rattle.rc_core.specs.WaitsLaws.{no_circle}
pub use Rattle.rc_core.specs.declared.event.Event.{Event}
pub use Rattle.rc_core.specs.declared.state.CoreState.{CoreState}
pub use Rattle.rc_core.specs.declared.state.Hold.{Hold}
pub use Rattle.rc_core.specs.declared.state.Keeper.{Keeper}
pub use Rattle.rc_core.specs.declared.state.Keeper.TheVariants.{Home, Writer}
pub use Rattle.rc_core.specs.declared.state.PassState.{PassState}
pub use Rattle.rc_core.specs.declared.state.StripeState.{StripeState}
pub use Rattle.rc_fragment.specs.Fragment.{HasColumns, HasNoRowOf, HasRowOf, edge_row, edge_table}
pub use Rattle.rc_fragment.specs.FragmentRows.{FragmentRows, rolled_back, settled}
pub use Rattle.rc_fragment.specs.Keep.{IsAtRest, KeptRows, at_rest}
pub use Rattle.rc_fragment.specs.Tuples.{ArePartlyAdded, CanAddTuple, HasTuple, IsFirstKept, changed_by, changes_of_class}
pub use Rattle.rc_journal.specs.HistoryWith.{history_with}
pub use Rattle.rc_journal.specs.PartEntries.{PartEntries}
pub use Rattle.rc_plan.specs.Compiled.{IsCompiled, SpecWithPlans}
pub use Rattle.rc_rel.specs.History.{IsPrefix, own_placed, placed, replay}
pub use Rattle.rc_rel.specs.OwnLaws.{same_places, stands_in_other}
pub use Rattle.rc_rel.specs.declared.entry.Entry.{Entry}
pub use Rattle.rc_rel.specs.declared.entry.Placed.{Placed}
pub use Rattle.rc_spec.specs.Calls.{all_columns}
pub use Rattle.rc_spec.specs.Fragments.{EdgeRow, fragment_of}
pub use Rattle.rc_spec.specs.Stripes.{stripe_total}
pub use Rattle.rc_spec.specs.declared.call.Call.{Call}
pub use Rattle.rc_spec.specs.declared.call.Reply.{Reply}
pub use Rattle.rc_spec.specs.declared.lock.Found.{Found}
pub use Rattle.rc_spec.specs.declared.lock.Found.TheVariants.{Latch, Pass, Readers}
pub use Rattle.rc_spec.specs.declared.lock.Mode.{Mode}
pub use Rattle.rc_spec.specs.declared.lock.Mode.TheVariants.{Exclusive, Shared}
pub use Rattle.rc_spec.specs.declared.spec.Spec.{Spec}
pub use Rattle.rc_tuple.specs.ColSet.{has}
pub use Rattle.rc_tuple.specs.Relation.{IsRelation, Satisfies}
pub use Rattle.rc_tuple.specs.RisingSet.{In, IsRising}
pub use Rattle.rc_tuple.specs.RisingSetLaws.{append_in_right, in_append, slice_get_in}
pub use Rattle.rc_tuple.specs.Tuple.{Pairs}
pub use Rattle.std.specs.Global.{Vec}
pub use Rattle.std.specs.List.{list_any, range_with_len, slice_get}
pub use Rattle.std.specs.Option.{option_map_or}
pub use Rattle.std.specs.Ordering.{nat_cmp}
pub use Rattle.std.specs.Prelude.{List, None, Option, Some, [], map, slice_index, ℕ}
