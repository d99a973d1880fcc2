-- The names that files of specs/ take from the crates below and from std, passed on from one place.
pub use Rattle.rc_core.specs.ListLaws.{get_set_other, get_set_same}
pub use Rattle.rc_core.specs.Passes.{next_of}
pub use Rattle.rc_core.specs.declared.state.PassState.{PassState}
pub use Rattle.rc_plan.specs.Compiled.{SpecWithPlans}
pub use Rattle.rc_rel.specs.History.{IsLegal, IsNumbered, own, own_placed, placed, placed_from, with_replies}
pub use Rattle.rc_rel.specs.HistoryLaws.{calls-with_replies}
pub use Rattle.rc_rel.specs.OwnLaws.{placed_from-append, placed_own, stands_from}
pub use Rattle.rc_rel.specs.declared.entry.Entry.{Entry}
pub use Rattle.rc_rel.specs.declared.entry.Placed.{Placed}
pub use Rattle.rc_rel.specs.declared.entry.Step.{Step}
pub use Rattle.rc_row.specs.Passes.{AreIdlePasses, IsPassOf, PassSeen, RowSeen, core_of, new_pass, new_passes, spec_of}
pub use Rattle.rc_row.specs.declared.keeping.Keeping.TheVariants.{Entries}
pub use Rattle.rc_spec.specs.Calls.{Fits}
pub use Rattle.rc_spec.specs.declared.call.Call.{Call}
pub use Rattle.rc_spec.specs.declared.call.Reply.{Reply}
pub use Rattle.rc_spec.specs.declared.spec.Spec.{Spec}
pub use Rattle.rc_store.specs.Closed.{ClosedSeen, HasClosed, Leaves, where_kept}
pub use Rattle.rc_store.specs.Store.{HasMade, HasMadeEntry, HasMadeGroup, IsFree, StoreSeen}
pub use Rattle.rc_store.specs.declared.receipt.GroupReceipt.{GroupReceipt}
pub use Rattle.rc_store.specs.declared.receipt.Receipt.{Receipt}
pub use Rattle.rc_tuple.specs.RisingSet.{In}
pub use Rattle.rc_tuple.specs.RisingSetLaws.{append_in_left, append_in_right, get_or_in, in_contains}
pub use Rattle.rc_work.specs.Fitting.{HasThreads, TurnsFit}
pub use Rattle.rc_work.specs.Limits.{HasTurnSize, count_calls}
pub use Rattle.rc_work.specs.Runs.{MakesRound, MakesRounds, Runs, thread_turns, turns_of}
pub use Rattle.rc_work.specs.RunsLaws.{turns_of-append}
pub use Rattle.rc_work.specs.declared.work.Turn.{Turn}
pub use Rattle.rc_work.specs.declared.work.Work.{Work}
pub use Rattle.std.specs.Borrow.{Bor}
pub use Rattle.std.specs.List.{AllByRecursion, AllZip, range_with_len, slice_get}
pub use Rattle.std.specs.Prelude.{Err, IfOk, Ok, OnOk, Result}
