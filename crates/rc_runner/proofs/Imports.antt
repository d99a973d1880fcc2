-- The names that files of proofs/ take from the crates below, from std and from specs/, passed on from one place.
pub use Rattle.rc_row.specs.Passes.{PassSeen, core_of, spec_of}
pub use Rattle.rc_runner.specs.CallersLaws.{both_made, none_made, round_taken}
pub use Rattle.rc_runner.specs.RoundLaws.{growth_starts}
pub use Rattle.rc_runner.specs.Rounds.{HasCalled, HasGrown, HasHeardAll, HaveMade, MadeTurns}
pub use Rattle.rc_runner.specs.Running.{number_of, numbers_of, stand_of, stands_of}
pub use Rattle.rc_runner.specs.RunningLaws.{all_of_them, few_turns, group_called_so, idle_at_end, may_make_round, may_make_share, may_one, new_are_free, new_count, new_have_none, new_numbers, run_at_end, shares_fit}
pub use Rattle.rc_runner.specs.Shares.{AreShared, TurnFits, share_of, turns_in}
pub use Rattle.rc_runner.specs.SharesLaws.{lent_fits, share_found, share_past, shared_more, turn_taken, turns_in-more}
pub use Rattle.rc_runner.specs.TellingLaws.{heard_more, set_same, told_all, told_more}
pub use Rattle.rc_spec.specs.declared.call.Call.{Call}
pub use Rattle.rc_store.specs.Store.{IsFree}
pub use Rattle.std.proofs.Common.{All, List, subst, sym, ℕ}
pub use Rattle.std.proofs.lemmas.List.{set-get_or}
pub use Rattle.std.proofs.lemmas.List.Elements.{All-set}
pub use Rattle.std.specs.List.{range_with_len}
pub use Rattle.std.specs.Prelude.{OnOk, Result}
