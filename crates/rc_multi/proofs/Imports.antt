-- The names that files of proofs/ take from the crates below, from std and from specs/, passed on from one place.
pub use Rattle.rc_core.specs.Passes.{IsOfClassLocked}
pub use Rattle.rc_fragment.specs.Fragment.{HasNoRowOf, HasRowOf}
pub use Rattle.rc_fragment.specs.Holder.{HasTaken, HeldStripe, Holding, MayTake, held_of, with_room_at}
pub use Rattle.rc_fragment.specs.HoldingLaws.{IsChangedAt}
pub use Rattle.rc_fragment.specs.Implied.{lowered_all, raised_all}
pub use Rattle.rc_fragment.specs.ImpliedTables.{class_rows}
pub use Rattle.rc_fragment.specs.Tuples.{changes_of_class}
pub use Rattle.rc_machine.specs.Apply.{IsSameButLent}
pub use Rattle.rc_machine.specs.Machine.{locks_of}
pub use Rattle.rc_machine.specs.ReplyLaws.{answered_of, told_answer_err}
pub use Rattle.rc_multi.specs.ClassUse.{class_locks, class_use, either, group_use, in_mode, plan_use, with_chosen}
pub use Rattle.rc_multi.specs.Covering.{IsBandCovered, IsCovered}
pub use Rattle.rc_multi.specs.Group.{Covers}
pub use Rattle.rc_multi.specs.GroupLocks.{LocksClassOf, chooses, chosen_stripes, class_lock, group_mode, group_stripes, locks_class, may_be_any, takes_any, writes_class}
pub use Rattle.rc_multi.specs.GroupLocksLaws.{lock_is, stripes_in_mode}
pub use Rattle.rc_multi.specs.GroupRun.{IsGroupAt}
pub use Rattle.rc_multi.specs.GroupRunLaws.{first_at, next_at, now_at, suffice_still, taken_after}
pub use Rattle.rc_multi.specs.HeldStripes.{all_taken}
pub use Rattle.rc_multi.specs.Offered.{IsFromSo}
pub use Rattle.rc_multi.specs.OfferedLaws.{changed_lend, changed_offer, either_changed, first_offered, from_start, held_end, is_held, lent_again, may_lend, may_offer, may_take, none_risen, pushed, ran_taking}
pub use Rattle.rc_multi.specs.Offering.{offering}
pub use Rattle.rc_multi.specs.OfferingLaws.{exclusive_there, has_run_over, held_there, lent_there, lower_there, raise_new_there, raise_there, room_offered, room_there, told_change, told_partly, told_room, told_rows}
pub use Rattle.rc_multi.specs.declared.class_lock.ClassLock.{ClassLock}
pub use Rattle.rc_multi.specs.declared.class_lock.ClassUse.{ClassUse}
pub use Rattle.rc_plan.specs.Compiled.{SpecWithPlans, plan_at}
pub use Rattle.rc_plan.specs.StripeLocks.{IsOfClass, band, stripes_of}
pub use Rattle.rc_plan.specs.StripeLocksLaws.{IsOfClass-physical_stripe, band_of_class}
pub use Rattle.rc_plan.specs.Turns.{CallWithPlan, with_plan, with_plans}
pub use Rattle.rc_plan.specs.declared.statement.Statement.{Statement}
pub use Rattle.rc_plan.specs.declared.statement.Statement.TheVariants.{Lock}
pub use Rattle.rc_plan.specs.declared.statement.Which.{Which}
pub use Rattle.rc_spec.specs.Calls.{Fits}
pub use Rattle.rc_spec.specs.Locks.{StripeLock, Suffices}
pub use Rattle.rc_spec.specs.Placement.{IsPlaced, class_at}
pub use Rattle.rc_spec.specs.Stripes.{band_start, physical_stripe}
pub use Rattle.rc_spec.specs.declared.call.Call.{Call}
pub use Rattle.rc_spec.specs.declared.lock.Mode.{Mode}
pub use Rattle.rc_spec.specs.declared.lock.Mode.TheVariants.{Exclusive, Shared}
pub use Rattle.rc_spec.specs.declared.spec.Spec.{Spec}
pub use Rattle.rc_tuple.specs.ColSet.{Within, is_within}
pub use Rattle.rc_tuple.specs.ColSetLaws.{range_with_len_more, test_from_within, within_from_test}
pub use Rattle.rc_tuple.specs.RisingSet.{In, IsPlace, gather, put}
pub use Rattle.rc_tuple.specs.RisingSetLaws.{each_in, gather_more, get_or_in, in_each, in_from_places, nat_order, place_more}
pub use Rattle.rc_tuple.specs.Tuple.{Pairs, cols_of}
pub use Rattle.std.proofs.Common.{List, ap, refl, rules, subst, sym, tests, ℕ}
pub use Rattle.std.proofs.lemmas.Bool.{false≢true}
pub use Rattle.std.proofs.lemmas.Grind.{flat_map-append}
pub use Rattle.std.proofs.lemmas.Iterator.{YieldsList, YieldsList-from_range, YieldsList-from_slice, cases_from_all, cases_from_any}
pub use Rattle.std.proofs.lemmas.Iterator.Adapters.{serves_from_places}
pub use Rattle.std.proofs.lemmas.List.{append-nil, append_assoc, drop-map, drop_at, drop_more, get_or-map, get_or_default, length-append, length-map, length-take-le, map-append, take-append-drop, take-append-le, take-map, take_all, take_at, take_more, take_rest}
pub use Rattle.std.proofs.lemmas.List.Edits.{insert-append_right, map_over_more}
pub use Rattle.std.proofs.lemmas.List.Elements.{filter-append}
pub use Rattle.std.proofs.lemmas.List.Folds.{list_any_more}
pub use Rattle.std.proofs.lemmas.Result.{on_err_weaker, on_ok_weaker}
pub use Rattle.std.proofs.lemmas.Simd.{map-map}
pub use Rattle.std.proofs.lemmas.Slice.{take-put_mid}
pub use Rattle.std.specs.Bool.{IsTrue}
pub use Rattle.std.specs.Fn.{Called}
pub use Rattle.std.specs.Iterator.{YieldsThen}
pub use Rattle.std.specs.List.{AllWithin, FoldsTo, HoldsAt, flat_map, insert, list_any, range_with_len}
pub use Rattle.std.specs.Ordering.{match_ordering, nat_cmp}
pub use Rattle.std.specs.Prelude.{is_ok}
pub use Rattle.std.specs.declared.cmp.Ordering.{Ordering}
pub use Rattle.std.specs.declared.cmp.Ordering.TheVariants.{Equal, Greater, Less}
