-- The names that files of proofs/ take from the crates below, from std and from specs/, passed on from one place.
pub use Rattle.rc_rel.specs.History.{AllFit, StepsFit, after_steps, steps_of}
pub use Rattle.rc_rel.specs.HistoryLaws.{after_entry}
pub use Rattle.rc_rel.specs.KnownDeps.{IsKnownToSatisfy}
pub use Rattle.rc_rel.specs.Match.{IsFirst, IsFirstAgreeing, IsFirstMatch}
pub use Rattle.rc_rel.specs.Over.{AreOver}
pub use Rattle.rc_rel.specs.declared.entry.Entry.{Entry}
pub use Rattle.rc_rel.specs.declared.entry.Step.{Step}
pub use Rattle.rc_spec.specs.Calls.{FitsAt, GivesTuple, all_columns}
pub use Rattle.rc_spec.specs.CallsLaws.{tuple_columns}
pub use Rattle.rc_spec.specs.InRange.{AreBelow, IsInRange}
pub use Rattle.rc_spec.specs.Placement.{no_op}
pub use Rattle.rc_spec.specs.Plain.{Outcome, first_broken_dependency, plain, plain_by, removed_first, row_cmp, rows_of, updated_first, updated_unless}
pub use Rattle.rc_spec.specs.PlainLaws.{each_after, in_after_remove, insert-absent, insert-present, plain-known, rising_after, satisfies_from_none}
pub use Rattle.rc_spec.specs.Ranges.{is_asked}
pub use Rattle.rc_spec.specs.declared.call.Call.{Call}
pub use Rattle.rc_spec.specs.declared.call.Reply.{Reply}
pub use Rattle.rc_spec.specs.declared.call.Reply.TheVariants.{Inserted, Removed}
pub use Rattle.rc_spec.specs.declared.items.Op.{Op}
pub use Rattle.rc_spec.specs.declared.items.OpKind.TheVariants.{Remove}
pub use Rattle.rc_spec.specs.declared.spec.Spec.{Spec}
pub use Rattle.rc_tuple.specs.ColSet.{has}
pub use Rattle.rc_tuple.specs.ColSetLaws.{has-gather}
pub use Rattle.rc_tuple.specs.Relation.{Satisfies, breaks, breaks_with}
pub use Rattle.rc_tuple.specs.RelationLaws.{agree_on-same, breaks-put, satisfies_fewer, test_from_satisfies}
pub use Rattle.rc_tuple.specs.RisingSet.{In, IsRising, gather, put}
pub use Rattle.rc_tuple.specs.RisingSetLaws.{each_in, gather_more, get_or_in, in_each, in_filter, not_below_itself, number_lists_order, put_old, rising_filter, rising_put, slice_get_in}
pub use Rattle.rc_tuple.specs.Tuple.{Pairs, agree_on, cols_of, matches, pick, tuple_cmp, tuple_eq}
pub use Rattle.rc_tuple.specs.TupleLaws.{same_from_test, test_from_same, tuple_order}
pub use Rattle.rc_tuple.specs.declared.dep.Dep.{Dep}
pub use Rattle.rc_tuple.specs.declared.memory.Memory.{Memory}
pub use Rattle.std.proofs.Common.{List, [], ap, rules, subst, sym, tests}
pub use Rattle.std.proofs.lemmas.Bool.{cond-false, cond-true, cond_both, ltb-false, ltb-true, not-false}
pub use Rattle.std.proofs.lemmas.Iterator.{YieldsList-from_slice}
pub use Rattle.std.proofs.lemmas.Iterator.Adapters.{serves_from_places}
pub use Rattle.std.proofs.lemmas.Iterator.Search.{position_from_yields_List}
pub use Rattle.std.proofs.lemmas.List.{append-nil, drop_all, drop_more, get_or_default, map-append}
pub use Rattle.std.proofs.lemmas.List.Elements.{filter_more}
pub use Rattle.std.proofs.lemmas.List.Sums.{prefix_len_stops}
pub use Rattle.std.proofs.lemmas.Option.{get_or_from_slice_get}
pub use Rattle.std.specs.List.{filter, list_any, position_or_len}
pub use Rattle.std.specs.Ordering.{nat_cmp}
pub use Rattle.std.specs.Prelude.{remove}
pub use Rattle.std.specs.Result.{IfOk, OnErr}
pub use Rattle.std.specs.declared.cmp.Ordering.TheVariants.{Less}
