-- The names that files of specs/ take from the crates below and from std, passed on from one place.
pub use Rattle.rc_plan.specs.Compiled.{IsCompiled, SpecWithPlans, plan_at}
pub use Rattle.rc_plan.specs.CompiledLaws.{compiled_in_turn_law}
pub use Rattle.rc_plan.specs.Evaluation.{eval}
pub use Rattle.rc_plan.specs.Laws.{AllServe}
pub use Rattle.rc_plan.specs.NamedStripes.{LocksClass}
pub use Rattle.rc_plan.specs.StripeLocks.{IsOfClass, band, stripes_of}
pub use Rattle.rc_plan.specs.Turns.{AllAreHeld, CallWithPlan, eval_replies, plain_replies, relation_after, rows_after, with_plans}
pub use Rattle.rc_plan.specs.declared.statement.Statement.{Statement}
pub use Rattle.rc_plan.specs.declared.statement.Statement.TheVariants.{Apply, CheckAbsent, CheckDep, CheckFound, Commit, Emit, Lock, Probe, Read, Release}
pub use Rattle.rc_plan.specs.declared.statement.Which.{Which}
pub use Rattle.rc_rel.specs.Further.{Extends}
pub use Rattle.rc_rel.specs.FurtherLaws.{histories_stay}
pub use Rattle.rc_rel.specs.History.{AllFit, AreLegalFrom, IsLegal, IsNumbered, IsPrefix, StepsFit, after_steps, own, own_placed, placed, replay, states, steps_of}
pub use Rattle.rc_rel.specs.HistoryLaws.{AllFit-more, AreLegalFrom-append, after_steps-append, replay_in_states, states_are_relations, states_satisfy, steps_of-append}
pub use Rattle.rc_rel.specs.OwnLaws.{none_own, numbered_more, own_end_mine, own_end_other, own_length, own_stands, placed_own, replay_few, same_places, stands_in_other}
pub use Rattle.rc_rel.specs.PlaceLaws.{prefix_again, prefix_same}
pub use Rattle.rc_rel.specs.declared.entry.Entry.{Entry}
pub use Rattle.rc_rel.specs.declared.entry.Placed.{Placed}
pub use Rattle.rc_rel.specs.declared.entry.Step.{Step}
pub use Rattle.rc_spec.specs.Calls.{Fits, all_columns}
pub use Rattle.rc_spec.specs.Fragments.{EdgeRow, edge_row_cmp, fragment_of, on_stripes, rows_on}
pub use Rattle.rc_spec.specs.FragmentsLaws.{empty_law, parts_law, pieces_law}
pub use Rattle.rc_spec.specs.Locks.{StripeLock}
pub use Rattle.rc_spec.specs.Plain.{plain}
pub use Rattle.rc_spec.specs.Stripes.{stripe_total}
pub use Rattle.rc_spec.specs.declared.call.Reply.{Reply}
pub use Rattle.rc_spec.specs.declared.lock.Mode.{Mode}
pub use Rattle.rc_spec.specs.declared.lock.Mode.TheVariants.{Exclusive, Shared}
pub use Rattle.rc_spec.specs.declared.spec.Spec.{Spec}
pub use Rattle.rc_tuple.specs.ColSet.{has}
pub use Rattle.rc_tuple.specs.ColSetLaws.{has-filter}
pub use Rattle.rc_tuple.specs.Relation.{IsRelation, Satisfies}
pub use Rattle.rc_tuple.specs.RisingSet.{In, IsRising, gather, put}
pub use Rattle.rc_tuple.specs.RisingSetLaws.{append_in_left, append_in_right, filter_in, has_in, in_append, in_filter, in_has, in_map, in_put, map_in, nat_order, put_new, put_old, rising_filter, rising_put, same_bool, same_rising, slice_get_in}
pub use Rattle.rc_tuple.specs.Tuple.{Pairs}
pub use Rattle.std.specs.List.{AllByRecursion, flat_map, list_all, list_any, range_with_len, slice_get}
pub use Rattle.std.specs.Ordering.{match_ordering, nat_cmp}
pub use Rattle.std.specs.Prelude.{replicate}
pub use Rattle.std.specs.declared.cmp.Ordering.{Ordering}
pub use Rattle.std.specs.declared.cmp.Ordering.TheVariants.{Equal, Greater, Less}
