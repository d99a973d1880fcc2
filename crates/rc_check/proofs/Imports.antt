-- The names that files of proofs/ take from the crates below, from std and from specs/, passed on from one place.
pub use Rattle.rc_check.specs.Sets.{above, keyed_classes, places_of_deps, sets_of, whole_classes}
pub use Rattle.rc_check.specs.SetsLaws.{above_below, below_above, in_gathered, in_keyed_classes, in_places_of_deps, in_whole_classes}
pub use Rattle.rc_check.specs.declared.progress.ProgressSets.{ProgressSets}
pub use Rattle.rc_fd.specs.FollowsLaws.{lossless_at}
pub use Rattle.rc_plan.specs.Evaluation.{dep_at, no_dep}
pub use Rattle.rc_plan.specs.PlanRules.{AreKnown, Covers, CoversOld, FindsTuples, IsAtRisk, IsComplete, IsFindable, IsFirstBrokenPlanRule, IsKeptInPlan, IsKeyBound, IsKnown, IsLocked, KeepsK2, KeepsK6, KeepsK7, KeepsPlanRules, KeepsThere, OutputsAreVisited, Progress, StatementKeeps, TellsOld, after, at_start, check_at, checks_at, pattern_columns, plan_checks, plan_rules, progress_at}
pub use Rattle.rc_plan.specs.PlanRulesLaws.{progress_more, refused_law, rules_from_checks}
pub use Rattle.rc_plan.specs.declared.refusal.PlanRefusal.{PlanRefusal}
pub use Rattle.rc_plan.specs.declared.refusal.PlanRule.{PlanRule}
pub use Rattle.rc_plan.specs.declared.refusal.PlanRule.TheVariants.{K1}
pub use Rattle.rc_plan.specs.declared.statement.ReadMode.{ReadMode}
pub use Rattle.rc_plan.specs.declared.statement.ReadMode.TheVariants.{Lookup}
pub use Rattle.rc_plan.specs.declared.statement.Statement.{Statement}
pub use Rattle.rc_plan.specs.declared.statement.Statement.TheVariants.{CheckDep, Lock}
pub use Rattle.rc_plan.specs.declared.statement.Which.{Which}
pub use Rattle.rc_spec.specs.Calls.{GivesTuple, all_columns, value_columns}
pub use Rattle.rc_spec.specs.Decomposition.{bound}
pub use Rattle.rc_spec.specs.DecompositionLaws.{at_found, op_among}
pub use Rattle.rc_spec.specs.First.{EachHolds, IsFirstFailing, Judges}
pub use Rattle.rc_spec.specs.FirstLaws.{each_listed, each_more, first_at, first_left, first_listed, judged_append, judged_err, judged_one}
pub use Rattle.rc_spec.specs.InRange.{AreBelow, HasOutsAmong, IsEdgeAmong, IsOpAmong}
pub use Rattle.rc_spec.specs.Placement.{class_at, class_of, op_at}
pub use Rattle.rc_spec.specs.Ranges.{range_columns}
pub use Rattle.rc_spec.specs.declared.items.Edge.{Edge}
pub use Rattle.rc_spec.specs.declared.items.Op.{Op}
pub use Rattle.rc_spec.specs.declared.items.OpKind.{OpKind}
pub use Rattle.rc_spec.specs.declared.items.OpKind.TheVariants.{Insert, Query, Remove, Update}
pub use Rattle.rc_spec.specs.declared.lock.Mode.{Mode}
pub use Rattle.rc_spec.specs.declared.spec.Spec.{Spec}
pub use Rattle.rc_tuple.specs.ColSet.{Within, has, is_within}
pub use Rattle.rc_tuple.specs.ColSetLaws.{rising_range, test_from_within, within_from_test}
pub use Rattle.rc_tuple.specs.RisingSet.{In, gather}
pub use Rattle.rc_tuple.specs.RisingSetLaws.{gather-rising, has_in, in_has, in_map, map_in, nat_order, slice_get_in}
pub use Rattle.rc_tuple.specs.declared.dep.Dep.{Dep}
pub use Rattle.std.proofs.Common.{ap, map, take}
pub use Rattle.std.proofs.lemmas.Bool.{false≢true, le-leb, leb-true}
pub use Rattle.std.proofs.lemmas.Option.{slice_get_past, slice_get_read}
pub use Rattle.std.proofs.lemmas.Result.{err_from_is_err_and}
pub use Rattle.std.specs.List.{flat_map, range_with_len, slice_get}
pub use Rattle.std.specs.Ordering.{nat_cmp}
pub use Rattle.std.specs.Prelude.{IfSome}
pub use Rattle.std.specs.Result.{IfErr, IsOk}
