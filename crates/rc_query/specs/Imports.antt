-- The names that files of specs/ take from the crates below and from std, passed on from one place.
pub use Rattle.rc_plan.specs.Compiled.{IsPlanOf}
pub use Rattle.rc_plan.specs.Evaluation.{dep_at, no_dep}
pub use Rattle.rc_plan.specs.PlanRules.{AreKnown, Covers, HasLockMode, HasProbed, IsComplete, IsFindable, IsKeyBound, IsKnown, IsLocked, KeepsFrom, KeepsK1, KeepsK2, KeepsK3, KeepsK4, KeepsK5, KeepsK6, KeepsK7, KeepsPlanRules, MayRead, Phase, Progress, after, at_start, pattern_columns}
pub use Rattle.rc_plan.specs.StripeLocksLaws.{striping_in_target}
pub use Rattle.rc_plan.specs.declared.statement.ReadMode.{ReadMode}
pub use Rattle.rc_plan.specs.declared.statement.ReadMode.TheVariants.{Lookup, Scan}
pub use Rattle.rc_plan.specs.declared.statement.Statement.{Statement}
pub use Rattle.rc_plan.specs.declared.statement.Statement.TheVariants.{Apply, CheckAbsent, CheckDep, CheckFound, Commit, Emit, Lock, Probe, Read, Release}
pub use Rattle.rc_plan.specs.declared.statement.Which.{Which}
pub use Rattle.rc_route.specs.GoodRoutes.{IsGoodFrom, IsGoodRoute, IsStep, all_edges}
pub use Rattle.rc_route.specs.GoodRoutesLaws.{good_known}
pub use Rattle.rc_route.specs.LeastPathLaws.{chosen_routes_are_good, has_chosen_route, one_chosen_route}
pub use Rattle.rc_route.specs.Paths.{IsChosenRoute}
pub use Rattle.rc_spec.specs.Acceptance.{IsSealed}
pub use Rattle.rc_spec.specs.Adequacy.{IsAdequate}
pub use Rattle.rc_spec.specs.Calls.{GivesTuple, all_columns}
pub use Rattle.rc_spec.specs.ContentsLaws.{target_within}
pub use Rattle.rc_spec.specs.Decomposition.{edge_at, target_columns}
pub use Rattle.rc_spec.specs.InRange.{AreBelow, HasOutsAmong, IsDepAmong, IsInRange, IsOpAmong, IsSetBelow}
pub use Rattle.rc_spec.specs.Placement.{IsPlaced, KeepsO, class_at, class_of, no_op, op_at}
pub use Rattle.rc_spec.specs.PlacementLaws.{class_of_known}
pub use Rattle.rc_spec.specs.Ranges.{range_columns}
pub use Rattle.rc_spec.specs.declared.items.Op.{Op}
pub use Rattle.rc_spec.specs.declared.items.OpKind.{OpKind}
pub use Rattle.rc_spec.specs.declared.items.OpKind.TheVariants.{Insert, Query, Remove, Update}
pub use Rattle.rc_spec.specs.declared.lock.Mode.{Mode}
pub use Rattle.rc_spec.specs.declared.lock.Mode.TheVariants.{Exclusive, Shared}
pub use Rattle.rc_spec.specs.declared.spec.Spec.{Spec}
pub use Rattle.rc_tuple.specs.ColSet.{Within, has, inter, is_within, minus, union}
pub use Rattle.rc_tuple.specs.ColSetLaws.{has-range, in_range_below, in_range_bounds, in_union, rising_range, union_left, union_right, union_within, within_from_test}
pub use Rattle.rc_tuple.specs.RelationLaws.{list_any_in}
pub use Rattle.rc_tuple.specs.RisingSet.{AreDistinct, In, IsRising, gather, put}
pub use Rattle.rc_tuple.specs.RisingSetLaws.{append_in_left, append_in_right, filter_in, gather_in, gather_more, get_or_in, has_in, in_append, in_filter, in_gather, in_has, in_map, map_in, nat_order, not_below_itself, rising_filter, rising_gather}
pub use Rattle.std.specs.List.{flat_map, list_any, range_with_len, slice_get}
pub use Rattle.std.specs.Ordering.{nat_cmp}
pub use Rattle.std.specs.Prelude.{length}
pub use Rattle.std.specs.declared.cmp.Ordering.TheVariants.{Less}
