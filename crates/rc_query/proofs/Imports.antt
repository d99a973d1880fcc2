-- The names that files of proofs/ take from the crates below, from std and from specs/, passed on from one place.
pub use Rattle.rc_plan.specs.Example.{add_edge, add_plan, drop_edge, drop_plan, graph}
pub use Rattle.rc_plan.specs.PlanRules.{pattern_columns}
pub use Rattle.rc_plan.specs.declared.statement.ReadMode.TheVariants.{Lookup, Scan}
pub use Rattle.rc_plan.specs.declared.statement.Statement.{Statement}
pub use Rattle.rc_plan.specs.declared.statement.Statement.TheVariants.{Apply, CheckAbsent, CheckDep, CheckFound, Commit, Emit, Lock, Probe, Read, Release}
pub use Rattle.rc_query.specs.Laws.{IsAcceptedFor}
pub use Rattle.rc_query.specs.OpLaws.{below_32, columns_known, gather_some, union_some}
pub use Rattle.rc_query.specs.Ops.{MayBePlanned}
pub use Rattle.rc_query.specs.Planned.{ChoosesRoutes, IsPlanned, Routing, asked_columns, classes_of_edges, due, ending, later, left_after, locks, locks_and_reads, plan_for, planned_by, query_plan, which_where}
pub use Rattle.rc_query.specs.PlannedLaws.{accepted_if_planned, chosen_routing, route_is_chosen, routing_chooses}
pub use Rattle.rc_query.specs.ProgressLaws.{classes_known}
pub use Rattle.rc_query.specs.StatementsLaws.{IsReadMade, class_below, classes_more, inter_due, left_more, locks_more, minus_later, reads_more, releases_more}
pub use Rattle.rc_route.specs.GoodRoutesLaws.{good_known}
pub use Rattle.rc_route.specs.Paths.{IsChosenRoute}
pub use Rattle.rc_spec.specs.Acceptance.{IsSealed}
pub use Rattle.rc_spec.specs.Calls.{all_columns}
pub use Rattle.rc_spec.specs.InRange.{AreBelow, HasOutsAmong}
pub use Rattle.rc_spec.specs.Placement.{class_of}
pub use Rattle.rc_spec.specs.Ranges.{range_columns}
pub use Rattle.rc_spec.specs.declared.items.Class.{Class}
pub use Rattle.rc_spec.specs.declared.items.ColKind.TheVariants.{Num}
pub use Rattle.rc_spec.specs.declared.items.Column.{Column}
pub use Rattle.rc_spec.specs.declared.items.Edge.{Edge}
pub use Rattle.rc_spec.specs.declared.items.EdgeKind.{EdgeKind}
pub use Rattle.rc_spec.specs.declared.items.Node.{Node}
pub use Rattle.rc_spec.specs.declared.items.Op.{Op}
pub use Rattle.rc_spec.specs.declared.items.OpKind.{OpKind}
pub use Rattle.rc_spec.specs.declared.items.OpKind.TheVariants.{Insert, Query, Remove, Update}
pub use Rattle.rc_spec.specs.declared.lock.Mode.{Mode}
pub use Rattle.rc_spec.specs.declared.lock.Mode.TheVariants.{Exclusive, Shared}
pub use Rattle.rc_spec.specs.declared.spec.Spec.{Spec}
pub use Rattle.rc_tuple.specs.ColSet.{Within, has, inter, minus, union}
pub use Rattle.rc_tuple.specs.ColSetLaws.{in_inter, in_minus, union_within}
pub use Rattle.rc_tuple.specs.RisingSet.{In, gather, put}
pub use Rattle.rc_tuple.specs.RisingSetLaws.{get_or_in, slice_get_in}
pub use Rattle.std.proofs.Common.{refl, ℕ}
pub use Rattle.std.proofs.lemmas.Result.{IfOk-weaker}
pub use Rattle.std.specs.List.{slice_get}
pub use Rattle.std.specs.Ordering.{nat_cmp}
