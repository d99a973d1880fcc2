-- The names that files of proofs/ take from the crates below, from std and from specs/, passed on from one place.
pub use Rattle.rc_plan.specs.Compiled.{plan_at}
pub use Rattle.rc_plan.specs.Evaluation.{dep_at, no_dep}
pub use Rattle.rc_plan.specs.PlanRules.{pattern_columns}
pub use Rattle.rc_plan.specs.declared.statement.Statement.{Statement}
pub use Rattle.rc_plan.specs.declared.statement.Statement.TheVariants.{Apply, CheckDep, Lock}
pub use Rattle.rc_query.specs.InsertPlanLaws.{probe_edges_known}
pub use Rattle.rc_query.specs.Laws.{IsAcceptedFor}
pub use Rattle.rc_query.specs.OpLaws.{gather_some, union_some}
pub use Rattle.rc_query.specs.Planned.{ChoosesRoutes, IsPlanned, Routing, checked_deps, classes_of_edges, dependency_probe, ending, found_probe, insert_plan, insert_probes, left_after, locks, locks_and_reads, pattern_probe, plan_for, probe_statements, reads_unbound, remove_plan, update_dependency_probe, update_plan, update_probes, update_which, which_under, written_classes}
pub use Rattle.rc_query.specs.PlannedLaws.{accepted_if_planned, chosen_good, chosen_routing, planned_accepted, route_is_chosen, routing_chooses}
pub use Rattle.rc_query.specs.ProgressLaws.{classes_known, in_edge}
pub use Rattle.rc_query.specs.StatementsLaws.{class_below, locks_more}
pub use Rattle.rc_query.specs.UpdatePlanLaws.{update_edges_known}
pub use Rattle.rc_query.specs.declared.probe.PlannedProbe.{PlannedProbe}
pub use Rattle.rc_route.specs.GoodRoutes.{all_edges}
pub use Rattle.rc_route.specs.GoodRoutesLaws.{good_known}
pub use Rattle.rc_route.specs.Paths.{IsChosenRoute}
pub use Rattle.rc_spec.specs.Acceptance.{IsSealed}
pub use Rattle.rc_spec.specs.Calls.{all_columns}
pub use Rattle.rc_spec.specs.DecompositionLaws.{at_found}
pub use Rattle.rc_spec.specs.InRange.{HasColumnAndNode, IsDepAmong}
pub use Rattle.rc_spec.specs.Placement.{class_of, op_at}
pub use Rattle.rc_spec.specs.declared.items.Op.{Op}
pub use Rattle.rc_spec.specs.declared.items.OpKind.TheVariants.{Insert, Remove, Update}
pub use Rattle.rc_spec.specs.declared.lock.Mode.TheVariants.{Exclusive}
pub use Rattle.rc_spec.specs.declared.spec.Spec.{Spec}
pub use Rattle.rc_tuple.specs.ColSet.{Within, is_within, union}
pub use Rattle.rc_tuple.specs.ColSetLaws.{in_range_below, range_with_len_more, union_left, union_within}
pub use Rattle.rc_tuple.specs.RisingSet.{In, gather, put}
pub use Rattle.rc_tuple.specs.RisingSetLaws.{gather_more, get_or_in, nat_order, slice_get_in}
pub use Rattle.rc_tuple.specs.declared.dep.Dep.{Dep}
pub use Rattle.std.proofs.Common.{List, ap, subst, sym, ℕ}
pub use Rattle.std.proofs.Math.Seq.{get_or-append_seam}
pub use Rattle.std.proofs.lemmas.Bool.{cases_eq}
pub use Rattle.std.proofs.lemmas.List.{append-nil, append_assoc, get_or_append_left, length-append, map-append}
pub use Rattle.std.proofs.lemmas.List.Elements.{filter-append}
pub use Rattle.std.proofs.lemmas.Result.{IfOk-weaker}
pub use Rattle.std.specs.List.{flat_map, list_any, range_with_len, slice_get}
pub use Rattle.std.specs.Ordering.{nat_cmp}
