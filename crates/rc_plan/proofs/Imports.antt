-- The names that files of proofs/ take from the crates below, from std and from specs/, passed on from one place.
pub use Rattle.rc_plan.specs.Access.{AreLate, AsksFor, HasNoPath, IsAccessPath, IsLate, IsLockedFirst, IsPathOf, MayBeLate, extra_of, is_given_lock, is_lock, is_lock_of}
pub use Rattle.rc_plan.specs.Compiled.{IsCompiled, IsPlanOf, SpecWithPlans, plan_at}
pub use Rattle.rc_plan.specs.EdgeClassLaws.{classes_next, count_next, few_kept}
pub use Rattle.rc_plan.specs.EdgeClasses.{AreEdgeCounts, class_edges, classes_kept, classes_of, with_class}
pub use Rattle.rc_plan.specs.Evaluation.{dep_at, eval, rows_as_taken, stays_beside}
pub use Rattle.rc_plan.specs.Example.{add_edge, add_plan, drop_edge, drop_plan, graph, plans, successor_plan, successors}
pub use Rattle.rc_plan.specs.Laws.{Serves}
pub use Rattle.rc_plan.specs.PlanRules.{AreKnown, IsKnown, KeepsPlanRules, given_columns, pattern_columns}
pub use Rattle.rc_plan.specs.PlanText.{column_text, statement_line}
pub use Rattle.rc_plan.specs.Resolved.{AllBelow, IsResolvedEdge}
pub use Rattle.rc_plan.specs.ServeLaws.{plans_law}
pub use Rattle.rc_plan.specs.declared.access.AccessPath.{AccessPath}
pub use Rattle.rc_plan.specs.declared.resolved.ResolvedEdge.{ResolvedEdge}
pub use Rattle.rc_plan.specs.declared.statement.ReadMode.{ReadMode}
pub use Rattle.rc_plan.specs.declared.statement.ReadMode.TheVariants.{Lookup, Scan}
pub use Rattle.rc_plan.specs.declared.statement.Statement.{Statement}
pub use Rattle.rc_plan.specs.declared.statement.Statement.TheVariants.{Apply, CheckAbsent, CheckDep, CheckFound, Commit, Emit, Lock, Probe, Read, Release}
pub use Rattle.rc_plan.specs.declared.statement.Which.{Which}
pub use Rattle.rc_spec.specs.Acceptance.{IsSealed}
pub use Rattle.rc_spec.specs.Adequacy.{IsAdequate, KeepsA1, KeepsA3, KeepsA5, KeepsA6, KeepsA7}
pub use Rattle.rc_spec.specs.Calls.{FitsAt, all_columns, value_columns}
pub use Rattle.rc_spec.specs.Decomposition.{IsCircle, IsWalk, bound, edge_at, source_and_key}
pub use Rattle.rc_spec.specs.DecompositionLaws.{edge_among}
pub use Rattle.rc_spec.specs.Fragments.{all_rows, fragment_of, rows_on}
pub use Rattle.rc_spec.specs.InRange.{AreBelow, IsDepAmong, IsEdgeAmong, IsInRange, IsOpAmong, IsPlaceAmong, IsSetBelow}
pub use Rattle.rc_spec.specs.Locks.{StripeLock, Suffices}
pub use Rattle.rc_spec.specs.Placement.{IsPlaced, KeepsO, KeepsP1, KeepsP2, KeepsP3, KeepsP4, KeepsP5, KeepsP6, class_at, class_of, op_at}
pub use Rattle.rc_spec.specs.PlacementLaws.{class_of_known, placed_total}
pub use Rattle.rc_spec.specs.Plain.{plain, row_cmp, rows_of}
pub use Rattle.rc_spec.specs.Ranges.{IsBounded, in_ranges}
pub use Rattle.rc_spec.specs.Stripes.{band_start}
pub use Rattle.rc_spec.specs.declared.call.Call.{Call}
pub use Rattle.rc_spec.specs.declared.call.Reply.TheVariants.{Absent, Conflict, Inserted, Present, Removed, Rows, Updated}
pub use Rattle.rc_spec.specs.declared.items.Class.{Class}
pub use Rattle.rc_spec.specs.declared.items.ColKind.TheVariants.{Num}
pub use Rattle.rc_spec.specs.declared.items.Edge.{Edge}
pub use Rattle.rc_spec.specs.declared.items.EdgeKind.TheVariants.{Hash}
pub use Rattle.rc_spec.specs.declared.items.Node.{Node}
pub use Rattle.rc_spec.specs.declared.items.Op.{Op}
pub use Rattle.rc_spec.specs.declared.items.OpKind.{OpKind}
pub use Rattle.rc_spec.specs.declared.items.OpKind.TheVariants.{Insert, Query, Remove, Update}
pub use Rattle.rc_spec.specs.declared.lock.Mode.{Mode}
pub use Rattle.rc_spec.specs.declared.lock.Mode.TheVariants.{Exclusive, Shared}
pub use Rattle.rc_spec.specs.declared.spec.Spec.{Spec}
pub use Rattle.rc_tuple.specs.ColSet.{Within, is_within, minus, union}
pub use Rattle.rc_tuple.specs.ColSetLaws.{has-gather, in_range_below, in_range_bounds, range_with_len_more, rising_range, test_from_within, within_from_test}
pub use Rattle.rc_tuple.specs.Relation.{Follows, IsOver, IsRelation, Satisfies, SatisfiesOne}
pub use Rattle.rc_tuple.specs.RelationLaws.{agree_on-same, rising_of, satisfies_from_test}
pub use Rattle.rc_tuple.specs.RisingSet.{AreDistinct, In, IsRising, gather, put}
pub use Rattle.rc_tuple.specs.RisingSetLaws.{append_in_left, each_in, gather-rising, gather_in, gather_more, get_or_in, in_append, in_gather, list_all_in, nat_order, number_lists_order, slice_get_in}
pub use Rattle.rc_tuple.specs.Tuple.{Pairs, agree_on, pick, project, tuple_cmp}
pub use Rattle.rc_tuple.specs.TupleLaws.{project_by, project_less}
pub use Rattle.rc_tuple.specs.declared.dep.Dep.{Dep}
pub use Rattle.std.proofs.Common.{List, ap, arith, inl, inr, lit<, lit≤, refl, rules, subst, sym, tests, ℕ}
pub use Rattle.std.proofs.Math.Seq.{take-length}
pub use Rattle.std.proofs.lemmas.Bool.{cases_eq, cases_lt, eq-eqb, eqb-true, false≢true, ltb-true, ne_eqb, not-true, or_parts}
pub use Rattle.std.proofs.lemmas.Grind.{flat_map-append, get_or-set_at}
pub use Rattle.std.proofs.lemmas.Iterator.{YieldsList-from_slice}
pub use Rattle.std.proofs.lemmas.Iterator.Adapters.{serves_from_places}
pub use Rattle.std.proofs.lemmas.List.{append-nil, append_assoc, drop_more, get_or-set_other, get_or-take, get_or_default, length-drop, length-set, length-take, map-append, nil_from_length, take-append-drop, take-take, take_all, take_more}
pub use Rattle.std.proofs.lemmas.List.Elements.{All-nil, filter_more}
pub use Rattle.std.proofs.lemmas.Option.{get_or_from_slice_get, none-some, slice_get-get_or, slice_get_within}
pub use Rattle.std.specs.List.{AllByRecursion, filter, flat_map, list_all, list_any, range_with_len, slice_get}
pub use Rattle.std.specs.Option.{option_or}
pub use Rattle.std.specs.Ordering.{nat_cmp}
