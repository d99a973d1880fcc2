-- The names that files of proofs/ take from the crates below, from std and from specs/, passed on from one place.
pub use Rattle.rc_fd.specs.FollowsLaws.{lossless_at}
pub use Rattle.rc_route.specs.GoodRoutes.{IsGoodFrom, IsGoodRoute, IsStep, all_edges}
pub use Rattle.rc_route.specs.GoodRoutesLaws.{good_reached}
pub use Rattle.rc_route.specs.Paths.{IsLeastPath, IsPath, IsPathFromRoot, SomeNodeBinds, cost, end_of, lock_cost}
pub use Rattle.rc_route.specs.PathsLaws.{cost_few, edge_into, edges_known, in_get, into_edge, path_end, path_short, paths_are_good}
pub use Rattle.rc_route.specs.PrunedWalk.{ArePasses, IsLeftFrom, IsPass, IsPrunedWalk, onto}
pub use Rattle.rc_route.specs.PrunedWalkLaws.{onto_onto, passes_more, walks_are_good}
pub use Rattle.rc_route.specs.Search.{AreLeastPaths, Binds, EndsAt, IsFirstLeast, IsFirstLeastOrNone, IsLeastTo, cost_by, cost_to, path_at}
pub use Rattle.rc_route.specs.SearchLaws.{found_path, least_begins, least_keeps, least_passes, least_takes, root_path, step_path}
pub use Rattle.rc_spec.specs.Acceptance.{IsSealed}
pub use Rattle.rc_spec.specs.Adequacy.{HasEdgeInto, IsLossless}
pub use Rattle.rc_spec.specs.Decomposition.{bound, edge_at, target_columns}
pub use Rattle.rc_spec.specs.DecompositionLaws.{at_found, edge_at_found, edge_at_in}
pub use Rattle.rc_spec.specs.First.{EachHolds}
pub use Rattle.rc_spec.specs.FirstLaws.{each_append, each_one}
pub use Rattle.rc_spec.specs.InRange.{IsEdgeAmong}
pub use Rattle.rc_spec.specs.Order.{IsNext, IsTopologicalOrder}
pub use Rattle.rc_spec.specs.Placement.{class_at, class_of, striping}
pub use Rattle.rc_spec.specs.PlacementLaws.{class_of_known}
pub use Rattle.rc_spec.specs.declared.items.Class.{Class}
pub use Rattle.rc_spec.specs.declared.items.Edge.{Edge}
pub use Rattle.rc_spec.specs.declared.spec.Spec.{Spec}
pub use Rattle.rc_tuple.specs.ColSet.{Within, is_within, union, with_column}
pub use Rattle.rc_tuple.specs.ColSetLaws.{range_with_len_more, test_from_within, within_from_test}
pub use Rattle.rc_tuple.specs.RisingSet.{In}
pub use Rattle.rc_tuple.specs.RisingSetLaws.{get_or_in, has_in, in_append, in_has, in_put, nat_order, put_new, put_old}
pub use Rattle.std.proofs.Common.{List, subst, suc, sym, ℕ}
pub use Rattle.std.proofs.Math.ListN.{length-set, set}
pub use Rattle.std.proofs.lemmas.Bool.{cases_eq, eq-eqb, false≢true, true≢false}
pub use Rattle.std.proofs.lemmas.List.{append-nil, length-take, take_all, take_more}
pub use Rattle.std.specs.List.{range_with_len}
pub use Rattle.std.specs.Ordering.{nat_cmp}
pub use Rattle.std.specs.Prelude.{MatchOption}
