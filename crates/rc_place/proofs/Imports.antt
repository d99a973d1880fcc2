-- The names that files of proofs/ take from the crates below, from std and from specs/, passed on from one place.
pub use Rattle.rc_fd.specs.FollowsLaws.{lossless_at}
pub use Rattle.rc_spec.specs.Acceptance.{AreOfKind, IsAccepted, IsKept, Keeps, Step, check_on, checks, count_of, item_checks, kind_of, step, step_checks, steps}
pub use Rattle.rc_spec.specs.AcceptanceLaws.{accepted_from_checks, number_of_item, steps_of_kind}
pub use Rattle.rc_spec.specs.Adequacy.{IsReachedBy, KeepsA3, visited}
pub use Rattle.rc_spec.specs.Calls.{all_columns}
pub use Rattle.rc_spec.specs.Decomposition.{bound, edge_at, source_and_key}
pub use Rattle.rc_spec.specs.DecompositionLaws.{edge_at_found, visited_more}
pub use Rattle.rc_spec.specs.First.{EachHolds, IsFirstFailing}
pub use Rattle.rc_spec.specs.FirstLaws.{all_more, each_listed, each_more, first_among, first_at, first_listed, judged_err, taken_whole}
pub use Rattle.rc_spec.specs.InRange.{HasOutsAmong}
pub use Rattle.rc_spec.specs.Placement.{AreOuts, KeepsO3, KeepsP5, class_of, striping}
pub use Rattle.rc_spec.specs.declared.items.Edge.{Edge}
pub use Rattle.rc_spec.specs.declared.items.EdgeKind.{EdgeKind}
pub use Rattle.rc_spec.specs.declared.items.EdgeKind.TheVariants.{Hash, Ordered, Singleton}
pub use Rattle.rc_spec.specs.declared.items.Op.{Op}
pub use Rattle.rc_spec.specs.declared.items.OpKind.TheVariants.{Query}
pub use Rattle.rc_spec.specs.declared.items.Place.{Place}
pub use Rattle.rc_spec.specs.declared.refusal.Item.{Item}
pub use Rattle.rc_spec.specs.declared.refusal.ItemKind.TheVariants.{Node}
pub use Rattle.rc_spec.specs.declared.refusal.Rule.{Rule}
pub use Rattle.rc_spec.specs.declared.refusal.Rule.TheVariants.{A1}
pub use Rattle.rc_spec.specs.declared.spec.Spec.{Spec}
pub use Rattle.rc_tuple.specs.ColSet.{Within, inter, is_within, union}
pub use Rattle.rc_tuple.specs.ColSetLaws.{in_inter, inter_in, test_from_within, within_from_test}
pub use Rattle.rc_tuple.specs.RelationLaws.{follows_at, in_list_any, list_any_in}
pub use Rattle.rc_tuple.specs.RisingSet.{AreDistinct, In, IsRising, gather, put}
pub use Rattle.rc_tuple.specs.RisingSetLaws.{gather_in, has_in, in_gather, in_has, in_map, in_put, map_in, nat_order, put_old, rising_gather, rising_put, same_rising}
pub use Rattle.std.proofs.Common.{map, refl, subst, sym, take}
pub use Rattle.std.proofs.lemmas.Bool.{eq-eqb, eqb-true, false≢true}
pub use Rattle.std.proofs.lemmas.Iterator.{YieldsList-from_slice}
pub use Rattle.std.proofs.lemmas.Iterator.Search.{any_from_yields_List}
pub use Rattle.std.proofs.lemmas.List.{get_or-map, length-map}
pub use Rattle.std.proofs.lemmas.Result.{err_from_is_err_and}
pub use Rattle.std.specs.List.{AllByRecursion, filter, flat_map, list_any}
pub use Rattle.std.specs.Ordering.{match_ordering, nat_cmp}
pub use Rattle.std.specs.declared.cmp.Ordering.{Ordering}
pub use Rattle.std.specs.declared.cmp.Ordering.TheVariants.{Equal, Greater, Less}
