-- The names that files of specs/ take from the crates below and from std, passed on from one place.
pub use Rattle.rc_spec.specs.Calls.{Fits, FitsAt, all_columns, value_columns}
pub use Rattle.rc_spec.specs.CallsLaws.{plain_keeps_relation}
pub use Rattle.rc_spec.specs.Fragments.{fragment_of}
pub use Rattle.rc_spec.specs.Plain.{Outcome, plain, plain_at}
pub use Rattle.rc_spec.specs.PlainLaws.{plain_grows, plain_satisfies}
pub use Rattle.rc_spec.specs.Stripes.{stripe_total}
pub use Rattle.rc_spec.specs.declared.call.Call.{Call}
pub use Rattle.rc_spec.specs.declared.call.Reply.{Reply}
pub use Rattle.rc_spec.specs.declared.items.Op.{Op}
pub use Rattle.rc_spec.specs.declared.items.OpKind.{OpKind}
pub use Rattle.rc_spec.specs.declared.items.OpKind.TheVariants.{Insert, Query, Remove, Update}
pub use Rattle.rc_spec.specs.declared.spec.Spec.{Spec}
pub use Rattle.rc_tuple.specs.Relation.{IsRelation, Satisfies}
pub use Rattle.rc_tuple.specs.RelationLaws.{satisfies_none}
pub use Rattle.rc_tuple.specs.RisingSet.{In, IsRising, gather}
pub use Rattle.rc_tuple.specs.RisingSetLaws.{in_filter}
pub use Rattle.rc_tuple.specs.Tuple.{Pairs, cols_of, tuple_cmp}
pub use Rattle.rc_tuple.specs.declared.dep.Dep.{Dep}
pub use Rattle.std.specs.List.{AllByRecursion, flat_map, range_with_len, slice_get, sum_by}
pub use Rattle.std.specs.Ordering.{nat_cmp}
pub use Rattle.std.specs.Prelude.{List}
