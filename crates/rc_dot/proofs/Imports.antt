-- The names that files of proofs/ take from the crates below, from std and from specs/, passed on from one place.
pub use Rattle.rc_dot.specs.Dot.{class_line, colour_of, columns_text, edge_line, node_line, number_line, number_text, statement_table_line}
pub use Rattle.rc_plan.specs.Access.{is_read_of}
pub use Rattle.rc_plan.specs.PlanText.{column_text}
pub use Rattle.rc_plan.specs.declared.statement.Statement.{Statement}
pub use Rattle.rc_plan.specs.declared.statement.Statement.TheVariants.{Commit}
pub use Rattle.rc_spec.specs.DecompositionLaws.{at_found}
pub use Rattle.rc_spec.specs.Placement.{class_at}
pub use Rattle.rc_spec.specs.RefusalText.{no_column}
pub use Rattle.rc_spec.specs.declared.items.Class.{Class}
pub use Rattle.rc_spec.specs.declared.items.Column.{Column}
pub use Rattle.rc_spec.specs.declared.items.Node.{Node}
pub use Rattle.rc_spec.specs.declared.spec.Spec.{Spec}
pub use Rattle.rc_tuple.specs.ColSetLaws.{range_with_len_more}
pub use Rattle.rc_tuple.specs.RisingSet.{In}
pub use Rattle.rc_tuple.specs.RisingSetLaws.{get_or_in, slice_get_in}
pub use Rattle.std.proofs.Common.{List, subst, sym}
pub use Rattle.std.proofs.lemmas.Grind.{flat_map-append}
pub use Rattle.std.proofs.lemmas.List.{append-nil, append_assoc, take_more}
pub use Rattle.std.proofs.lemmas.List.Elements.{filter-append}
pub use Rattle.std.proofs.lemmas.Option.{get_or_from_slice_get, slice_get-get_or, slice_get_within}
pub use Rattle.std.proofs.lemmas.Result.{on_ok_weaker}
pub use Rattle.std.specs.Fmt.{decimal}
pub use Rattle.std.specs.List.{flat_map, range_with_len, slice_get}
pub use Rattle.std.specs.Prelude.{IsSome}
