-- The names that files of specs/ take from the crates below and from std, passed on from one place.
pub use Rattle.rc_spec.specs.InRange.{AreBelow, HasColumnAndNode, IsDepAmong, IsEdgeAmong, IsInRange, IsOpAmong, IsPlaceAmong, IsSetBelow}
pub use Rattle.rc_spec.specs.Names.{AreNames, IsWellNamed, class_names, column_names, edge_names, is_name, node_names, op_names}
pub use Rattle.rc_spec.specs.Ranges.{range_columns}
pub use Rattle.rc_spec.specs.Spec.{empty}
pub use Rattle.rc_spec.specs.declared.items.Class.{Class}
pub use Rattle.rc_spec.specs.declared.items.ColKind.{ColKind}
pub use Rattle.rc_spec.specs.declared.items.ColKind.TheVariants.{Num, Text}
pub use Rattle.rc_spec.specs.declared.items.Column.{Column}
pub use Rattle.rc_spec.specs.declared.items.Edge.{Edge}
pub use Rattle.rc_spec.specs.declared.items.EdgeKind.{EdgeKind}
pub use Rattle.rc_spec.specs.declared.items.Node.{Node}
pub use Rattle.rc_spec.specs.declared.items.Op.{Op}
pub use Rattle.rc_spec.specs.declared.items.OpKind.{OpKind}
pub use Rattle.rc_spec.specs.declared.items.OpKind.TheVariants.{Insert, Query, Remove, Update}
pub use Rattle.rc_spec.specs.declared.items.Place.{Place}
pub use Rattle.rc_spec.specs.declared.spec.Spec.{Spec}
pub use Rattle.rc_text.specs.Language.{Language}
pub use Rattle.rc_text.specs.Lines.{ContentLine, IsLineStart, TextPlace, content_from, past_end_of, start_of}
pub use Rattle.rc_text.specs.Numbers.{is_number, number_of}
pub use Rattle.rc_text.specs.Words.{WordText, plain_text, quoted_text, words_of}
pub use Rattle.rc_text.specs.declared.words.WordFault.{WordFault}
pub use Rattle.rc_tuple.specs.ColSet.{has, inter}
pub use Rattle.rc_tuple.specs.RisingSet.{AreDistinct, In, gather}
pub use Rattle.rc_tuple.specs.RisingSetLaws.{append_in_left, append_in_right, filter_in, gather_in, has_in, in_append, in_filter, in_gather, in_has, nat_order, put_new, rising_gather}
pub use Rattle.rc_tuple.specs.declared.dep.Dep.{Dep}
pub use Rattle.std.specs.Borrow.{Bor}
pub use Rattle.std.specs.List.{before_first, cons_option, filter_map, list_any, position_from, position_or_len, slice_get}
pub use Rattle.std.specs.Option.{option_and_then, option_map, option_map_or}
pub use Rattle.std.specs.Ordering.{nat_cmp}
pub use Rattle.std.specs.Prelude.{is_none, is_some, unwrap_or}
pub use Rattle.std.specs.Str.{bytes_eq}
