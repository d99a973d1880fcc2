-- Operations that lines give without a name: each line has the form of an `op` line behind `op NAME`.
use Rattle.std.specs.Prelude.{ℕ, ◌||◌, if◌then◌else◌, List, [], ◌++◌, length, Option, Some, None, Result, Ok, Err}
use Rattle.rc_reader.specs.Imports.{AreDistinct, IsOpAmong, range_columns, Op, OpKind, Spec}
use Rattle.rc_spec.specs.declared.items.OpKind.TheVariants as kinds
use Rattle.rc_reader.specs.declared.refusal.LineRule.{LineRule}
use Rattle.rc_reader.specs.declared.refusal.LineRule.TheVariants.{S2, S3, S4}
use Rattle.rc_reader.specs.declared.unnamed.FoundOperation.{FoundOperation}
use Rattle.rc_reader.specs.declared.version.Version.{Version}
use Rattle.rc_reader.specs.Forms.{FormText, operation_behind, plain_words_of}
use Rattle.rc_reader.specs.Forms.{header_line, column_line, dependency_line, node_line, edge_line, lock_line, place_line, query_line, insert_line, remove_line, update_line, end_line}
use Rattle.rc_reader.specs.Rules.{columns_named, lacks, operation_of, repeat_together, repeats}

-- a query of these lists, with what rules they break
abbrev pub found_query : Spec → List (List ℕ) → List (List ℕ) → List (List ℕ) → FoundOperation
found_query spec pattern ranges outs = record {
  op = operation_of spec [] pattern (kinds.Query (columns_named spec outs) (columns_named spec ranges));
  names_twice = repeat_together spec pattern ranges;
  has_unknown = (lacks spec pattern || lacks spec ranges) || lacks spec outs;
}

-- an insert, a remove or an update by this pattern
abbrev pub found_change : Spec → List (List ℕ) → OpKind → FoundOperation
found_change spec pattern kind = record {
  op = operation_of spec [] pattern kind;
  names_twice = repeats spec pattern;
  has_unknown = lacks spec pattern;
}

-- that of a form, whatever its name; none where it is no operation's
abbrev pub found_operation : Spec → FormText → Option FoundOperation
found_operation spec (query_line name pattern ranges outs) = Some (found_query spec pattern ranges outs)
found_operation spec (insert_line name pattern) = Some (found_change spec pattern kinds.Insert)
found_operation spec (remove_line name pattern) = Some (found_change spec pattern kinds.Remove)
found_operation spec (update_line name pattern) = Some (found_change spec pattern kinds.Update)
found_operation spec header_line = None
found_operation spec (column_line name kind) = None
found_operation spec (dependency_line left right) = None
found_operation spec (node_line name columns) = None
found_operation spec (edge_line name from to kind key) = None
found_operation spec (lock_line name number columns) = None
found_operation spec (place_line edge class) = None
found_operation spec end_line = None

-- S3: a list names a column twice, save a query's output list; or a query's range column stands in its pattern. S4: a word
-- names no column.
abbrev pub operation_by : Option FoundOperation → Result Op LineRule
operation_by None = Err S2
operation_by (Some found) = if found.names_twice then Err S3 else if found.has_unknown then Err S4 else Ok found.op

abbrev pub operation_of_form : Spec → Option FormText → Result Op LineRule
operation_of_form spec None = Err S2
operation_of_form spec (Some form) = operation_by (found_operation spec form)

abbrev pub operation_of_words : Version → Spec → Option (List (List ℕ)) → Result Op LineRule
operation_of_words version spec None = Err S2
operation_of_words version spec (Some words) = operation_of_form spec (operation_behind version [] words)

-- the operation that a line of a text of the version gives, over the columns of the specification, or the first of S2, S3 and
-- S4 that it breaks
unfoldable pub unnamed_operation : Version → Spec → List ℕ → Result Op LineRule
unnamed_operation version spec bytes = operation_of_words version spec (plain_words_of bytes)

-- an operation's columns are the specification's, each once in its pattern and ranges
pub record IsOverColumns (spec : Spec) (op : Op) : Type 0 where
  pub among : IsOpAmong (length spec.columns) op
  pub distinct : AreDistinct (op.pattern ++ range_columns op.kind)
