-- A line that breaks no rule leaves the specification well named.
use Rattle.std.proofs.Common.{◌≡◌, ℕ, false, ◌||◌, List, [], ◌∷◌, ◌++◌, sym, subst}
use Rattle.std.proofs.lemmas.List.{append-nil}
use Rattle.rc_reader.specs.Imports.{unwrap_or, AreDistinct, Column, Node, Edge, Class, Op, OpKind, Spec, empty, range_columns, node_names, edge_names, class_names, op_names, AreNames, IsWellNamed}
use Rattle.std.proofs.lemmas.Bool.{or_parts}
use Rattle.rc_spec.specs.declared.items.OpKind.TheVariants as kinds
use Rattle.rc_reader.specs.Names.{is_refused_name}
use Rattle.rc_reader.specs.Forms.{column_line, node_line, edge_line, lock_line, query_line, insert_line, remove_line, update_line}
use Rattle.rc_reader.specs.Rules.{repeats, share, repeat_together, number_named, columns_named, set_named, operation_of}
use Rattle.rc_reader.specs.MembersLaws.{each_push, distinct_from_test, distinct_append, apart_from_test}
use Rattle.rc_reader.specs.NamesLaws.{items_push}
use Rattle.rc_reader.specs.RulesLaws.{Keeps}

-- one operation more, of whose columns none stands twice
well_named-operation : (spec : Spec) (name : List ℕ) (pattern : List (List ℕ)) (kind : OpKind) → IsWellNamed spec → is_refused_name (op_names spec.ops) name ≡ false → AreDistinct (columns_named spec pattern ++ range_columns kind) → IsWellNamed (record spec { ops = spec.ops ++ operation_of spec name pattern kind ∷ [] })
well_named-operation spec name pattern kind named new distinct =
    let more : Op = operation_of spec name pattern kind in
    record {
      columns = named.columns;
      nodes = named.nodes;
      edges = named.edges;
      classes = named.classes;
      ops = items_push (λ (x : Op). x.name) spec.ops more named.ops new;
      patterns = each_push (λ (x : Op). AreDistinct (x.pattern ++ range_columns x.kind)) spec.ops more named.patterns distinct;
    }

pub pattern_distinct : (spec : Spec) (pattern : List (List ℕ)) → repeats spec pattern ≡ false → AreDistinct (columns_named spec pattern ++ [])
pattern_distinct spec pattern e = subst AreDistinct (sym (append-nil (columns_named spec pattern))) (distinct_from_test (columns_named spec pattern) e)

pub together_distinct : (spec : Spec) (pattern ranges : List (List ℕ)) → repeat_together spec pattern ranges ≡ false → AreDistinct (columns_named spec pattern ++ columns_named spec ranges)
together_distinct spec pattern ranges e =
    let parts = or_parts (repeats spec pattern || repeats spec ranges) (share spec pattern ranges) e in
    let each = or_parts (repeats spec pattern) (repeats spec ranges) parts.0 in
    distinct_append (columns_named spec pattern) (columns_named spec ranges) (distinct_from_test (columns_named spec pattern) each.0) (distinct_from_test (columns_named spec ranges) each.1) (apart_from_test (columns_named spec pattern) (columns_named spec ranges) parts.1)

well_named-with_line : Keeps IsWellNamed
well_named-with_line version spec (column_line name kind) next formed is_taken named =
    let more : Column = record { name = name; kind = kind } in
    record {
      columns = items_push (λ (x : Column). x.name) spec.columns more named.columns is_taken.names;
      nodes = named.nodes;
      edges = named.edges;
      classes = named.classes;
      ops = named.ops;
      patterns = named.patterns;
    }
well_named-with_line version spec (node_line name columns) next formed is_taken named =
    let parts = or_parts (is_refused_name (node_names spec.nodes) name) (repeats spec columns) is_taken.names in
    let more : Node = record { name = name; cols = set_named spec columns } in
    record {
      columns = named.columns;
      nodes = items_push (λ (x : Node). x.name) spec.nodes more named.nodes parts.0;
      edges = named.edges;
      classes = named.classes;
      ops = named.ops;
      patterns = named.patterns;
    }
well_named-with_line version spec (edge_line name from to kind key) next formed is_taken named =
    let parts = or_parts (is_refused_name (edge_names spec.edges) name) (repeats spec key) is_taken.names in
    let more : Edge = record { name = name; from = number_named (node_names spec.nodes) from; to = number_named (node_names spec.nodes) to; kind = kind; key = set_named spec key } in
    record {
      columns = named.columns;
      nodes = named.nodes;
      edges = items_push (λ (x : Edge). x.name) spec.edges more named.edges parts.0;
      classes = named.classes;
      ops = named.ops;
      patterns = named.patterns;
    }
well_named-with_line version spec (lock_line name number columns) next formed is_taken named =
    let parts = or_parts (is_refused_name (class_names spec.classes) name) (repeats spec columns) is_taken.names in
    let more : Class = record { name = name; stripes = unwrap_or number 0; cols = set_named spec columns } in
    record {
      columns = named.columns;
      nodes = named.nodes;
      edges = named.edges;
      classes = items_push (λ (x : Class). x.name) spec.classes more named.classes parts.0;
      ops = named.ops;
      patterns = named.patterns;
    }
well_named-with_line version spec (query_line name pattern ranges outs) next formed is_taken named =
    let parts = or_parts (is_refused_name (op_names spec.ops) name) (repeat_together spec pattern ranges) is_taken.names in
    well_named-operation spec name pattern (kinds.Query (columns_named spec outs) (columns_named spec ranges)) named parts.0 (together_distinct spec pattern ranges parts.1)
well_named-with_line version spec (insert_line name pattern) next formed is_taken named =
    let parts = or_parts (is_refused_name (op_names spec.ops) name) (repeats spec pattern) is_taken.names in
    well_named-operation spec name pattern kinds.Insert named parts.0 (pattern_distinct spec pattern parts.1)
well_named-with_line version spec (remove_line name pattern) next formed is_taken named =
    let parts = or_parts (is_refused_name (op_names spec.ops) name) (repeats spec pattern) is_taken.names in
    well_named-operation spec name pattern kinds.Remove named parts.0 (pattern_distinct spec pattern parts.1)
well_named-with_line version spec (update_line name pattern) next formed is_taken named =
    let parts = or_parts (is_refused_name (op_names spec.ops) name) (repeats spec pattern) is_taken.names in
    well_named-operation spec name pattern kinds.Update named parts.0 (pattern_distinct spec pattern parts.1)
well_named-with_line version spec form next formed is_taken named = record {
  columns = named.columns;
  nodes = named.nodes;
  edges = named.edges;
  classes = named.classes;
  ops = named.ops;
  patterns = named.patterns;
}

pub well_named-keeps : Keeps IsWellNamed
well_named-keeps = well_named-with_line

no_names : AreNames []
no_names = record { each = λ name none. absurd none; distinct = tt }

pub well_named-empty : IsWellNamed empty
well_named-empty = record { columns = no_names; nodes = no_names; edges = no_names; classes = no_names; ops = no_names; patterns = λ op none. absurd none }
