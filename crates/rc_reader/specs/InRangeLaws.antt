-- A line that breaks no rule leaves the specification in range.
use Rattle.std.proofs.Common.{◌≡◌, ℕ, ◌<◌, ◌≤◌, false, eqb, ◌||◌, List, [], ◌∷◌, ◌++◌, length, Option, Some, None, refl, arith, lit≤}
use Rattle.rc_reader.specs.Imports.{is_none, unwrap_or, list_any, nat_cmp, Dep, nat_order, rising_gather, in_gather, Column, Node, Edge, Class, Place, Op, Spec, empty, column_names, node_names, edge_names, class_names, AreBelow, IsSetBelow, IsDepAmong, IsEdgeAmong, IsPlaceAmong, IsOpAmong, IsInRange}
use Rattle.std.proofs.lemmas.Bool.{leb-false, or_parts, not-false, eqb-true}
use Rattle.std.proofs.lemmas.List.{length_push, length-map}
use Rattle.rc_spec.specs.declared.items.OpKind.TheVariants as kinds
use Rattle.rc_reader.specs.Names.{number_among, is_unknown}
use Rattle.rc_reader.specs.Forms.{column_line, dependency_line, node_line, edge_line, lock_line, place_line, query_line, insert_line, remove_line, update_line}
use Rattle.rc_reader.specs.declared.sections.LineKind.{LineKind}
use Rattle.rc_reader.specs.declared.sections.LineKind.TheVariants as sections
use Rattle.rc_reader.specs.declared.sections.Limit.{Limit}
use Rattle.rc_reader.specs.declared.version.Version.{Version}
use Rattle.rc_reader.specs.declared.version.Version.TheVariants.{One, Two}
use Rattle.rc_reader.specs.Versions.{most_columns}
use Rattle.rc_reader.specs.Sections.{later, line_count, has_lines, has_later}
use Rattle.rc_reader.specs.Rules.{lacks, number_named, columns_named, set_named, operation_of}
use Rattle.rc_reader.specs.MembersLaws.{each_push, each_of_none, gather_some}
use Rattle.rc_reader.specs.NamesLaws.{number_among-below, numbers_of-below, length-numbers_of}
use Rattle.rc_reader.specs.RulesLaws.{Keeps}

-- the columns that a list names are columns of the specification
pub columns_below : (spec : Spec) (words : List (List ℕ)) → AreBelow (length spec.columns) (columns_named spec words)
columns_below spec words c m =
    let below = numbers_of-below (column_names spec.columns) words c m in
    omega (arith, length-map spec.columns (λ (column : Column). column.name))

set_below : (spec : Spec) (words : List (List ℕ)) → length spec.columns ≤ 32 → IsSetBelow (length spec.columns) (set_named spec words)
set_below spec words few =
    let below : AreBelow (length spec.columns) (set_named spec words) = λ c m. columns_below spec words c (in_gather nat_cmp nat_order c (columns_named spec words) m) in
    record {
      set = record { rising = rising_gather nat_cmp nat_order (columns_named spec words); below = λ c m. let small = below c m in omega arith };
      below = below;
    }

-- a right side that has a word is not empty
set_some : (spec : Spec) (words : List (List ℕ)) → 0 < length words → lacks spec words ≡ false → set_named spec words ≡ [] → ⊥
set_some spec words more known e =
    let count = length-numbers_of (column_names spec.columns) words known in
    gather_some (columns_named spec words) (omega arith) e

-- these sections have no item
abbrev pub AreEmpty : Spec → List (LineKind × Limit) → Type 0
AreEmpty spec [] = Unit {0}
AreEmpty spec (row ∷ rows) = (line_count spec row.0 ≡ 0) × AreEmpty spec rows

are_empty : (spec : Spec) (rows : List (LineKind × Limit)) → list_any (λ (row : LineKind × Limit). has_lines (line_count spec) row.0) rows ≡ false → AreEmpty spec rows
are_empty spec [] e = tt
are_empty spec (row ∷ rows) e =
    let parts = or_parts (has_lines (line_count spec) row.0) (list_any (λ (r : LineKind × Limit). has_lines (line_count spec) r.0) rows) e in
    (eqb-true (line_count spec row.0) 0 (not-false (eqb (line_count spec row.0) 0) parts.0), are_empty spec rows parts.1)

-- where a line is in order, those behind its own
empty_later : (spec : Spec) (kind : LineKind) → has_later (line_count spec) kind ≡ false → AreEmpty spec (later kind)
empty_later spec kind e = are_empty spec (later kind) e

-- a known name's number is one of the items
named_below : (found : Option ℕ) (limit : ℕ) → ((k : ℕ) → found ≡ Some k → k < limit) → is_none found ≡ false → unwrap_or found 0 < limit
named_below None limit below known = absurd cc
named_below (Some k) limit below known = below k refl

number_below : (names : List (List ℕ)) (word : List ℕ) (limit : ℕ) → length names ≡ limit → is_unknown names word ≡ false → number_named names word < limit
number_below names word limit len known =
    named_below (number_among names word) limit (λ k e. let below = number_among-below names word k e in omega arith) known

-- no text has more columns than there may be
pub most_columns-le : (version : Version) → most_columns version ≤ 32
most_columns-le One = lit≤ tt
most_columns-le Two = lit≤ tt

in_range-column : (spec : Spec) (more : Column) → IsInRange spec → length spec.columns < 32 → has_later (line_count spec) sections.Column ≡ false → IsInRange (record spec { columns = spec.columns ++ more ∷ [] })
in_range-column spec more range few order =
    let (deps, (nodes, (edges, (classes, (places, (ops, none)))))) = empty_later spec sections.Column order in
    let count : ℕ = length (spec.columns ++ more ∷ []) in
    record {
      columns = omega (arith, length_push spec.columns more);
      deps = range.deps;
      nodes = range.nodes;
      edges = range.edges;
      classes = range.classes;
      places = range.places;
      ops = range.ops;
      known_deps = each_of_none (IsDepAmong count) spec.deps deps;
      known_nodes = each_of_none (λ (x : Node). IsSetBelow count x.cols) spec.nodes nodes;
      known_edges = each_of_none (IsEdgeAmong (length spec.nodes) count) spec.edges edges;
      known_classes = each_of_none (λ (x : Class). IsSetBelow count x.cols) spec.classes classes;
      known_places = range.known_places;
      known_ops = each_of_none (IsOpAmong count) spec.ops ops;
    }

in_range-operation : (spec : Spec) (more : Op) → IsInRange spec → length spec.ops < 32 → IsOpAmong (length spec.columns) more → IsInRange (record spec { ops = spec.ops ++ more ∷ [] })
in_range-operation spec more range few known = record {
  columns = range.columns;
  deps = range.deps;
  nodes = range.nodes;
  edges = range.edges;
  classes = range.classes;
  places = range.places;
  ops = omega (arith, length_push spec.ops more);
  known_deps = range.known_deps;
  known_nodes = range.known_nodes;
  known_edges = range.known_edges;
  known_classes = range.known_classes;
  known_places = range.known_places;
  known_ops = each_push (IsOpAmong (length spec.columns)) spec.ops more range.known_ops known;
}

in_range-with_line : Keeps IsInRange
in_range-with_line version spec (column_line name kind) next formed is_taken range =
    let few = leb-false (most_columns version) (length spec.columns) is_taken.limit in
    in_range-column spec (record { name = name; kind = kind }) range (omega (arith, most_columns-le version)) is_taken.order
in_range-with_line version spec (dependency_line left right) next formed is_taken range =
    let few = leb-false 32 (length spec.deps) is_taken.limit in
    let known = or_parts (lacks spec left) (lacks spec right) is_taken.known in
    let more : Dep = record { left = set_named spec left; right = set_named spec right } in
    record {
      columns = range.columns;
      deps = omega (arith, length_push spec.deps more);
      nodes = range.nodes;
      edges = range.edges;
      classes = range.classes;
      places = range.places;
      ops = range.ops;
      known_deps = each_push (IsDepAmong (length spec.columns)) spec.deps more range.known_deps (record {
        left = set_below spec left range.columns;
        right = set_below spec right range.columns;
        has_right = set_some spec right formed known.1;
      });
      known_nodes = range.known_nodes;
      known_edges = range.known_edges;
      known_classes = range.known_classes;
      known_places = range.known_places;
      known_ops = range.known_ops;
    }
in_range-with_line version spec (node_line name columns) next formed is_taken range =
    let few = leb-false 16 (length spec.nodes) is_taken.limit in
    let (edges, others) = empty_later spec sections.Node is_taken.order in
    let more : Node = record { name = name; cols = set_named spec columns } in
    record {
      columns = range.columns;
      deps = range.deps;
      nodes = omega (arith, length_push spec.nodes more);
      edges = range.edges;
      classes = range.classes;
      places = range.places;
      ops = range.ops;
      known_deps = range.known_deps;
      known_nodes = each_push (λ (x : Node). IsSetBelow (length spec.columns) x.cols) spec.nodes more range.known_nodes (set_below spec columns range.columns);
      known_edges = each_of_none (IsEdgeAmong (length (spec.nodes ++ more ∷ [])) (length spec.columns)) spec.edges edges;
      known_classes = range.known_classes;
      known_places = range.known_places;
      known_ops = range.known_ops;
    }
in_range-with_line version spec (edge_line name from to kind key) next formed is_taken range =
    let few = leb-false 24 (length spec.edges) is_taken.limit in
    let (classes, (places, others)) = empty_later spec sections.Edge is_taken.order in
    let names : List (List ℕ) = node_names spec.nodes in
    let known = or_parts (is_unknown names from || is_unknown names to) (lacks spec key) is_taken.known in
    let ends = or_parts (is_unknown names from) (is_unknown names to) known.0 in
    let count = length-map spec.nodes (λ (x : Node). x.name) in
    let more : Edge = record { name = name; from = number_named names from; to = number_named names to; kind = kind; key = set_named spec key } in
    record {
      columns = range.columns;
      deps = range.deps;
      nodes = range.nodes;
      edges = omega (arith, length_push spec.edges more);
      classes = range.classes;
      places = range.places;
      ops = range.ops;
      known_deps = range.known_deps;
      known_nodes = range.known_nodes;
      known_edges = each_push (IsEdgeAmong (length spec.nodes) (length spec.columns)) spec.edges more range.known_edges (record {
        from = number_below names from (length spec.nodes) count ends.0;
        to = number_below names to (length spec.nodes) count ends.1;
        key = set_below spec key range.columns;
      });
      known_classes = range.known_classes;
      known_places = each_of_none (IsPlaceAmong (length (spec.edges ++ more ∷ [])) (length spec.classes)) spec.places places;
      known_ops = range.known_ops;
    }
in_range-with_line version spec (lock_line name number columns) next formed is_taken range =
    let few = leb-false 16 (length spec.classes) is_taken.limit in
    let (places, others) = empty_later spec sections.Lock is_taken.order in
    let more : Class = record { name = name; stripes = unwrap_or number 0; cols = set_named spec columns } in
    record {
      columns = range.columns;
      deps = range.deps;
      nodes = range.nodes;
      edges = range.edges;
      classes = omega (arith, length_push spec.classes more);
      places = range.places;
      ops = range.ops;
      known_deps = range.known_deps;
      known_nodes = range.known_nodes;
      known_edges = range.known_edges;
      known_classes = each_push (λ (x : Class). IsSetBelow (length spec.columns) x.cols) spec.classes more range.known_classes (set_below spec columns range.columns);
      known_places = each_of_none (IsPlaceAmong (length spec.edges) (length (spec.classes ++ more ∷ []))) spec.places places;
      known_ops = range.known_ops;
    }
in_range-with_line version spec (place_line edge class) next formed is_taken range =
    let few = leb-false 24 (length spec.places) is_taken.limit in
    let known = or_parts (is_unknown (edge_names spec.edges) edge) (is_unknown (class_names spec.classes) class) is_taken.known in
    let more : Place = record { edge = number_named (edge_names spec.edges) edge; class = number_named (class_names spec.classes) class } in
    record {
      columns = range.columns;
      deps = range.deps;
      nodes = range.nodes;
      edges = range.edges;
      classes = range.classes;
      places = omega (arith, length_push spec.places more);
      ops = range.ops;
      known_deps = range.known_deps;
      known_nodes = range.known_nodes;
      known_edges = range.known_edges;
      known_classes = range.known_classes;
      known_places = each_push (IsPlaceAmong (length spec.edges) (length spec.classes)) spec.places more range.known_places (record {
        edge = number_below (edge_names spec.edges) edge (length spec.edges) (length-map spec.edges (λ (x : Edge). x.name)) known.0;
        class = number_below (class_names spec.classes) class (length spec.classes) (length-map spec.classes (λ (x : Class). x.name)) known.1;
      });
      known_ops = range.known_ops;
    }
in_range-with_line version spec (query_line name pattern ranges outs) next formed is_taken range =
    in_range-operation spec (operation_of spec name pattern (kinds.Query (columns_named spec outs) (columns_named spec ranges))) range
    (leb-false 32 (length spec.ops) is_taken.limit)
    (record { pattern = columns_below spec pattern; outs = columns_below spec outs; ranges = columns_below spec ranges })
in_range-with_line version spec (insert_line name pattern) next formed is_taken range =
    in_range-operation spec (operation_of spec name pattern kinds.Insert) range (leb-false 32 (length spec.ops) is_taken.limit)
    (record { pattern = columns_below spec pattern; outs = tt; ranges = λ c none. absurd none })
in_range-with_line version spec (remove_line name pattern) next formed is_taken range =
    in_range-operation spec (operation_of spec name pattern kinds.Remove) range (leb-false 32 (length spec.ops) is_taken.limit)
    (record { pattern = columns_below spec pattern; outs = tt; ranges = λ c none. absurd none })
in_range-with_line version spec (update_line name pattern) next formed is_taken range =
    in_range-operation spec (operation_of spec name pattern kinds.Update) range (leb-false 32 (length spec.ops) is_taken.limit)
    (record { pattern = columns_below spec pattern; outs = tt; ranges = λ c none. absurd none })
in_range-with_line version spec form next formed is_taken range = range

pub in_range-keeps : Keeps IsInRange
in_range-keeps = in_range-with_line

pub in_range-empty : IsInRange empty
in_range-empty = record {
  columns = lit≤ tt;
  deps = lit≤ tt;
  nodes = lit≤ tt;
  edges = lit≤ tt;
  classes = lit≤ tt;
  places = lit≤ tt;
  ops = lit≤ tt;
  known_deps = λ dep none. absurd none;
  known_nodes = λ node none. absurd none;
  known_edges = λ edge none. absurd none;
  known_classes = λ class none. absurd none;
  known_places = λ place none. absurd none;
  known_ops = λ op none. absurd none;
}
