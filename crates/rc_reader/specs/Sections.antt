-- The sections of a specification, as a table: its order and its limits, told by how many lines of each kind stand
-- before a line.
use Rattle.std.specs.Prelude.{ℕ, Bool, true, false, not, ◌||◌, ◌==◌, ◌+◌, nat_le, List, [], ◌∷◌, length, drop, Option}
use Rattle.rc_reader.specs.Imports.{list_any, position_or_len, slice_get, option_map, option_map_or, Spec}
use Rattle.rc_reader.specs.declared.sections.LineKind.{LineKind}
use Rattle.rc_reader.specs.declared.sections.LineKind.TheVariants as kinds
use Rattle.rc_reader.specs.declared.sections.Limit.{Limit}
use Rattle.rc_reader.specs.declared.sections.Limit.TheVariants.{Fixed, ByVersion}
use Rattle.rc_reader.specs.declared.version.Version.{Version}
use Rattle.rc_reader.specs.Versions.{in_version}
use Rattle.rc_reader.specs.Forms.{FormText, header_line, column_line, dependency_line, node_line, edge_line, lock_line, place_line, query_line, insert_line, remove_line, update_line, end_line}

-- a limit in a text of the version
abbrev pub limit_in : Version → Limit → ℕ
limit_in version (Fixed most) = most
limit_in version (ByVersion first second) = in_version version first second

-- the sections in their order: of each the kind of its lines, and the most of them that a text may have
abbrev pub sections : List (LineKind × Limit)
sections =
    (kinds.Column, ByVersion 16 32)
    ∷ (kinds.Dependency, Fixed 32)
    ∷ (kinds.Node, Fixed 16)
    ∷ (kinds.Edge, Fixed 24)
    ∷ (kinds.Lock, Fixed 16)
    ∷ (kinds.Place, Fixed 24)
    ∷ (kinds.Operation, Fixed 32)
    ∷ []

-- the kind of a line: the header, a line of a section, or `end`
abbrev pub line_kind : FormText → LineKind
line_kind header_line = kinds.Header
line_kind (column_line name kind) = kinds.Column
line_kind (dependency_line left right) = kinds.Dependency
line_kind (node_line name columns) = kinds.Node
line_kind (edge_line name from to kind key) = kinds.Edge
line_kind (lock_line name number columns) = kinds.Lock
line_kind (place_line edge class) = kinds.Place
line_kind (query_line name pattern ranges outs) = kinds.Operation
line_kind (insert_line name pattern) = kinds.Operation
line_kind (remove_line name pattern) = kinds.Operation
line_kind (update_line name pattern) = kinds.Operation
line_kind end_line = kinds.End

-- the place of a kind among all
abbrev pub place_of_kind : LineKind → ℕ
place_of_kind kinds.Header = 0
place_of_kind kinds.Column = 1
place_of_kind kinds.Dependency = 2
place_of_kind kinds.Node = 3
place_of_kind kinds.Edge = 4
place_of_kind kinds.Lock = 5
place_of_kind kinds.Place = 6
place_of_kind kinds.Operation = 7
place_of_kind kinds.End = 8

abbrev pub is_kind : LineKind → LineKind → Bool
is_kind kind other = place_of_kind kind == place_of_kind other

-- the row of a kind in the table, or the table's length where it has none
abbrev pub row_of : LineKind → ℕ
row_of kind = position_or_len (λ (row : LineKind × Limit). is_kind kind row.0) sections

-- the most lines of a kind in a text of the version, where it has a row
abbrev pub limit_of : Version → LineKind → Option ℕ
limit_of version kind = option_map (λ (row : LineKind × Limit). limit_in version row.1) (slice_get sections (row_of kind))

-- the sections behind that of a kind
abbrev pub later : LineKind → List (LineKind × Limit)
later kind = drop (row_of kind + 1) sections

-- how many lines of a kind gave the items of a specification
abbrev pub line_count : Spec → LineKind → ℕ
line_count spec kinds.Header = 0
line_count spec kinds.Column = length spec.columns
line_count spec kinds.Dependency = length spec.deps
line_count spec kinds.Node = length spec.nodes
line_count spec kinds.Edge = length spec.edges
line_count spec kinds.Lock = length spec.classes
line_count spec kinds.Place = length spec.places
line_count spec kinds.Operation = length spec.ops
line_count spec kinds.End = 0

-- a line of the kind stands before
abbrev pub has_lines : (LineKind → ℕ) → LineKind → Bool
has_lines count kind = not (count kind == 0)

-- a line of a section behind the kind's own stands before
abbrev pub has_later : (LineKind → ℕ) → LineKind → Bool
has_later count kind = list_any (λ (row : LineKind × Limit). has_lines count row.0) (later kind)

-- as many lines of the kind stand before as there may be, so that one more is too many
abbrev pub is_full : Version → (LineKind → ℕ) → LineKind → Bool
is_full version count kind = option_map_or (λ most. nat_le most (count kind)) (limit_of version kind) false

-- A line of the kind may not stand behind the header and those lines: one of a later section is among them; or it is
-- a header, which stands first alone; or it is `end`, and there is no column or no node.
abbrev pub is_misplaced : (LineKind → ℕ) → LineKind → Bool
is_misplaced count kinds.Header = true
is_misplaced count kinds.End = count kinds.Column == 0 || count kinds.Node == 0
is_misplaced count kind = has_later count kind
