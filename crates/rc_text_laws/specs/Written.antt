-- Specifications as they are written: the words of a line, and the lines of a specification.
use Rattle.std.specs.Prelude.{◌≡◌, ℕ, ◌<◌, true, false, List, [], ◌∷◌, ◌++◌, length, map, get_or, Option, Some, None, decimal, codes}
use Rattle.rc_text_laws.specs.Imports.{list_any, AllByRecursion, join_with_byte, Dep, is_number, printed_lines, IsPlain, ColKind, Num, Text, EdgeKind, Column, Node, Edge, Class, Place, Op, OpKind, Spec, IsInRange, HasColumnAndNode, column_names, node_names, edge_names, class_names, IsWellNamed, FormText, header_line, column_line, dependency_line, node_line, edge_line, lock_line, place_line, query_line, insert_line, remove_line, update_line, end_line, is_arrow, is_colon, stripes_read, KeepsTextLimits, HasUpdates, version_word, Version, One, Two}
use Rattle.rc_spec.specs.declared.items.EdgeKind.TheVariants as edge_kinds
use Rattle.rc_spec.specs.declared.items.OpKind.TheVariants as kinds

abbrev pub column_kind_word : ColKind → List ℕ
column_kind_word Num = codes "num"
column_kind_word Text = codes "text"

abbrev pub edge_kind_word : EdgeKind → List ℕ
edge_kind_word edge_kinds.Hash = codes "hash"
edge_kind_word edge_kinds.Ordered = codes "ordered"
edge_kind_word edge_kinds.List = codes "list"
edge_kind_word edge_kinds.Singleton = codes "singleton"

-- a number of stripes; where a line has none, its number is above 65,535
abbrev pub stripes_word : Option ℕ → List ℕ
stripes_word None = codes "65536"
stripes_word (Some n) = decimal n

-- the words of a query before the arrow: its pattern, and behind a `:` its range columns, if it has any
abbrev pub asked_words : List (List ℕ) → List (List ℕ) → List (List ℕ)
asked_words pattern [] = pattern
asked_words pattern (first ∷ others) = pattern ++ codes ":" ∷ first ∷ others

-- the words of a line that says this, in a text of the version
abbrev pub words_of_form : Version → FormText → List (List ℕ)
words_of_form version header_line = codes "relc" ∷ version_word version ∷ []
words_of_form version (column_line name kind) = codes "col" ∷ name ∷ column_kind_word kind ∷ []
words_of_form version (dependency_line left right) = codes "fd" ∷ (left ++ codes "->" ∷ right)
words_of_form version (node_line name columns) = codes "node" ∷ name ∷ columns
words_of_form version (edge_line name from to kind key) = codes "edge" ∷ name ∷ from ∷ to ∷ edge_kind_word kind ∷ key
words_of_form version (lock_line name number columns) = codes "lock" ∷ name ∷ stripes_word number ∷ columns
words_of_form version (place_line edge class) = codes "place" ∷ edge ∷ class ∷ []
words_of_form version (query_line name pattern ranges outs) =
    codes "op" ∷ name ∷ codes "query" ∷ (asked_words pattern ranges ++ codes "->" ∷ outs)
words_of_form version (insert_line name pattern) = codes "op" ∷ name ∷ codes "insert" ∷ pattern
words_of_form version (remove_line name pattern) = codes "op" ∷ name ∷ codes "remove" ∷ pattern
words_of_form version (update_line name pattern) = codes "op" ∷ name ∷ codes "update" ∷ pattern
words_of_form version end_line = codes "end" ∷ []

-- no word of these is `->`
abbrev pub LackArrow : List (List ℕ) → Type 0
LackArrow words = list_any is_arrow words ≡ false

-- no word of these is `:`
abbrev pub LackColon : List (List ℕ) → Type 0
LackColon words = list_any is_colon words ≡ false

-- a pattern and range columns that a query of the version may have: in the first version there are no range columns,
-- and in the second the first `:` ends the pattern
abbrev pub MayAsk : Version → List (List ℕ) → List (List ℕ) → Type 0
MayAsk One pattern ranges = ranges ≡ []
MayAsk Two pattern ranges = LackColon pattern

-- Words that have a form: they are those of a line that says this. A number of stripes may have leading zeros, and all
-- numbers above 65,535 say the same.
abbrev pub HasForm : Version → List (List ℕ) → FormText → Type 0
HasForm version words (dependency_line left right) =
    (words ≡ words_of_form version (dependency_line left right)) × LackArrow left × LackArrow right × (0 < length right)
HasForm version words (lock_line name number columns) =
    (digits : List ℕ) × (words ≡ codes "lock" ∷ name ∷ digits ∷ columns) × (is_number digits ≡ true)
    × (stripes_read digits ≡ number)
HasForm version words (query_line name pattern ranges outs) =
    (words ≡ words_of_form version (query_line name pattern ranges outs)) × MayAsk version pattern ranges
    × LackArrow (asked_words pattern ranges) × LackArrow outs
HasForm version words (update_line name pattern) =
    (words ≡ words_of_form version (update_line name pattern)) × HasUpdates version
HasForm version words form = words ≡ words_of_form version form

-- words that are the same, save for the digits of a number of stripes: these stand for the same number, or for two
-- that are above 65,535
pub record DifferInNumber (words others : List (List ℕ)) : Type 0 where
  pub name : List ℕ
  pub first : List ℕ
  pub second : List ℕ
  pub columns : List (List ℕ)
  pub words_are : words ≡ codes "lock" ∷ name ∷ first ∷ columns
  pub others_are : others ≡ codes "lock" ∷ name ∷ second ∷ columns
  pub first_number : is_number first ≡ true
  pub second_number : is_number second ≡ true
  pub same : stripes_read first ≡ stripes_read second

-- each of these words can be written plain
abbrev pub ArePlain : List (List ℕ) → Type 0
ArePlain words = AllByRecursion IsPlain words

-- what a line of a text of the version can say: its words have the form, and each can be written plain
pub record CanBeLine (version : Version) (form : FormText) : Type 0 where
  pub has_form : HasForm version (words_of_form version form) form
  pub plain : ArePlain (words_of_form version form)

-- the line of some words, with one space between them
abbrev pub line_of : List (List ℕ) → List ℕ
line_of words = join_with_byte 32 words

abbrev pub written_line : Version → FormText → List ℕ
written_line version form = line_of (words_of_form version form)

-- the name of the item with this number
abbrev pub name_at : List (List ℕ) → ℕ → List ℕ
name_at names number = get_or names number []

abbrev pub names_at : List (List ℕ) → List ℕ → List (List ℕ)
names_at names numbers = map (name_at names) numbers

abbrev pub column_names_at : Spec → List ℕ → List (List ℕ)
column_names_at spec numbers = names_at (column_names spec.columns) numbers

-- what the line of an item says
abbrev pub column_form_of : Column → FormText
column_form_of column = column_line column.name column.kind

abbrev pub dependency_form_of : Spec → Dep → FormText
dependency_form_of spec dep = dependency_line (column_names_at spec dep.left) (column_names_at spec dep.right)

abbrev pub node_form_of : Spec → Node → FormText
node_form_of spec node = node_line node.name (column_names_at spec node.cols)

abbrev pub edge_form_of : Spec → Edge → FormText
edge_form_of spec edge =
    edge_line edge.name (name_at (node_names spec.nodes) edge.from)
    (name_at (node_names spec.nodes) edge.to) edge.kind (column_names_at spec edge.key)

abbrev pub class_form_of : Spec → Class → FormText
class_form_of spec class = lock_line class.name (Some class.stripes) (column_names_at spec class.cols)

abbrev pub place_form_of : Spec → Place → FormText
place_form_of spec place = place_line (name_at (edge_names spec.edges) place.edge)
    (name_at (class_names spec.classes) place.class)

abbrev pub operation_form_by : Spec → List ℕ → List ℕ → OpKind → FormText
operation_form_by spec name pattern (kinds.Query outs ranges) =
    query_line name (column_names_at spec pattern) (column_names_at spec ranges) (column_names_at spec outs)
operation_form_by spec name pattern kinds.Insert = insert_line name (column_names_at spec pattern)
operation_form_by spec name pattern kinds.Remove = remove_line name (column_names_at spec pattern)
operation_form_by spec name pattern kinds.Update = update_line name (column_names_at spec pattern)

abbrev pub operation_form_of : Spec → Op → FormText
operation_form_of spec op = operation_form_by spec op.name op.pattern op.kind

-- what the lines between the header and `end` say: the items, section by section
abbrev pub item_forms : Spec → List FormText
item_forms spec =
    map column_form_of spec.columns
    ++ (map (dependency_form_of spec) spec.deps
    ++ (map (node_form_of spec) spec.nodes
    ++ (map (edge_form_of spec) spec.edges
    ++ (map (class_form_of spec) spec.classes
    ++ (map (place_form_of spec) spec.places
    ++ map (operation_form_of spec) spec.ops)))))

-- the lines of a specification, in a text of the version
abbrev pub spec_lines : Version → Spec → List (List ℕ)
spec_lines version spec = map (written_line version) (header_line ∷ (item_forms spec ++ end_line ∷ []))

abbrev pub spec_text : Version → Spec → List ℕ
spec_text version spec = printed_lines (spec_lines version spec)

-- a specification that can be written
pub record CanBeWritten (spec : Spec) : Type 0 where
  pub in_range : IsInRange spec
  pub well_named : IsWellNamed spec
  pub populated : HasColumnAndNode spec
  pub limits : KeepsTextLimits spec
