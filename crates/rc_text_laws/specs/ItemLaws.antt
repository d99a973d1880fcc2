-- The lines of a specification that can be written are read as what they say.
use Rattle.std.proofs.Common.{◌≡◌, ℕ, ◌<◌, ◌≤◌, ◌^◌, false, List, [], ◌∷◌, ◌++◌, length, map, refl, sym, ap, ◌∙◌, subst, inl, inr, arith, lit≤, codes}
use Rattle.std.specs.Prelude.{decimal}
use Rattle.rc_text_laws.specs.Imports.{AllByRecursion, In, in_append, in_map, map_in, get_or_in, Dep, IsPrintable, is_number-decimal, plain-number, IsPlain, ColKind, Num, Text, EdgeKind, Column, Node, Edge, Class, Place, Op, OpKind, Spec, AreBelow, HasOutsAmong, range_columns, AreNames, Version, One, Two, KeepsRanges, IsKindOf, KeepsVersion, FormText, header_line, end_line, is_arrow, is_end}
use Rattle.std.proofs.lemmas.List.Folds.{list_any-append}
use Rattle.rc_spec.specs.declared.items.EdgeKind.TheVariants as edge_kinds
use Rattle.rc_spec.specs.declared.items.OpKind.TheVariants as kinds
use Rattle.rc_text_laws.specs.Written.{column_kind_word, edge_kind_word, asked_words, words_of_form, LackArrow, LackColon, MayAsk, HasForm, ArePlain, CanBeLine, written_line, name_at, names_at, column_names_at, column_form_of, dependency_form_of, node_form_of, edge_form_of, class_form_of, place_form_of, operation_form_by, operation_form_of, item_forms, spec_lines, CanBeWritten}
use Rattle.rc_text_laws.specs.WordsLaws.{plain_name, plain_append}
use Rattle.rc_text_laws.specs.LineLaws.{line_printable, stripes_read-decimal}
use Rattle.rc_text_laws.specs.SectionsLaws.{neither, below_map, list_plain, list_lacks_arrow, list_lacks_colon}

-- the line of an item is read as what it says, and is not `end`
pub record IsItemLine (version : Version) (form : FormText) : Type 0 where
  pub can_be_line : CanBeLine version form
  pub goes_on : is_end form ≡ false

column_kind_plain : (kind : ColKind) → IsPlain (column_kind_word kind)
column_kind_plain Num = (refl, refl)
column_kind_plain Text = (refl, refl)

edge_kind_plain : (kind : EdgeKind) → IsPlain (edge_kind_word kind)
edge_kind_plain edge_kinds.Hash = (refl, refl)
edge_kind_plain edge_kinds.Ordered = (refl, refl)
edge_kind_plain edge_kinds.List = (refl, refl)
edge_kind_plain edge_kinds.Singleton = (refl, refl)

-- the name of an item, and the name with a number
own_plain : {X : Type 0} (name_of : X → List ℕ) (items : List X) (x : X) → AreNames (map name_of items)
    → In x items → IsPlain (name_of x)
own_plain name_of items x names here =
    plain_name (name_of x) (names.each (name_of x) (map_in name_of x items here))

other_plain : {X : Type 0} (name_of : X → List ℕ) (items : List X) (n : ℕ) → AreNames (map name_of items)
    → n < length items → IsPlain (name_at (map name_of items) n)
other_plain name_of items n names below =
    let here : In (name_at (map name_of items) n) (map name_of items) =
    get_or_in (map name_of items) n [] (below_map name_of items n below) in
    plain_name (name_at (map name_of items) n) (names.each (name_at (map name_of items) n) here)

some_names : (names : List (List ℕ)) (ns : List ℕ) → (ns ≡ [] → ⊥) → 0 < length (names_at names ns)
some_names names [] some = absurd (some refl)
some_names names (n ∷ ns) some = omega arith

asked_plain : (pattern ranges : List (List ℕ)) → ArePlain pattern → ArePlain ranges
    → ArePlain (asked_words pattern ranges)
asked_plain pattern [] plain others = plain
asked_plain pattern (word ∷ words) plain others =
    plain_append pattern (codes ":" ∷ word ∷ words) plain ((refl, refl), others)

asked_lack_arrow : (pattern ranges : List (List ℕ)) → LackArrow pattern → LackArrow ranges
    → LackArrow (asked_words pattern ranges)
asked_lack_arrow pattern [] lack others = lack
asked_lack_arrow pattern (word ∷ words) lack others =
    list_any-append is_arrow pattern (codes ":" ∷ word ∷ words) ∙ neither _ _ lack others

may_ask : (version : Version) (spec : Spec) (pattern : List (List ℕ)) (ranges : List ℕ) → KeepsRanges version ranges
    → LackColon pattern → MayAsk version pattern (column_names_at spec ranges)
may_ask One spec pattern ranges none lack = ap (column_names_at spec) none
may_ask Two spec pattern ranges none lack = lack

item : (version : Version) (form : FormText) → HasForm version (words_of_form version form) form
    → ArePlain (words_of_form version form) → is_end form ≡ false → IsItemLine version form
item version form has_form plain goes_on = record {
  can_be_line = record { has_form = has_form; plain = plain };
  goes_on = goes_on;
}

module _ (version : Version) (spec : Spec) (can : CanBeWritten spec) (keeps : KeepsVersion version spec) where
  column_written : (x : Column) → In x spec.columns → IsItemLine version (column_form_of x)
  column_written x here =
      let name = own_plain (λ (column : Column). column.name) spec.columns x can.well_named.columns here in
      item version (column_form_of x) refl ((refl, refl), (name, (column_kind_plain x.kind, tt))) refl

  dependency_written : (x : Dep) → In x spec.deps → IsItemLine version (dependency_form_of spec x)
  dependency_written x here =
      let among = can.in_range.known_deps x here in
      let lacks_left = list_lacks_arrow spec can x.left among.left.below in
      let lacks_right = list_lacks_arrow spec can x.right among.right.below in
      let left = list_plain spec can x.left among.left.below in
      let right = list_plain spec can x.right among.right.below in
      let lists = plain_append (column_names_at spec x.left) _ left ((refl, refl), right) in
      item version (dependency_form_of spec x) (refl, lacks_left, lacks_right, some_names _ x.right among.has_right) ((refl, refl), lists) refl

  node_written : (x : Node) → In x spec.nodes → IsItemLine version (node_form_of spec x)
  node_written x here =
      let name = own_plain (λ (node : Node). node.name) spec.nodes x can.well_named.nodes here in
      let columns = list_plain spec can x.cols (can.in_range.known_nodes x here).below in
      item version (node_form_of spec x) refl ((refl, refl), (name, columns)) refl

  edge_written : (x : Edge) → In x spec.edges → IsItemLine version (edge_form_of spec x)
  edge_written x here =
      let among = can.in_range.known_edges x here in
      let name = own_plain (λ (edge : Edge). edge.name) spec.edges x can.well_named.edges here in
      let from = other_plain (λ (node : Node). node.name) spec.nodes x.from can.well_named.nodes among.from in
      let to = other_plain (λ (node : Node). node.name) spec.nodes x.to can.well_named.nodes among.to in
      let key = list_plain spec can x.key among.key.below in
      item version (edge_form_of spec x) refl ((refl, refl), (name, (from, (to, (edge_kind_plain x.kind, key))))) refl

  class_written : (x : Class) → In x spec.classes → IsItemLine version (class_form_of spec x)
  class_written x here =
      let few = can.limits.stripes x here in
      let large : 65536 ≤ 2 ^ 64 = lit≤ tt in
      let digits = is_number-decimal x.stripes (omega (arith, large, few)) in
      let name = own_plain (λ (class : Class). class.name) spec.classes x can.well_named.classes here in
      let number = plain-number (decimal x.stripes) digits in
      let columns = list_plain spec can x.cols (can.in_range.known_classes x here).below in
      item version (class_form_of spec x) (decimal x.stripes, refl, digits, stripes_read-decimal x.stripes few)
      ((refl, refl), (name, (number, columns))) refl

  place_written : (x : Place) → In x spec.places → IsItemLine version (place_form_of spec x)
  place_written x here =
      let among = can.in_range.known_places x here in
      let edge = other_plain (λ (e : Edge). e.name) spec.edges x.edge can.well_named.edges among.edge in
      let class = other_plain (λ (c : Class). c.name) spec.classes x.class can.well_named.classes among.class in
      item version (place_form_of spec x) refl ((refl, refl), (edge, (class, tt))) refl

  operation_written_by : (name pattern : List ℕ) (kind : OpKind) → IsPlain name
      → AreBelow (length spec.columns) pattern → HasOutsAmong (length spec.columns) kind
      → AreBelow (length spec.columns) (range_columns kind) → IsKindOf version kind
      → IsItemLine version (operation_form_by spec name pattern kind)
  operation_written_by name pattern (kinds.Query outs ranges) plain below outs_below ranges_below is_kind =
      let words = column_names_at spec pattern in
      let others = column_names_at spec ranges in
      let lacks_asked = asked_lack_arrow words others (list_lacks_arrow spec can pattern below)
      (list_lacks_arrow spec can ranges ranges_below) in
      let lacks_outs = list_lacks_arrow spec can outs outs_below in
      let may = may_ask version spec words ranges is_kind (list_lacks_colon spec can pattern below) in
      let asked = asked_plain words others (list_plain spec can pattern below) (list_plain spec can ranges ranges_below) in
      let answers = list_plain spec can outs outs_below in
      let lists = plain_append (asked_words words others) _ asked ((refl, refl), answers) in
      item version (operation_form_by spec name pattern (kinds.Query outs ranges)) (refl, may, lacks_asked, lacks_outs)
      ((refl, refl), (plain, ((refl, refl), lists))) refl
  operation_written_by name pattern kinds.Insert plain below outs_below ranges_below is_kind =
      let columns = list_plain spec can pattern below in
      item version (operation_form_by spec name pattern kinds.Insert) refl ((refl, refl), (plain, ((refl, refl), columns)))
      refl
  operation_written_by name pattern kinds.Remove plain below outs_below ranges_below is_kind =
      let columns = list_plain spec can pattern below in
      item version (operation_form_by spec name pattern kinds.Remove) refl ((refl, refl), (plain, ((refl, refl), columns)))
      refl
  operation_written_by name pattern kinds.Update plain below outs_below ranges_below is_kind =
      let columns = list_plain spec can pattern below in
      item version (operation_form_by spec name pattern kinds.Update) (refl, is_kind)
      ((refl, refl), (plain, ((refl, refl), columns))) refl

  operation_written : (x : Op) → In x spec.ops → IsItemLine version (operation_form_of spec x)
  operation_written x here =
      let among = can.in_range.known_ops x here in
      let name = own_plain (λ (op : Op). op.name) spec.ops x can.well_named.ops here in
      operation_written_by x.name x.pattern x.kind name among.pattern among.outs among.ranges (keeps.kinds x here)

  in_section : {X : Type 0} (form : X → FormText) (items : List X)
      → ((x : X) → In x items → IsItemLine version (form x)) → (f : FormText) → In f (map form items) → IsItemLine version f
  in_section form items each f m =
      let found = in_map form f items m in
      subst (IsItemLine version) (sym found.2) (each found.0 found.1)

  in_sections : (front others : List FormText) → ((f : FormText) → In f front → IsItemLine version f)
      → ((f : FormText) → In f others → IsItemLine version f) → (f : FormText) → In f (front ++ others) → IsItemLine version f
  in_sections front others first second f m =
      elim (in_append f front others m) [ inl here ↦ first f here | inr later ↦ second f later ]

  -- each line between the header and `end`
  pub items_written : (f : FormText) → In f (item_forms spec) → IsItemLine version f
  items_written =
      in_sections _ _ (in_section column_form_of spec.columns column_written)
      (in_sections _ _ (in_section (dependency_form_of spec) spec.deps dependency_written)
      (in_sections _ _ (in_section (node_form_of spec) spec.nodes node_written)
      (in_sections _ _ (in_section (edge_form_of spec) spec.edges edge_written)
      (in_sections _ _ (in_section (class_form_of spec) spec.classes class_written)
      (in_sections _ _ (in_section (place_form_of spec) spec.places place_written)
      (in_section (operation_form_of spec) spec.ops operation_written))))))

-- lines of plain words are read again where they are printed
printable_lines : (version : Version) (forms : List FormText)
    → ((f : FormText) → In f forms → ArePlain (words_of_form version f))
    → AllByRecursion IsPrintable (map (written_line version) forms)
printable_lines version [] each = tt
printable_lines version (form ∷ forms) each =
    (line_printable version form (each form (inl refl)), printable_lines version forms (λ f m. each f (inr m)))

pub header_plain : (version : Version) → ArePlain (words_of_form version header_line)
header_plain One = ((refl, refl), ((refl, refl), tt))
header_plain Two = ((refl, refl), ((refl, refl), tt))

pub end_written : (version : Version) → CanBeLine version end_line
end_written version = record { has_form = refl; plain = ((refl, refl), tt) }

items_and_end : (version : Version) (spec : Spec) → CanBeWritten spec → KeepsVersion version spec → (f : FormText)
    → In f (item_forms spec ++ end_line ∷ []) → ArePlain (words_of_form version f)
items_and_end version spec can keeps f m = elim (in_append f (item_forms spec) (end_line ∷ []) m) [
  | inl here ↦ (items_written version spec can keeps f here).can_be_line.plain
  | inr (inl same) ↦ subst (λ g. ArePlain (words_of_form version g)) (sym same) (end_written version).plain
  | inr (inr none) ↦ absurd none
]

pub spec_lines_printable : (version : Version) (spec : Spec) → CanBeWritten spec → KeepsVersion version spec
    → AllByRecursion IsPrintable (spec_lines version spec)
spec_lines_printable version spec can keeps = (
  line_printable version header_line (header_plain version),
  printable_lines version (item_forms spec ++ end_line ∷ [])
      (items_and_end version spec can keeps),
)
