-- The lines of a specification that can be written are taken one after another, section by section.
use Rattle.std.proofs.Common.{◌≡◌, ℕ, ◌<◌, ◌≤◌, Bool, true, false, not, eqb, ◌||◌, leb, List, [], ◌∷◌, ◌++◌, length, map, refl, sym, ap, ◌∙◌, subst, inl, arith}
use Rattle.rc_text_laws.specs.Imports.{unwrap_or, nat_cmp, inter, In, AreDistinct, gather, append_in_right, distinct_left, Dep, Column, Node, Edge, Class, Place, Op, OpKind, Spec, AreBelow, IsSetBelow, HasOutsAmong, column_names, node_names, edge_names, class_names, op_names, is_name, AreNames, range_columns, empty, distinct_right, distinct_apart, test_from_apart, KeepsVersion, Version, FormText, is_refused_name, lacks, repeats, share, set_named, number_named, IsSpecLineTaken}
use Rattle.std.proofs.lemmas.Bool.{leb-true}
use Rattle.std.proofs.lemmas.List.{length-append, length-map, append_assoc, append-nil}
use Rattle.rc_spec.specs.declared.items.OpKind.TheVariants as kinds
use Rattle.rc_reader.specs.Rules.{columns_named}
use Rattle.rc_text_laws.specs.Written.{LackArrow, LackColon, ArePlain, name_at, column_names_at, column_form_of, dependency_form_of, node_form_of, edge_form_of, class_form_of, place_form_of, operation_form_by, operation_form_of, item_forms, CanBeWritten}
use Rattle.rc_text_laws.specs.NumberedLaws.{number_of_name, known_name, numbers_of_names, known_names, not_twice, distinct_rising, set_of_names, new_name, names_at_each}
use Rattle.rc_text_laws.specs.WordsLaws.{plain_names, names_lack_arrow, names_lack_colon}

-- forms of lines that are taken one after another, from this specification to the next
abbrev pub AreFormsTaken : Version → Spec → List FormText → Spec → Type 0
AreFormsTaken version spec [] next = spec ≡ next
AreFormsTaken version spec (form ∷ forms) next =
    (between : Spec) × IsSpecLineTaken version spec form between × AreFormsTaken version between forms next

module _ (version : Version) where
  pub taken_append : (spec between next : Spec) (front others : List FormText)
      → AreFormsTaken version spec front between → AreFormsTaken version between others next
      → AreFormsTaken version spec (front ++ others) next
  taken_append spec between next [] others first second =
      subst (λ (s : Spec). AreFormsTaken version s others next) (sym first) second
  taken_append spec between next (form ∷ front) others (step, taken, first) second =
      (step, taken, taken_append step between next front others first second)

  -- a section: each of its items is taken behind those before it
  section_taken : {X : Type 0} (make : List X → Spec) (form : X → FormText) (items : List X)
      → ((front : List X) (x : X) (others : List X) → front ++ x ∷ others ≡ items
      → IsSpecLineTaken version (make front) (form x) (make (front ++ x ∷ [])))
      → (front others : List X) → front ++ others ≡ items
      → AreFormsTaken version (make front) (map form others) (make items)
  section_taken make form items step front [] e = ap make (sym (append-nil front) ∙ e)
  section_taken make form items step front (x ∷ others) e = (
    make (front ++ x ∷ []),
    step front x others e,
    section_taken make form items step (front ++ x ∷ [])
        others (append_assoc front (x ∷ []) others ∙ e),
  )

-- ---- what the items so far make

abbrev with_rows : ℕ → Spec
with_rows rows = record {
  columns = [];
  deps = [];
  nodes = [];
  edges = [];
  classes = [];
  places = [];
  ops = [];
  most_rows = rows;
}

abbrev with_columns : Spec → List Column → Spec
with_columns spec columns = record {
  columns = columns;
  deps = [];
  nodes = [];
  edges = [];
  classes = [];
  places = [];
  ops = [];
  most_rows = spec.most_rows;
}

abbrev with_deps : Spec → List Dep → Spec
with_deps spec deps = record {
  columns = spec.columns;
  deps = deps;
  nodes = [];
  edges = [];
  classes = [];
  places = [];
  ops = [];
  most_rows = spec.most_rows;
}

abbrev with_nodes : Spec → List Node → Spec
with_nodes spec nodes = record {
  columns = spec.columns;
  deps = spec.deps;
  nodes = nodes;
  edges = [];
  classes = [];
  places = [];
  ops = [];
  most_rows = spec.most_rows;
}

abbrev with_edges : Spec → List Edge → Spec
with_edges spec edges = record {
  columns = spec.columns;
  deps = spec.deps;
  nodes = spec.nodes;
  edges = edges;
  classes = [];
  places = [];
  ops = [];
  most_rows = spec.most_rows;
}

abbrev with_classes : Spec → List Class → Spec
with_classes spec classes = record {
  columns = spec.columns;
  deps = spec.deps;
  nodes = spec.nodes;
  edges = spec.edges;
  classes = classes;
  places = [];
  ops = [];
  most_rows = spec.most_rows;
}

abbrev with_places : Spec → List Place → Spec
with_places spec places = record {
  columns = spec.columns;
  deps = spec.deps;
  nodes = spec.nodes;
  edges = spec.edges;
  classes = spec.classes;
  places = places;
  ops = [];
  most_rows = spec.most_rows;
}

abbrev with_ops : Spec → List Op → Spec
with_ops spec ops = record {
  columns = spec.columns;
  deps = spec.deps;
  nodes = spec.nodes;
  edges = spec.edges;
  classes = spec.classes;
  places = spec.places;
  ops = ops;
  most_rows = spec.most_rows;
}

-- ---- tests

pub neither : (a b : Bool) → a ≡ false → b ≡ false → (a || b) ≡ false
neither a b at_a at_b = ap (λ v. v || b) at_a ∙ at_b

not_full : (limit n : ℕ) → n < limit → leb limit n ≡ false
not_full limit n less =
    elim (leb limit n) as (λ v. leb limit n ≡ v → v ≡ false)
    [ true ↦ λ e. absurd (let full = leb-true limit n e in omega arith) | false ↦ λ _. refl ] refl

fits : {X : Type 0} (limit : ℕ) (items front : List X) (x : X) (others : List X) → front ++ x ∷ others ≡ items
    → length items ≤ limit → leb limit (length front) ≡ false
fits limit items front x others e few =
    not_full limit (length front) (omega (arith, ap length e, length-append front (x ∷ others), few))

stands : {X : Type 0} (items front : List X) (x : X) (others : List X) → front ++ x ∷ others ≡ items
    → In x items
stands items front x others e = subst (In x) e (append_in_right x front (x ∷ others) (inl refl))

is_new : {X : Type 0} (name_of : X → List ℕ) (items front : List X) (x : X) (others : List X)
    → front ++ x ∷ others ≡ items → AreNames (map name_of items)
    → is_refused_name (map name_of front) (name_of x) ≡ false
is_new name_of items front x others e names =
    new_name name_of front x others (subst (λ xs. AreNames (map name_of xs)) (sym e) names)

pub below_map : {X : Type 0} (name_of : X → List ℕ) (items : List X) (n : ℕ) → n < length items
    → n < length (map name_of items)
below_map name_of items n below = omega (arith, below, length-map items name_of)

module _ (spec : Spec) (can : CanBeWritten spec) where
  -- ---- lists of columns

  columns_below : (ns : List ℕ) → AreBelow (length spec.columns) ns
      → AreBelow (length (column_names spec.columns)) ns
  columns_below ns below n m = below_map (λ (column : Column). column.name) spec.columns n (below n m)

  once : AreDistinct (column_names spec.columns)
  once = can.well_named.columns.distinct

  list_known : (ns : List ℕ) → AreBelow (length spec.columns) ns → lacks spec (column_names_at spec ns) ≡ false
  list_known ns below = known_names (column_names spec.columns) ns once (columns_below ns below)

  list_once : (ns : List ℕ) → AreBelow (length spec.columns) ns → AreDistinct ns
      → repeats spec (column_names_at spec ns) ≡ false
  list_once ns below distinct = not_twice (column_names spec.columns) ns once (columns_below ns below) distinct

  list_is : (ns : List ℕ) → AreBelow (length spec.columns) ns
      → columns_named spec (column_names_at spec ns) ≡ ns
  list_is ns below = numbers_of_names (column_names spec.columns) ns once (columns_below ns below)

  set_once : (ns : List ℕ) → IsSetBelow (length spec.columns) ns
      → repeats spec (column_names_at spec ns) ≡ false
  set_once ns set = list_once ns set.below (distinct_rising ns set.set.rising)

  set_is : (ns : List ℕ) → IsSetBelow (length spec.columns) ns → set_named spec (column_names_at spec ns) ≡ ns
  set_is ns set = set_of_names (column_names spec.columns) ns once (columns_below ns set.below) set.set.rising

  list_names : (ns : List ℕ) → AreBelow (length spec.columns) ns → (name : List ℕ)
      → In name (column_names_at spec ns) → is_name name ≡ true
  list_names ns below = names_at_each (column_names spec.columns) ns can.well_named.columns.each
      (columns_below ns below)

  pub list_plain : (ns : List ℕ) → AreBelow (length spec.columns) ns → ArePlain (column_names_at spec ns)
  list_plain ns below = plain_names (column_names_at spec ns) (list_names ns below)

  pub list_lacks_arrow : (ns : List ℕ) → AreBelow (length spec.columns) ns → LackArrow (column_names_at spec ns)
  list_lacks_arrow ns below = names_lack_arrow (column_names_at spec ns) (list_names ns below)

  pub list_lacks_colon : (ns : List ℕ) → AreBelow (length spec.columns) ns → LackColon (column_names_at spec ns)
  list_lacks_colon ns below = names_lack_colon (column_names_at spec ns) (list_names ns below)

  -- lists that name nothing together
  lists_apart : (ns ms : List ℕ) → AreBelow (length spec.columns) ns → AreBelow (length spec.columns) ms
      → AreDistinct (ns ++ ms) → share spec (column_names_at spec ns) (column_names_at spec ms) ≡ false
  lists_apart ns ms below others_below distinct =
      ap (λ found. not (eqb (length (inter (gather nat_cmp found)
      (gather nat_cmp (columns_named spec (column_names_at spec ms))))) 0)) (list_is ns below)
      ∙ ap (λ found. not (eqb (length (inter (gather nat_cmp ns) (gather nat_cmp found))) 0)) (list_is ms others_below)
      ∙ test_from_apart ns ms (distinct_apart ns ms distinct)

module _ (version : Version) (spec : Spec) (can : CanBeWritten spec) (keeps : KeepsVersion version spec) where
  -- ---- each line is taken

  column_taken : (front : List Column) (x : Column) (others : List Column)
      → front ++ x ∷ others ≡ spec.columns
      → IsSpecLineTaken version (with_columns spec front) (column_form_of x) (with_columns spec (front ++ x ∷ []))
  column_taken front x others e = record {
    names = is_new (λ (column : Column). column.name) spec.columns front x others e can.well_named.columns;
    known = refl;
    range = refl;
    limit = fits _ spec.columns front x others e keeps.columns;
    order = refl;
    value = refl;
  }

  dependency_taken : (front : List Dep) (x : Dep) (others : List Dep) → front ++ x ∷ others ≡ spec.deps
      → IsSpecLineTaken version (with_deps spec front) (dependency_form_of spec x) (with_deps spec (front ++ x ∷ []))
  dependency_taken front x others e =
      let among = can.in_range.known_deps x (stands spec.deps front x others e) in
      record {
        names = neither _ _ (set_once spec can x.left among.left) (set_once spec can x.right among.right);
        known = neither _ _ (list_known spec can x.left among.left.below) (list_known spec can x.right among.right.below);
        range = refl;
        limit = fits _ spec.deps front x others e can.in_range.deps;
        order = refl;
        value =
            ap (λ left. with_deps spec (front
            ++ record { left = left; right = set_named spec (column_names_at spec x.right) } ∷ []))
            (set_is spec can x.left among.left)
            ∙ ap (λ right. with_deps spec (front ++ record { left = x.left; right = right } ∷ []))
            (set_is spec can x.right among.right);
      }

  node_taken : (front : List Node) (x : Node) (others : List Node) → front ++ x ∷ others ≡ spec.nodes
      → IsSpecLineTaken version (with_nodes spec front) (node_form_of spec x) (with_nodes spec (front ++ x ∷ []))
  node_taken front x others e =
      let set = can.in_range.known_nodes x (stands spec.nodes front x others e) in
      record {
        names = neither _ _ (is_new (λ (node : Node). node.name) spec.nodes front x others e
            can.well_named.nodes) (set_once spec can x.cols set);
        known = list_known spec can x.cols set.below;
        range = refl;
        limit = fits _ spec.nodes front x others e can.in_range.nodes;
        order = refl;
        value = ap (λ cols. with_nodes spec (front ++ record { name = x.name; cols = cols } ∷ []))
            (set_is spec can x.cols set);
      }

  number_is : (names : List (List ℕ)) (n : ℕ) → AreDistinct names → n < length names
      → number_named names (name_at names n) ≡ n
  number_is names n distinct within = ap (λ found. unwrap_or found 0) (number_of_name names n distinct within)

  edge_taken : (front : List Edge) (x : Edge) (others : List Edge) → front ++ x ∷ others ≡ spec.edges
      → IsSpecLineTaken version (with_edges spec front) (edge_form_of spec x) (with_edges spec (front ++ x ∷ []))
  edge_taken front x others e =
      let among = can.in_range.known_edges x (stands spec.edges front x others e) in
      let nodes = node_names spec.nodes in
      let distinct = can.well_named.nodes.distinct in
      let from = below_map (λ (node : Node). node.name) spec.nodes x.from among.from in
      let to = below_map (λ (node : Node). node.name) spec.nodes x.to among.to in
      record {
        names = neither _ _ (is_new (λ (edge : Edge). edge.name) spec.edges front x others e
            can.well_named.edges) (set_once spec can x.key among.key);
        known = neither _ _ (neither _ _ (known_name nodes x.from distinct from)
            (known_name nodes x.to distinct to)) (list_known spec can x.key among.key.below);
        range = refl;
        limit = fits _ spec.edges front x others e can.in_range.edges;
        order = refl;
        value =
            ap (λ n. with_edges spec (front
            ++ record {
              name = x.name;
              from = n;
              to = number_named nodes (name_at nodes x.to);
              kind = x.kind;
              key = set_named spec (column_names_at spec x.key);
            } ∷ []))
            (number_is nodes x.from distinct from)
            ∙ ap (λ n. with_edges spec (front
            ++ record {
              name = x.name;
              from = x.from;
              to = n;
              kind = x.kind;
              key = set_named spec (column_names_at spec x.key);
            } ∷ [])) (number_is nodes x.to distinct to)
            ∙ ap (λ key. with_edges spec (front
            ++ record { name = x.name; from = x.from; to = x.to; kind = x.kind; key = key } ∷ []))
            (set_is spec can x.key among.key);
      }

  class_taken : (front : List Class) (x : Class) (others : List Class) → front ++ x ∷ others ≡ spec.classes
      → IsSpecLineTaken version (with_classes spec front) (class_form_of spec x) (with_classes spec (front ++ x ∷ []))
  class_taken front x others e =
      let set = can.in_range.known_classes x (stands spec.classes front x others e) in
      record {
        names = neither _ _ (is_new (λ (class : Class). class.name) spec.classes front x others e
            can.well_named.classes) (set_once spec can x.cols set);
        known = list_known spec can x.cols set.below;
        range = refl;
        limit = fits _ spec.classes front x others e can.in_range.classes;
        order = refl;
        value = ap (λ cols. with_classes spec
            (front ++ record { name = x.name; stripes = x.stripes; cols = cols } ∷ [])) (set_is spec can x.cols set);
      }

  place_taken : (front : List Place) (x : Place) (others : List Place) → front ++ x ∷ others ≡ spec.places
      → IsSpecLineTaken version (with_places spec front) (place_form_of spec x) (with_places spec (front ++ x ∷ []))
  place_taken front x others e =
      let among = can.in_range.known_places x (stands spec.places front x others e) in
      let edges = edge_names spec.edges in
      let classes = class_names spec.classes in
      let edge = below_map (λ (edge : Edge). edge.name) spec.edges x.edge among.edge in
      let class = below_map (λ (class : Class). class.name) spec.classes x.class among.class in
      record {
        names = refl;
        known = neither _ _ (known_name edges x.edge can.well_named.edges.distinct edge)
            (known_name classes x.class can.well_named.classes.distinct class);
        range = refl;
        limit = fits _ spec.places front x others e can.in_range.places;
        order = refl;
        value =
            ap (λ n. with_places spec (front
            ++ record { edge = n; class = number_named classes (name_at classes x.class) } ∷ []))
            (number_is edges x.edge can.well_named.edges.distinct edge)
            ∙ ap (λ n. with_places spec (front ++ record { edge = x.edge; class = n } ∷ []))
            (number_is classes x.class can.well_named.classes.distinct class);
      }

  operation_taken_by : (front : List Op) (name pattern : List ℕ) (kind : OpKind)
      → is_refused_name (op_names front) name ≡ false → AreBelow (length spec.columns) pattern
      → AreDistinct (pattern ++ range_columns kind) → HasOutsAmong (length spec.columns) kind
      → AreBelow (length spec.columns) (range_columns kind) → leb 32 (length front) ≡ false
      → IsSpecLineTaken version (with_ops spec front) (operation_form_by spec name pattern kind)
      (with_ops spec (front ++ record { name = name; pattern = pattern; kind = kind } ∷ []))
  operation_taken_by front name pattern (kinds.Query outs ranges) new below distinct outs_below ranges_below few = record {
    names =
        neither _ _ new
        (neither _ _
        (neither _ _ (list_once spec can pattern below (distinct_left pattern ranges distinct))
        (list_once spec can ranges ranges_below (distinct_right pattern ranges distinct)))
        (lists_apart spec can pattern ranges below ranges_below distinct));
    known =
        neither _ _ (neither _ _ (list_known spec can pattern below) (list_known spec can ranges ranges_below))
        (list_known spec can outs outs_below);
    range = refl;
    limit = few;
    order = refl;
    value =
        ap (λ ns. with_ops spec (front ++ record {
          name = name;
          pattern = ns;
          kind =
              kinds.Query (columns_named spec (column_names_at spec outs))
              (columns_named spec (column_names_at spec ranges));
        } ∷ [])) (list_is spec can pattern below)
        ∙ ap (λ ns. with_ops spec (front ++ record {
          name = name;
          pattern = pattern;
          kind = kinds.Query ns (columns_named spec (column_names_at spec ranges));
        } ∷ [])) (list_is spec can outs outs_below)
        ∙ ap (λ ns. with_ops spec (front ++ record { name = name; pattern = pattern; kind = kinds.Query outs ns }
        ∷ [])) (list_is spec can ranges ranges_below);
  }
  operation_taken_by front name pattern kinds.Insert new below distinct outs_below ranges_below few = record {
    names = neither _ _ new (list_once spec can pattern below (distinct_left pattern [] distinct));
    known = list_known spec can pattern below;
    range = refl;
    limit = few;
    order = refl;
    value = ap (λ ns. with_ops spec
        (front ++ record { name = name; pattern = ns; kind = kinds.Insert } ∷ [])) (list_is spec can pattern below);
  }
  operation_taken_by front name pattern kinds.Remove new below distinct outs_below ranges_below few = record {
    names = neither _ _ new (list_once spec can pattern below (distinct_left pattern [] distinct));
    known = list_known spec can pattern below;
    range = refl;
    limit = few;
    order = refl;
    value = ap (λ ns. with_ops spec
        (front ++ record { name = name; pattern = ns; kind = kinds.Remove } ∷ [])) (list_is spec can pattern below);
  }
  operation_taken_by front name pattern kinds.Update new below distinct outs_below ranges_below few = record {
    names = neither _ _ new (list_once spec can pattern below (distinct_left pattern [] distinct));
    known = list_known spec can pattern below;
    range = refl;
    limit = few;
    order = refl;
    value = ap (λ ns. with_ops spec
        (front ++ record { name = name; pattern = ns; kind = kinds.Update } ∷ [])) (list_is spec can pattern below);
  }

  operation_taken : (front : List Op) (x : Op) (others : List Op) → front ++ x ∷ others ≡ spec.ops
      → IsSpecLineTaken version (with_ops spec front) (operation_form_of spec x) (with_ops spec (front ++ x ∷ []))
  operation_taken front x others e =
      let here = stands spec.ops front x others e in
      let among = can.in_range.known_ops x here in
      operation_taken_by front x.name x.pattern x.kind
      (is_new (λ (op : Op). op.name) spec.ops front x others e can.well_named.ops)
      among.pattern (can.well_named.patterns x here) among.outs among.ranges
      (fits _ spec.ops front x others e can.limits.ops)

  -- no text sets how many rows a reply has
  rows_at_first : empty ≡ with_columns spec []
  rows_at_first = ap (λ rows. with_rows rows) (sym can.limits.rows)

  -- all items are taken
  pub items_taken : AreFormsTaken version empty (item_forms spec) spec
  items_taken =
      subst (λ (s : Spec). AreFormsTaken version s (item_forms spec) spec) (sym rows_at_first)
      (taken_append version _ (with_deps spec []) _ _ _
      (section_taken version (with_columns spec) column_form_of spec.columns column_taken [] spec.columns refl)
      (taken_append version _ (with_nodes spec []) _ _ _
      (section_taken version (with_deps spec) (dependency_form_of spec) spec.deps dependency_taken [] spec.deps
      refl)
      (taken_append version _ (with_edges spec []) _ _ _
      (section_taken version (with_nodes spec) (node_form_of spec) spec.nodes node_taken [] spec.nodes refl)
      (taken_append version _ (with_classes spec []) _ _ _
      (section_taken version (with_edges spec) (edge_form_of spec) spec.edges edge_taken [] spec.edges refl)
      (taken_append version _ (with_places spec []) _ _ _
      (section_taken version (with_classes spec) (class_form_of spec) spec.classes class_taken [] spec.classes refl)
      (taken_append version _ (with_ops spec []) _ _ _
      (section_taken version (with_places spec) (place_form_of spec) spec.places place_taken [] spec.places refl)
      (section_taken version (with_ops spec) (operation_form_of spec) spec.ops operation_taken [] spec.ops refl)))))))
