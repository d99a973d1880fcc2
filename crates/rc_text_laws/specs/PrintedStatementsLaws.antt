-- A statement that is printed is read again.
use Rattle.std.proofs.Common.{◌≡◌, ℕ, ◌<◌, ◌≤◌, List, [], ◌∷◌, ◌++◌, length, map, Option, Some, Ok, refl, sym, ap, ◌∙◌, subst, arith, append_assoc, append-nil, codes}
use Rattle.std.specs.Prelude.{decimal}
use Rattle.rc_text_laws.specs.Imports.{flat_map, option_map, option_and_then, ok_or, nat_cmp, in_range_bounds, In, IsRising, get_or_in, map_in, u64_of, is_number-decimal, u64_of-decimal, plain-number, IsPlain, Class, Column, Edge, Mode, Shared, Exclusive, Spec, all_columns, no_edge, edge_at, IsInRange, AreBelow, column_names, edge_names, class_names, IsWellNamed, no_class, class_at, no_column, plain_words_of, number_among, Lookup, Scan, Statement, Lock, Probe, Read, CheckAbsent, CheckFound, CheckDep, Apply, Emit, Commit, Release, IsKnown, column_text, statement_text, H3, words_of_form, statement_by, statement_in, BeginsOtherwise, start_is_first, columns_named, statement_of, column_name, form_of_statement, HasSet}
use Rattle.std.proofs.Math.ListN.{get_or-map}
use Rattle.std.proofs.lemmas.Bool.{le-leb}
use Rattle.std.proofs.lemmas.List.{length-map}
use Rattle.rc_plan.specs.declared.statement.Which.TheVariants as which
use Rattle.rc_handplan.specs.Forms.{form_of}
use Rattle.rc_handplan.specs.Statements.{dependency_by}
use Rattle.rc_text_laws.specs.NumberedLaws.{number_of_name, known_names, not_twice, distinct_rising, set_of_names, names_at_each}
use Rattle.rc_text_laws.specs.WordsLaws.{plain_name, plain_names, line_is_read}
use Rattle.rc_text_laws.specs.Written.{ArePlain, line_of, name_at, names_at}

-- ---- the text of a statement is the line of its form's words

spaced : (spec : Spec) (word : List ℕ) (cols : List ℕ)
    → word ++ flat_map (column_text spec) cols ≡ line_of (word ∷ map (column_name spec) cols)
spaced spec word [] = append-nil word
spaced spec word (c ∷ cols) =
    ap (λ (rest : List ℕ). word ++ 32 ∷ rest) (spaced spec (column_name spec c) cols)

-- the name of a class with the words behind it
behind_class : (spec : Spec) (c : ℕ) (front back : List ℕ)
    → codes "lock " ++ (class_at spec c).name ++ front ++ back
    ≡ codes "lock " ++ ((class_at spec c).name ++ (front ++ back))
behind_class spec c front back =
    ap (λ (rest : List ℕ). codes "lock " ++ rest) (append_assoc (class_at spec c).name front back)

keyed_line : (spec : Spec) (c : ℕ) (mode : Mode) → statement_text spec (Lock c which.Keyed mode)
    ≡ line_of (words_of_form (form_of_statement spec (Lock c which.Keyed mode)))
keyed_line spec c Shared = behind_class spec c (codes " keyed") (codes " shared")
keyed_line spec c Exclusive = behind_class spec c (codes " keyed") (codes "")

all_line : (spec : Spec) (c : ℕ) (mode : Mode) → statement_text spec (Lock c which.All mode)
    ≡ line_of (words_of_form (form_of_statement spec (Lock c which.All mode)))
all_line spec c Shared = behind_class spec c (codes " all") (codes " shared")
all_line spec c Exclusive = behind_class spec c (codes " all") (codes "")

pub text_is_line : (spec : Spec) (x : Statement)
    → statement_text spec x ≡ line_of (words_of_form (form_of_statement spec x))
text_is_line spec (Lock c which.Keyed mode) = keyed_line spec c mode
text_is_line spec (Lock c which.All mode) = all_line spec c mode
text_is_line spec (Probe cols) = spaced spec (codes "probe") cols
text_is_line spec (Read e Lookup) = refl
text_is_line spec (Read e Scan) = refl
text_is_line spec CheckAbsent = refl
text_is_line spec CheckFound = refl
text_is_line spec (CheckDep dep) = refl
text_is_line spec Apply = refl
text_is_line spec Emit = refl
text_is_line spec Commit = refl
text_is_line spec (Release c) = refl

-- ---- the words have the form

pub form_again : (spec : Spec) (x : Statement) → IsInRange spec → IsKnown spec x
    → form_of (words_of_form (form_of_statement spec x)) ≡ Some (form_of_statement spec x)
unfolding form_of
form_again spec (Lock c which.Keyed Shared) range known = refl
form_again spec (Lock c which.Keyed Exclusive) range known = refl
form_again spec (Lock c which.All Shared) range known = refl
form_again spec (Lock c which.All Exclusive) range known = refl
form_again spec (Probe cols) range known = refl
form_again spec (Read e Lookup) range known = refl
form_again spec (Read e Scan) range known = refl
form_again spec CheckAbsent range known = refl
form_again spec CheckFound range known = refl
form_again spec (CheckDep dep) range known =
    rw (is_number-decimal dep (omega (arith, range.deps, known.1))) refl
form_again spec Apply range known = refl
form_again spec Emit range known = refl
form_again spec Commit range known = refl
form_again spec (Release c) range known = refl

-- ---- the form names the statement

class_name_at : (spec : Spec) (c : ℕ) → name_at (class_names spec.classes) c ≡ (class_at spec c).name
class_name_at spec c = get_or-map (λ (class : Class). class.name) spec.classes c no_class

edge_name_at : (spec : Spec) (e : ℕ) → name_at (edge_names spec.edges) e ≡ (edge_at spec e).name
edge_name_at spec e = get_or-map (λ (edge : Edge). edge.name) spec.edges e no_edge

column_name_at : (spec : Spec) (c : ℕ) → name_at (column_names spec.columns) c ≡ column_name spec c
column_name_at spec c = get_or-map (λ (column : Column). column.name) spec.columns c no_column

columns_at : (spec : Spec) (cols : List ℕ) → names_at (column_names spec.columns) cols ≡ map (column_name spec) cols
columns_at spec [] = refl
columns_at spec (c ∷ cols) =
    ap (λ (name : List ℕ). name ∷ names_at (column_names spec.columns) cols) (column_name_at spec c)
    ∙ ap (λ (names : List (List ℕ)). column_name spec c ∷ names) (columns_at spec cols)

count_classes : (spec : Spec) (c : ℕ) → c < length spec.classes → c < length (class_names spec.classes)
count_classes spec c below = omega (arith, length-map spec.classes (λ (class : Class). class.name))

count_edges : (spec : Spec) (e : ℕ) → e < length spec.edges → e < length (edge_names spec.edges)
count_edges spec e below = omega (arith, length-map spec.edges (λ (edge : Edge). edge.name))

columns_below : (spec : Spec) (cols : List ℕ) → ((c : ℕ) → In c cols → In c (all_columns spec))
    → AreBelow (length (column_names spec.columns)) cols
columns_below spec cols within c m =
    let bounds = in_range_bounds 0 (length spec.columns) c (within c m) in
    omega (arith, bounds.1, length-map spec.columns (λ (column : Column). column.name))

module _ (spec : Spec) (range : IsInRange spec) (named : IsWellNamed spec) where
  class_again : {X : Type 0} (f : ℕ → X) (c : ℕ) → c < length spec.classes
      → option_map f (number_among (class_names spec.classes) (class_at spec c).name) ≡ Some (f c)
  class_again f c below =
      ap (λ (name : List ℕ). option_map f (number_among (class_names spec.classes) name)) (sym (class_name_at spec c))
      ∙ ap (option_map f) (number_of_name (class_names spec.classes) c named.classes.distinct (count_classes spec c below))

  edge_again : {X : Type 0} (f : ℕ → X) (e : ℕ) → e < length spec.edges
      → option_map f (number_among (edge_names spec.edges) (edge_at spec e).name) ≡ Some (f e)
  edge_again f e below =
      ap (λ (name : List ℕ). option_map f (number_among (edge_names spec.edges) name)) (sym (edge_name_at spec e))
      ∙ ap (option_map f) (number_of_name (edge_names spec.edges) e named.edges.distinct (count_edges spec e below))

  columns_again : (cols : List ℕ) → ((c : ℕ) → In c cols → In c (all_columns spec)) → IsRising nat_cmp cols
      → columns_named spec (map (column_name spec) cols) ≡ Some cols
  columns_again cols within rising =
      let names = column_names spec.columns in
      let below = columns_below spec cols within in
      ap (columns_named spec) (sym (columns_at spec cols))
      ∙ rw (
        known_names names cols named.columns.distinct below,
        not_twice names cols named.columns.distinct below (distinct_rising cols rising),
        set_of_names names cols named.columns.distinct below rising,
      ) refl

  dependency_again : (dep : ℕ) → 0 < dep → dep ≤ length spec.deps
      → dependency_by (length spec.deps) (u64_of (decimal dep)) ≡ Some dep
  dependency_again dep some few =
      ap (dependency_by (length spec.deps)) (u64_of-decimal dep (omega (arith, range.deps)))
      ∙ rw (le-leb 1 dep some, le-leb dep (length spec.deps) few) refl

  pub statement_again : (x : Statement) → IsKnown spec x → HasSet x → statement_of spec (form_of_statement spec x) ≡ Some x
  statement_again (Lock c choice mode) known set = class_again (λ n. Lock n choice mode) c known
  statement_again (Probe cols) known set = ap (option_map Probe) (columns_again cols known set)
  statement_again (Read e mode) known set = edge_again (λ n. Read n mode) e known
  statement_again CheckAbsent known set = refl
  statement_again CheckFound known set = refl
  statement_again (CheckDep dep) known set = ap (option_map CheckDep) (dependency_again dep known.0 known.1)
  statement_again Apply known set = refl
  statement_again Emit known set = refl
  statement_again Commit known set = refl
  statement_again (Release c) known set = class_again Release c known

  -- ---- its words can be written plain

  plain_class : (c : ℕ) → c < length spec.classes → IsPlain (class_at spec c).name
  plain_class c below =
      plain_name (class_at spec c).name
      (named.classes.each (class_at spec c).name
      (map_in (λ (class : Class). class.name) (class_at spec c) spec.classes (get_or_in spec.classes c no_class below)))

  plain_edge : (e : ℕ) → e < length spec.edges → IsPlain (edge_at spec e).name
  plain_edge e below =
      plain_name (edge_at spec e).name
      (named.edges.each (edge_at spec e).name
      (map_in (λ (edge : Edge). edge.name) (edge_at spec e) spec.edges (get_or_in spec.edges e no_edge below)))

  plain_columns : (cols : List ℕ) → ((c : ℕ) → In c cols → In c (all_columns spec))
      → ArePlain (map (column_name spec) cols)
  plain_columns cols within =
      subst ArePlain (columns_at spec cols)
      (plain_names (names_at (column_names spec.columns) cols)
      (names_at_each (column_names spec.columns) cols named.columns.each (columns_below spec cols within)))

  pub plain_words : (x : Statement) → IsKnown spec x → ArePlain (words_of_form (form_of_statement spec x))
  plain_words (Lock c which.Keyed Shared) known = ((refl, refl), (plain_class c known, ((refl, refl), ((refl, refl), tt))))
  plain_words (Lock c which.Keyed Exclusive) known = ((refl, refl), (plain_class c known, ((refl, refl), tt)))
  plain_words (Lock c which.All Shared) known = ((refl, refl), (plain_class c known, ((refl, refl), ((refl, refl), tt))))
  plain_words (Lock c which.All Exclusive) known = ((refl, refl), (plain_class c known, ((refl, refl), tt)))
  plain_words (Probe cols) known = ((refl, refl), plain_columns cols known)
  plain_words (Read e Lookup) known = ((refl, refl), (plain_edge e known, ((refl, refl), tt)))
  plain_words (Read e Scan) known = ((refl, refl), (plain_edge e known, ((refl, refl), tt)))
  plain_words CheckAbsent known = ((refl, refl), tt)
  plain_words CheckFound known = ((refl, refl), tt)
  plain_words (CheckDep dep) known =
      ((refl, refl), (plain-number (decimal dep) (is_number-decimal dep (omega (arith, range.deps, known.1))), tt))
  plain_words Apply known = ((refl, refl), tt)
  plain_words Emit known = ((refl, refl), tt)
  plain_words Commit known = ((refl, refl), tt)
  plain_words (Release c) known = ((refl, refl), (plain_class c known, tt))

  -- ---- so its line is read as it

  pub words_again : (x : Statement) → IsKnown spec x
      → plain_words_of (statement_text spec x) ≡ Some (words_of_form (form_of_statement spec x))
  words_again x known =
      ap plain_words_of (text_is_line spec x) ∙ line_is_read (words_of_form (form_of_statement spec x)) (plain_words x known)

  pub line_again : (x : Statement) → IsKnown spec x → HasSet x → statement_in spec (statement_text spec x) ≡ Ok x
  line_again x known set =
      ap (λ (words : Option (List (List ℕ))). statement_by spec (option_and_then form_of words)) (words_again x known)
      ∙ ap (statement_by spec) (form_again spec x range known)
      ∙ ap (λ (found : Option Statement). ok_or found H3) (statement_again x known set)

  -- and begins with neither `plan` nor `work`
  pub statement_begins : (x : Statement) → IsKnown spec x → BeginsOtherwise (statement_text spec x)
  statement_begins x known = begins x (words_again x known)
    where
      begins : (x : Statement)
          → plain_words_of (statement_text spec x) ≡ Some (words_of_form (form_of_statement spec x))
          → BeginsOtherwise (statement_text spec x)
      begins (Lock c choice mode) e = start_is_first (statement_text spec (Lock c choice mode)) _ _ e
      begins (Probe cols) e = start_is_first (statement_text spec (Probe cols)) _ _ e
      begins (Read n mode) e = start_is_first (statement_text spec (Read n mode)) _ _ e
      begins CheckAbsent e = start_is_first (statement_text spec CheckAbsent) _ _ e
      begins CheckFound e = start_is_first (statement_text spec CheckFound) _ _ e
      begins (CheckDep dep) e = start_is_first (statement_text spec (CheckDep dep)) _ _ e
      begins Apply e = start_is_first (statement_text spec Apply) _ _ e
      begins Emit e = start_is_first (statement_text spec Emit) _ _ e
      begins Commit e = start_is_first (statement_text spec Commit) _ _ e
      begins (Release c) e = start_is_first (statement_text spec (Release c)) _ _ e
