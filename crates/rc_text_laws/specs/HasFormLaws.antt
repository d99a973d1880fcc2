-- The form of words is exact: words have the form that they are read as, and no other.
use Rattle.std.proofs.Common.{◌≡◌, ◌↔◌, ℕ, suc, Bool, true, false, cond, List, [], ◌∷◌, ◌++◌, drop, Option, Some, None, refl, sym, ap, ◌∙◌, subst, one-add, arith, codes}
use Rattle.rc_text_laws.specs.Imports.{list_any, before_first, position_or_len, option_map, bytes_eq, is_number, FormText, header_line, column_line, edge_line, lock_line, insert_line, remove_line, is_arrow, is_colon, split_by, split_at_arrow, ranges_by, split_ranges, stripes_read, header_form, column_form, dependency_of, dependency_by, node_form, edge_form, lock_form, place_form, query_of, query_by, query_form, update_form, operation_form, end_form, version_word, Version, One, Two, Num, Text, EdgeKind, HasUpdates}
use Rattle.std.proofs.lemmas.List.{append-nil, take-append-drop}
use Rattle.std.proofs.lemmas.Slice.Eq.{bytes_eq-Decides}
use Rattle.rc_reader.specs.Forms.{form_of}
use Rattle.rc_spec.specs.declared.items.EdgeKind.TheVariants as edge_kinds
use Rattle.rc_text_laws.specs.Written.{asked_words, LackArrow, MayAsk, HasForm}
use Rattle.rc_text_laws.specs.FormOfLaws.{form_read}

-- ---- the words before and behind a mark

module _ (is_mark : List ℕ → Bool) where
  skips : (word : List ℕ) (words : List (List ℕ)) → is_mark word ≡ false
      → position_or_len is_mark (word ∷ words) ≡ suc (position_or_len is_mark words)
  skips word words other = rw (other, one-add) refl

  before_lacks : (words : List (List ℕ)) → list_any is_mark (before_first is_mark words) ≡ false
  before_lacks [] = refl
  before_lacks (word ∷ words) =
      elim (is_mark word) as
      (λ v. is_mark word ≡ v → list_any is_mark (before_first is_mark (word ∷ words)) ≡ false) [
        | true ↦ λ e. rw e refl
        | false ↦ λ e. rw (skips word words e, e) (before_lacks words)
      ] refl

  -- none is left, or the first that is left is a mark
  abbrev BeginsWith : List (List ℕ) → Type 0
  BeginsWith [] = Unit {0}
  BeginsWith (word ∷ words) = is_mark word ≡ true

  rest_begins : (words : List (List ℕ)) → BeginsWith (drop (position_or_len is_mark words) words)
  rest_begins [] = tt
  rest_begins (word ∷ words) =
      elim (is_mark word) as (λ v. is_mark word ≡ v
      → BeginsWith (drop (position_or_len is_mark (word ∷ words)) (word ∷ words))) [
        | true ↦ λ e. rw e e
        | false ↦ λ e. rw (skips word words e) (rest_begins words)
      ] refl

-- what two lists of words are of all words
abbrev Splits : List (List ℕ) → Option (List (List ℕ) × List (List ℕ)) → Type 0
Splits words None = Unit {0}
Splits words (Some lists) = (words ≡ lists.0 ++ codes "->" ∷ lists.1) × LackArrow lists.0 × LackArrow lists.1

splits_by : (words before rest : List (List ℕ)) → before ++ rest ≡ words → LackArrow before
    → BeginsWith is_arrow rest → Splits words (split_by before rest)
splits_by words before [] whole lack begins = tt
splits_by words before (arrow ∷ after) whole lack begins =
    elim (list_any is_arrow after) as
    (λ v. list_any is_arrow after ≡ v → Splits words (cond v None (Some (before, after)))) [
      | true ↦ λ _. tt
      | false ↦ λ e. (
        sym whole ∙ ap (λ w. before ++ w ∷ after)
            ((bytes_eq-Decides arrow (codes "->")).0 begins),
        lack,
        e,
      )
    ] refl

splits : (words : List (List ℕ)) → Splits words (split_at_arrow words)
splits words =
    splits_by words (before_first is_arrow words) (drop (position_or_len is_arrow words) words)
    (take-append-drop (position_or_len is_arrow words) words) (before_lacks is_arrow words) (rest_begins is_arrow words)

-- what a pattern and range columns are of the words before the arrow
abbrev Asks : Version → List (List ℕ) → Option (List (List ℕ) × List (List ℕ)) → Type 0
Asks version words None = Unit {0}
Asks version words (Some lists) = (words ≡ asked_words lists.0 lists.1) × MayAsk version lists.0 lists.1

asks_by : (words before rest : List (List ℕ)) → before ++ rest ≡ words → list_any is_colon before ≡ false
    → BeginsWith is_colon rest → Asks Two words (ranges_by before rest)
asks_by words before [] whole lack begins = (sym whole ∙ append-nil before, lack)
asks_by words before (colon ∷ []) whole lack begins = tt
asks_by words before (colon ∷ first ∷ others) whole lack begins = (
  sym whole ∙ ap (λ w. before ++ w ∷ first ∷ others) ((bytes_eq-Decides colon (codes ":")).0 begins),
  lack,
)

asks : (version : Version) (words : List (List ℕ)) → Asks version words (split_ranges version words)
asks One words = (refl, refl)
asks Two words =
    asks_by words (before_first is_colon words) (drop (position_or_len is_colon words) words)
    (take-append-drop (position_or_len is_colon words) words) (before_lacks is_colon words) (rest_begins is_colon words)

module _ (version : Version) where
  -- the form that is found, if one is
  abbrev Gives : List (List ℕ) → Option FormText → Type 0
  Gives words None = Unit {0}
  Gives words (Some form) = HasForm version words form

  -- a test of a word: the word is this one, or what comes after the test is found
  at_word : (words : List ℕ → List (List ℕ)) (word this : List ℕ) (found others : Option FormText)
      → Gives (words this) found → (bytes_eq word this ≡ false → Gives (words word) others)
      → Gives (words word) (cond (bytes_eq word this) found others)
  at_word words word this found others here later =
      elim (bytes_eq word this) as (λ v. bytes_eq word this ≡ v → Gives (words word) (cond v found others)) [
        | true ↦ λ e. subst (λ w. Gives (words w) found) (sym ((bytes_eq-Decides word this).0 e)) here
        | false ↦ λ e. later e
      ] refl

  -- the same, of a word for a kind
  at_kind : {K : Type 0} (words : List ℕ → List (List ℕ)) (make : K → FormText) (word this : List ℕ)
      (kind : K) (others : Option K)
      → Gives (words this) (Some (make kind)) → Gives (words word) (option_map make others)
      → Gives (words word) (option_map make (cond (bytes_eq word this) (Some kind) others))
  at_kind words make word this kind others here later =
      elim (bytes_eq word this) as
      (λ v. bytes_eq word this ≡ v → Gives (words word) (option_map make (cond v (Some kind) others))) [
        | true ↦ λ e. subst (λ w. Gives (words w) (Some (make kind))) (sym ((bytes_eq-Decides word this).0 e))
            here
        | false ↦ λ _. later
      ] refl

  header_gives : (words : List (List ℕ)) → Gives (codes "relc" ∷ words) (header_form version words)
  header_gives [] = tt
  header_gives (word ∷ []) = at_word (λ w. codes "relc" ∷ w ∷ []) word (version_word version) (Some header_line)
      None refl (λ _. tt)
  header_gives (word ∷ other ∷ words) = tt

  column_gives : (words : List (List ℕ)) → Gives (codes "col" ∷ words) (column_form words)
  column_gives [] = tt
  column_gives (name ∷ []) = tt
  column_gives (name ∷ kind ∷ []) =
      let line = λ (w : List ℕ). codes "col" ∷ name ∷ w ∷ [] in
      let a_text = cond (bytes_eq kind (codes "text")) (Some Text) None in
      at_kind line (column_line name) kind (codes "num") Num a_text refl
      (at_kind line (column_line name) kind (codes "text") Text None refl tt)
  column_gives (name ∷ kind ∷ word ∷ words) = tt

  right_gives : (words left right : List (List ℕ)) → words ≡ left ++ codes "->" ∷ right → LackArrow left
      → LackArrow right → Gives (codes "fd" ∷ words) (dependency_of left right)
  right_gives words left [] whole lack_left lack_right = tt
  right_gives words left (first ∷ others) whole lack_left lack_right =
      (ap (λ ws. codes "fd" ∷ ws) whole, lack_left, lack_right, omega arith)

  dependency_gives : (words : List (List ℕ)) (found : Option (List (List ℕ) × List (List ℕ)))
      → Splits words found → Gives (codes "fd" ∷ words) (dependency_by found)
  dependency_gives words None split = tt
  dependency_gives words (Some lists) split = right_gives words lists.0 lists.1 split.0 split.1 split.2

  node_gives : (words : List (List ℕ)) → Gives (codes "node" ∷ words) (node_form words)
  node_gives [] = tt
  node_gives (name ∷ columns) = refl

  edge_gives : (words : List (List ℕ)) → Gives (codes "edge" ∷ words) (edge_form words)
  edge_gives [] = tt
  edge_gives (name ∷ []) = tt
  edge_gives (name ∷ from ∷ []) = tt
  edge_gives (name ∷ from ∷ to ∷ []) = tt
  edge_gives (name ∷ from ∷ to ∷ kind ∷ key) =
      let line = λ (w : List ℕ). codes "edge" ∷ name ∷ from ∷ to ∷ w ∷ key in
      let a_singleton = cond (bytes_eq kind (codes "singleton")) (Some edge_kinds.Singleton) None in
      let a_list = cond (bytes_eq kind (codes "list")) (Some edge_kinds.List) a_singleton in
      let an_ordered = cond (bytes_eq kind (codes "ordered")) (Some edge_kinds.Ordered) a_list in
      let make = λ (k : EdgeKind). edge_line name from to k key in
      at_kind line make kind (codes "hash") edge_kinds.Hash an_ordered refl
      (at_kind line make kind (codes "ordered") edge_kinds.Ordered a_list refl
      (at_kind line make kind (codes "list") edge_kinds.List a_singleton refl
      (at_kind line make kind (codes "singleton") edge_kinds.Singleton None refl tt)))

  lock_gives : (words : List (List ℕ)) → Gives (codes "lock" ∷ words) (lock_form words)
  lock_gives [] = tt
  lock_gives (name ∷ []) = tt
  lock_gives (name ∷ digits ∷ columns) =
      elim (is_number digits) as (λ v. is_number digits ≡ v
      → Gives (codes "lock" ∷ name ∷ digits ∷ columns)
      (option_map (λ stripes. lock_line name stripes columns) (cond v (Some (stripes_read digits)) None))) [
        | true ↦ λ e. (digits, refl, e, refl)
        | false ↦ λ _. tt
      ] refl

  place_gives : (words : List (List ℕ)) → Gives (codes "place" ∷ words) (place_form words)
  place_gives [] = tt
  place_gives (edge ∷ []) = tt
  place_gives (edge ∷ class ∷ []) = refl
  place_gives (edge ∷ class ∷ word ∷ words) = tt

  asked_gives : (name : List ℕ) (words before outs : List (List ℕ)) (found : Option (List (List ℕ) × List (List ℕ)))
      → Asks version before found → words ≡ before ++ codes "->" ∷ outs → LackArrow before → LackArrow outs
      → Gives (codes "op" ∷ name ∷ codes "query" ∷ words) (query_of name found outs)
  asked_gives name words before outs None ask whole lack_before lack_outs = tt
  asked_gives name words before outs (Some lists) ask whole lack_before lack_outs = (
    ap (λ ws. codes "op" ∷ name ∷ codes "query" ∷ ws) (whole ∙ ap (λ ws. ws ++ codes "->" ∷ outs) ask.0),
    ask.1,
    subst LackArrow ask.0 lack_before,
    lack_outs,
  )

  query_gives : (name : List ℕ) (words : List (List ℕ)) (found : Option (List (List ℕ) × List (List ℕ)))
      → Splits words found → Gives (codes "op" ∷ name ∷ codes "query" ∷ words) (query_by version name found)
  query_gives name words None split = tt
  query_gives name words (Some lists) split =
      asked_gives name words lists.0 lists.1 (split_ranges version lists.0) (asks version lists.0) split.0 split.1 split.2

  update_gives : (v : Version) (name : List ℕ) (words : List (List ℕ)) → v ≡ version
      → Gives (codes "op" ∷ name ∷ codes "update" ∷ words) (update_form v name words)
  update_gives One name words same = tt
  update_gives Two name words same = (refl, subst HasUpdates same tt)

  operation_gives : (words : List (List ℕ)) → Gives (codes "op" ∷ words) (operation_form version words)
  operation_gives [] = tt
  operation_gives (name ∷ []) = tt
  operation_gives (name ∷ kind ∷ words) =
      let line = λ (w : List ℕ). codes "op" ∷ name ∷ w ∷ words in
      let an_update = cond (bytes_eq kind (codes "update")) (update_form version name words) None in
      let a_remove = cond (bytes_eq kind (codes "remove")) (Some (remove_line name words)) an_update in
      let an_insert = cond (bytes_eq kind (codes "insert")) (Some (insert_line name words)) a_remove in
      at_word line kind (codes "query") (query_form version name words) an_insert
      (query_gives name words (split_at_arrow words) (splits words))
      (λ _. at_word line kind (codes "insert") (Some (insert_line name words)) a_remove refl
      (λ _. at_word line kind (codes "remove") (Some (remove_line name words)) an_update refl
      (λ _. at_word line kind (codes "update") (update_form version name words) None
      (update_gives version name words refl) (λ _. tt))))

  end_gives : (words : List (List ℕ)) → Gives (codes "end" ∷ words) (end_form words)
  end_gives [] = refl
  end_gives (word ∷ words) = tt

  -- ---- by the first word

  abbrev LineGives : List ℕ → List (List ℕ) → Type 0
  LineGives first words = Gives (first ∷ words) (form_of version (first ∷ words))

  relc_line : (words : List (List ℕ)) → LineGives (codes "relc") words
  unfolding form_of
  relc_line words = header_gives words

  col_line : (words : List (List ℕ)) → LineGives (codes "col") words
  unfolding form_of
  col_line words = column_gives words

  fd_line : (words : List (List ℕ)) → LineGives (codes "fd") words
  unfolding form_of
  fd_line words = dependency_gives words (split_at_arrow words) (splits words)

  node_words : (words : List (List ℕ)) → LineGives (codes "node") words
  unfolding form_of
  node_words words = node_gives words

  edge_words : (words : List (List ℕ)) → LineGives (codes "edge") words
  unfolding form_of
  edge_words words = edge_gives words

  lock_words : (words : List (List ℕ)) → LineGives (codes "lock") words
  unfolding form_of
  lock_words words = lock_gives words

  place_words : (words : List (List ℕ)) → LineGives (codes "place") words
  unfolding form_of
  place_words words = place_gives words

  op_words : (words : List (List ℕ)) → LineGives (codes "op") words
  unfolding form_of
  op_words words = operation_gives words

  end_words : (words : List (List ℕ)) → LineGives (codes "end") words
  unfolding form_of
  end_words words = end_gives words

  -- a first word that is none of these
  abbrev Differs : List ℕ → List ℕ → Type 0
  Differs word this = bytes_eq word this ≡ false

  no_form : (first : List ℕ) (words : List (List ℕ)) → Differs first (codes "relc")
      → Differs first (codes "col") → Differs first (codes "fd") → Differs first (codes "node")
      → Differs first (codes "edge") → Differs first (codes "lock") → Differs first (codes "place")
      → Differs first (codes "op") → Differs first (codes "end") → form_of version (first ∷ words) ≡ None
  unfolding form_of
  no_form first words a b c d e f g h i = rw (a, b, c, d, e, f, g, h, i) refl

  first_word : (this first : List ℕ) (words : List (List ℕ)) → LineGives this words
      → (Differs first this → LineGives first words) → LineGives first words
  first_word this first words here others =
      elim (bytes_eq first this) as (λ v. bytes_eq first this ≡ v → LineGives first words) [
        | true ↦ λ e. subst (λ w. LineGives w words) (sym ((bytes_eq-Decides first this).0 e)) here
        | false ↦ λ e. others e
      ] refl

  line_gives : (words : List (List ℕ)) → Gives words (form_of version words)
  unfolding form_of
  line_gives [] = tt
  line_gives (first ∷ words) =
      first_word (codes "relc") first words (relc_line words)
      (λ a. first_word (codes "col") first words (col_line words)
      (λ b. first_word (codes "fd") first words (fd_line words)
      (λ c. first_word (codes "node") first words (node_words words)
      (λ d. first_word (codes "edge") first words (edge_words words)
      (λ e. first_word (codes "lock") first words (lock_words words)
      (λ f. first_word (codes "place") first words (place_words words)
      (λ g. first_word (codes "op") first words (op_words words)
      (λ h. first_word (codes "end") first words (end_words words)
      (λ i. subst (Gives (first ∷ words)) (sym (no_form first words a b c d e f g h i)) tt)))))))))

  -- words are read as a form exactly where they have it
  pub form_is_exact : (words : List (List ℕ)) (form : FormText) → (form_of version words ≡ Some form) ↔ HasForm version words form
  form_is_exact words form = ((λ e. subst (Gives words) e (line_gives words)), form_read version words form)
