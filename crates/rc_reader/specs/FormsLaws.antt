-- What the forms of lines see to.
use Rattle.std.proofs.Common.{◌≡◌, ℕ, ◌<◌, ◌≤◌, Bool, true, false, cond, ltb, List, [], ◌∷◌, length, Option, Some, None, refl, sym, ap, subst, arith, lit≤, codes}
use Rattle.rc_reader.specs.Imports.{unwrap_or, option_map, bytes_eq, is_number, number_of, EdgeKind}
use Rattle.std.proofs.lemmas.Bool.Decides.{nat_tests}
use Rattle.rc_reader.specs.declared.forms.Keyword.{Keyword}
use Rattle.rc_reader.specs.declared.forms.Keyword.TheVariants as keyword
use Rattle.rc_reader.specs.declared.version.Version.{Version}
use Rattle.rc_reader.specs.declared.version.Version.TheVariants.{One, Two}
use Rattle.rc_reader.specs.TextLimits.{KeepsRanges, HasUpdates}
use Rattle.rc_reader.specs.Versions.{is_version}
use Rattle.rc_reader.specs.Forms.{FormText, header_line, column_line, dependency_line, node_line, edge_line, lock_line, place_line, query_line, insert_line, remove_line, update_line, end_line, keyword_of, column_kind_of, edge_kind_of, stripes_read, stripes_at, split_at_arrow, split_ranges, header_form, column_form, dependency_of, dependency_by, node_form, edge_form, lock_form, place_form, query_of, query_by, query_form, update_form, operation_form, end_form, form_by, form_of}

-- the right list of a dependency has a word, and a number of stripes is not above 65,535; ranges and updates are those
-- of the version
abbrev pub IsFormed : Version → FormText → Type 0
IsFormed version header_line = Unit {0}
IsFormed version (column_line name kind) = Unit {0}
IsFormed version (dependency_line left right) = 0 < length right
IsFormed version (node_line name columns) = Unit {0}
IsFormed version (edge_line name from to kind key) = Unit {0}
IsFormed version (lock_line name number columns) = unwrap_or number 0 ≤ 65535
IsFormed version (place_line edge class) = Unit {0}
IsFormed version (query_line name pattern ranges outs) = KeepsRanges version ranges
IsFormed version (insert_line name pattern) = Unit {0}
IsFormed version (remove_line name pattern) = Unit {0}
IsFormed version (update_line name pattern) = HasUpdates version
IsFormed version end_line = Unit {0}

abbrev some_form : FormText → Option FormText
some_form form = Some form

same_form : (x y : FormText) → some_form x ≡ some_form y → x ≡ y
same_form x y e = cc

few_stripes : (n : ℕ) → unwrap_or (cond (ltb 65535 n) None (Some n)) 0 ≤ 65535
few_stripes n =
    elim (ltb 65535 n) as (λ v. ltb 65535 n ≡ v → unwrap_or (cond v None (Some n)) 0 ≤ 65535) [
      | true ↦ λ _. lit≤ tt
      | false ↦ λ e. grind (arith, nat_tests)
    ] refl

stripes_formed : (word : List ℕ) (stripes : Option ℕ) → stripes_at word ≡ Some stripes → unwrap_or stripes 0 ≤ 65535
stripes_formed word stripes e =
    elim (is_number word) as (λ v. cond v (Some (stripes_read word)) None ≡ Some stripes → unwrap_or stripes 0 ≤ 65535) [
      | true ↦ λ h. subst (λ (s : Option ℕ). unwrap_or s 0 ≤ 65535) (let same : stripes_read word ≡ stripes = cc in same) (few_stripes (number_of word))
      | false ↦ λ h. absurd cc
    ] e

module _ (version : Version) where
  -- a form that is given, at once or by a test, or made of what was found
  given : (x form : FormText) → IsFormed version x → some_form x ≡ Some form → IsFormed version form
  given x form formed e = subst (IsFormed version) (same_form x form e) formed

  chosen : (b : Bool) (x y : Option FormText) (form : FormText) → (x ≡ Some form → IsFormed version form) → (y ≡ Some form → IsFormed version form) → cond b x y ≡ Some form → IsFormed version form
  chosen true x y form at_true at_false e = at_true e
  chosen false x y form at_true at_false e = at_false e

  made : {X : Type 0} (make : X → FormText) (found : Option X) (form : FormText) → ((x : X) → found ≡ Some x → IsFormed version (make x)) → option_map make found ≡ Some form → IsFormed version form
  made make None form formed e = absurd cc
  made make (Some x) form formed e = given (make x) form (formed x refl) e

  header_formed : (words : List (List ℕ)) (form : FormText) → header_form version words ≡ Some form → IsFormed version form
  header_formed [] form e = absurd cc
  header_formed (word ∷ []) form e = chosen (is_version version word) (Some header_line) None form (λ h. given header_line form tt h) (λ h. absurd cc) e
  header_formed (word ∷ other ∷ words) form e = absurd cc

  column_formed : (words : List (List ℕ)) (form : FormText) → column_form words ≡ Some form → IsFormed version form
  column_formed [] form e = absurd cc
  column_formed (name ∷ []) form e = absurd cc
  column_formed (name ∷ kind ∷ []) form e = made (column_line name) (column_kind_of kind) form (λ _ _. tt) e
  column_formed (name ∷ kind ∷ word ∷ words) form e = absurd cc

  right_formed : (left right : List (List ℕ)) (form : FormText) → dependency_of left right ≡ Some form → IsFormed version form
  right_formed left [] form e = absurd cc
  right_formed left (word ∷ words) form e = given (dependency_line left (word ∷ words)) form (omega arith) e

  dependency_formed : (lists : Option (List (List ℕ) × List (List ℕ))) (form : FormText) → dependency_by lists ≡ Some form → IsFormed version form
  dependency_formed None form e = absurd cc
  dependency_formed (Some lists) form e = right_formed lists.0 lists.1 form e

  node_formed : (words : List (List ℕ)) (form : FormText) → node_form words ≡ Some form → IsFormed version form
  node_formed [] form e = absurd cc
  node_formed (name ∷ columns) form e = given (node_line name columns) form tt e

  edge_formed : (words : List (List ℕ)) (form : FormText) → edge_form words ≡ Some form → IsFormed version form
  edge_formed [] form e = absurd cc
  edge_formed (name ∷ []) form e = absurd cc
  edge_formed (name ∷ from ∷ []) form e = absurd cc
  edge_formed (name ∷ from ∷ to ∷ []) form e = absurd cc
  edge_formed (name ∷ from ∷ to ∷ kind ∷ key) form e = made (λ (k : EdgeKind). edge_line name from to k key) (edge_kind_of kind) form (λ _ _. tt) e

  lock_formed : (words : List (List ℕ)) (form : FormText) → lock_form words ≡ Some form → IsFormed version form
  lock_formed [] form e = absurd cc
  lock_formed (name ∷ []) form e = absurd cc
  lock_formed (name ∷ number ∷ columns) form e = made (λ (stripes : Option ℕ). lock_line name stripes columns) (stripes_at number) form (stripes_formed number) e

  place_formed : (words : List (List ℕ)) (form : FormText) → place_form words ≡ Some form → IsFormed version form
  place_formed [] form e = absurd cc
  place_formed (edge ∷ []) form e = absurd cc
  place_formed (edge ∷ class ∷ []) form e = given (place_line edge class) form tt e
  place_formed (edge ∷ class ∷ word ∷ words) form e = absurd cc

  ranges_formed : (v : Version) (words : List (List ℕ)) (lists : List (List ℕ) × List (List ℕ)) → split_ranges v words ≡ Some lists → KeepsRanges v lists.1
  ranges_formed One words lists e = let same : (words, []) ≡ lists = cc in ap (λ (parts : List (List ℕ) × List (List ℕ)). parts.1) (sym same)
  ranges_formed Two words lists e = tt

  asked_formed : (name : List ℕ) (found : Option (List (List ℕ) × List (List ℕ))) (outs : List (List ℕ)) (form : FormText) → ((lists : List (List ℕ) × List (List ℕ)) → found ≡ Some lists → KeepsRanges version lists.1) → query_of name found outs ≡ Some form → IsFormed version form
  asked_formed name None outs form keeps e = absurd cc
  asked_formed name (Some lists) outs form keeps e = given (query_line name lists.0 lists.1 outs) form (keeps lists refl) e

  query_formed : (name : List ℕ) (found : Option (List (List ℕ) × List (List ℕ))) (form : FormText) → query_by version name found ≡ Some form → IsFormed version form
  query_formed name None form e = absurd cc
  query_formed name (Some lists) form e = asked_formed name (split_ranges version lists.0) lists.1 form (λ parts is. ranges_formed version lists.0 parts is) e

  updates_formed : (v : Version) (name : List ℕ) (words : List (List ℕ)) (form : FormText) → update_form v name words ≡ Some form → (HasUpdates v → IsFormed version (update_line name words)) → IsFormed version form
  updates_formed One name words form e here = absurd cc
  updates_formed Two name words form e here = given (update_line name words) form (here tt) e

  operation_formed : (words : List (List ℕ)) (form : FormText) → operation_form version words ≡ Some form → IsFormed version form
  operation_formed [] form e = absurd cc
  operation_formed (name ∷ []) form e = absurd cc
  operation_formed (name ∷ kind ∷ words) form e =
      let an_update = cond (bytes_eq kind (codes "update")) (update_form version name words) None in
      let a_remove = cond (bytes_eq kind (codes "remove")) (Some (remove_line name words)) an_update in
      let an_insert = cond (bytes_eq kind (codes "insert")) (Some (insert_line name words)) a_remove in
      chosen (bytes_eq kind (codes "query")) (query_form version name words) an_insert form
      (λ h. query_formed name (split_at_arrow words) form h)
      (λ h. chosen (bytes_eq kind (codes "insert")) (Some (insert_line name words)) a_remove form
      (λ k. given (insert_line name words) form tt k)
      (λ k. chosen (bytes_eq kind (codes "remove")) (Some (remove_line name words)) an_update form
      (λ j. given (remove_line name words) form tt j)
      (λ j. chosen (bytes_eq kind (codes "update")) (update_form version name words) None form
      (λ i. updates_formed version name words form i (λ has. has)) (λ i. absurd cc) j) k) h) e

  end_formed : (words : List (List ℕ)) (form : FormText) → end_form words ≡ Some form → IsFormed version form
  end_formed [] form e = given end_line form tt e
  end_formed (word ∷ words) form e = absurd cc

  by_keyword : (first : Option Keyword) (words : List (List ℕ)) (form : FormText) → form_by version first words ≡ Some form → IsFormed version form
  by_keyword None words form e = absurd cc
  by_keyword (Some keyword.Relc) words form e = header_formed words form e
  by_keyword (Some keyword.Col) words form e = column_formed words form e
  by_keyword (Some keyword.Fd) words form e = dependency_formed (split_at_arrow words) form e
  by_keyword (Some keyword.Node) words form e = node_formed words form e
  by_keyword (Some keyword.Edge) words form e = edge_formed words form e
  by_keyword (Some keyword.Lock) words form e = lock_formed words form e
  by_keyword (Some keyword.Place) words form e = place_formed words form e
  by_keyword (Some keyword.Op) words form e = operation_formed words form e
  by_keyword (Some keyword.End) words form e = end_formed words form e

  pub formed : (words : List (List ℕ)) (form : FormText) → form_of version words ≡ Some form → IsFormed version form
  unfolding form_of
  formed [] form e = absurd cc
  formed (first ∷ words) form e = by_keyword (keyword_of first) words form e
