-- How many items a specification has of each kind is how many lines of the kind stand before.
use Rattle.std.proofs.Common.{◌≡◌, ℕ, ◌+◌, ◌≤◌, Bool, true, false, cond, List, [], ◌∷◌, ◌++◌, length, Option, Some, None, Result, Ok, Err, refl, sym, ap, ◌∙◌, subst, arith}
use Rattle.rc_text_laws.specs.Imports.{cons_option, option_map, ContentLine, Spec, empty, IsInRange, LineRule, S3, S4, S5, S6, S7, FormText, header_line, column_line, dependency_line, node_line, edge_line, lock_line, place_line, query_line, insert_line, remove_line, update_line, end_line, Version, most_columns, judged, breaks_names, breaks_known, breaks_range, breaks_limit, breaks_order, with_line, after_form, line_kind, is_kind, line_count, limit_of, is_full, is_misplaced, LineKind, After, is_end, ended_by, after_form_of, after_bytes, AreTaken, taken_keeps, taken_keeps_version, taken, in_range-keeps, in_range-empty, KeepsTextLimits, KeepsVersion, limits-keeps, limits-empty, version-keeps, version-empty}
use Rattle.std.proofs.Math.Path.{fun_ext}
use Rattle.std.proofs.lemmas.Bool.{false≢true}
use Rattle.std.proofs.lemmas.List.{length_push}
use Rattle.std.proofs.lemmas.List.Sums.{sum_by-cons}
use Rattle.rc_reader.specs.declared.sections.LineKind.TheVariants as kinds
use Rattle.rc_text_laws.specs.Kinds.{line_form, Says, kinds_of, how_many, is_one_too_many, is_out_of_order}
use Rattle.rc_text_laws.specs.LineFormLaws.{told_by_form}

-- how many items of each kind are there behind lines of these kinds
abbrev Grows : Spec → List LineKind → Spec → Type 0
Grows spec kinds next = (kind : LineKind) → line_count next kind ≡ line_count spec kind + how_many kind kinds

same : (n : ℕ) → n ≡ n + 0
same n = omega arith

pushed : {X : Type 0} (xs : List X) (x : X) → length (xs ++ x ∷ []) ≡ length xs + 1
pushed xs x = omega (arith, length_push xs x)

-- one line, which is no header and not `end`
grows_by : (spec : Spec) (form : FormText) → breaks_order spec form ≡ false → is_end form ≡ false
    → Grows spec (line_kind form ∷ []) (with_line spec form)
grows_by spec header_line order goes_on kind = absurd (false≢true (sym order))
grows_by spec end_line order goes_on kind = absurd (false≢true (sym goes_on))
grows_by spec (column_line name of) order goes_on kinds.Column = pushed spec.columns _
grows_by spec (dependency_line left right) order goes_on kinds.Dependency = pushed spec.deps _
grows_by spec (node_line name columns) order goes_on kinds.Node = pushed spec.nodes _
grows_by spec (edge_line name from to of key) order goes_on kinds.Edge = pushed spec.edges _
grows_by spec (lock_line name number columns) order goes_on kinds.Lock = pushed spec.classes _
grows_by spec (place_line edge class) order goes_on kinds.Place = pushed spec.places _
grows_by spec (query_line name pattern ranges outs) order goes_on kinds.Operation = pushed spec.ops _
grows_by spec (insert_line name pattern) order goes_on kinds.Operation = pushed spec.ops _
grows_by spec (remove_line name pattern) order goes_on kinds.Operation = pushed spec.ops _
grows_by spec (update_line name pattern) order goes_on kinds.Operation = pushed spec.ops _
grows_by spec form order goes_on kind = same _

-- lines behind a line
grows_more : (spec between next : Spec) (first : LineKind) (kinds : List LineKind)
    → Grows spec (first ∷ []) between → Grows between kinds next → Grows spec (first ∷ kinds) next
grows_more spec between next first kinds g h kind =
    let one = sum_by-cons (λ k. cond (is_kind kind k) 1 0) first kinds in
    let alone = sum_by-cons (λ k. cond (is_kind kind k) 1 0) first [] in
    omega (arith, g kind, h kind, one, alone)

-- what a line that is taken says
ended_spec : (form : FormText) (gives : Result Spec LineRule) (after : After) → ended_by form gives ≡ Ok after
    → (gives ≡ Ok after.spec) × (is_end form ≡ after.ended)
ended_spec form (Err rule) after e = absurd cc
ended_spec form (Ok next) after e =
    let both : record { ended = is_end form; spec = next } ≡ after = cc in
    (ap (λ (a : After). Ok a.spec) both, ap (λ (a : After). a.ended) both)

module _ (version : Version) where
  line_grows : (spec : Spec) (found : Option FormText) (after : After) (kinds : List LineKind) (next : Spec)
      → after_form_of version spec found ≡ Ok after → after.ended ≡ false → Grows after.spec kinds next
      → Grows spec (cons_option (option_map line_kind found) kinds) next
  line_grows spec None after kinds next e goes_on h = absurd cc
  line_grows spec (Some form) after kinds next e goes_on h =
      let (taken_form, ended) = ended_spec form (after_form version spec form) after e in
      let step = taken version spec form after.spec taken_form in
      grows_more spec after.spec next (line_kind form) kinds
      (subst (λ (s : Spec). Grows spec (line_kind form ∷ []) s) step.value (grows_by spec form step.order (ended ∙ goes_on))) h

  lines_grow : (spec : Spec) (lines : List ContentLine) (next : Spec) → AreTaken version spec lines next
      → Grows spec (kinds_of version lines) next
  lines_grow spec [] next e = subst (λ (s : Spec). Grows spec [] s) e (λ kind. same (line_count spec kind))
  lines_grow spec (line ∷ lines) next (after, e, goes_on, others) =
      line_grows spec (line_form version line.bytes) after (kinds_of version lines) next
      (sym (told_by_form version spec line.bytes) ∙ e) goes_on (lines_grow after.spec lines next others)

-- ---- the tests

none_at_first : (kind : LineKind) → line_count empty kind ≡ 0
none_at_first kinds.Header = refl
none_at_first kind = refl

abbrev some_limit : ℕ → Option ℕ
some_limit limit = Some limit

same_limit : (x y : ℕ) → some_limit x ≡ some_limit y → x ≡ y
same_limit x y e = cc

at_most : (n count most limit : ℕ) → n ≡ count → n ≤ most → some_limit most ≡ some_limit limit → count ≤ limit
at_most n count most limit e few same_one = omega (arith, e, few, same_limit most limit same_one)

module _ (version : Version) (lines : List ContentLine) (spec : Spec) (taken_lines : AreTaken version empty lines spec) where
  -- of each kind there are as many items as lines
  counted : (kind : LineKind) → line_count spec kind ≡ how_many kind (kinds_of version lines)
  counted kind = omega (arith, lines_grow version empty lines spec taken_lines kind, none_at_first kind)

  counts : line_count spec ≡ (λ (kind : LineKind). how_many kind (kinds_of version lines))
  counts = fun_ext counted

  -- S6 is told by the kinds of the lines before
  pub limit_told : (form : FormText) → breaks_limit version spec form ≡ is_one_too_many version (kinds_of version lines) (line_kind form)
  limit_told form = ap (λ count. is_full version count (line_kind form)) counts

  -- and so is S7
  pub order_told : (form : FormText) → breaks_order spec form ≡ is_out_of_order (kinds_of version lines) (line_kind form)
  order_told form = ap (λ count. is_misplaced count (line_kind form)) counts

  in_range : IsInRange spec
  in_range = taken_keeps IsInRange in_range-keeps version empty lines spec taken_lines in_range-empty

  limits : KeepsTextLimits spec
  limits = taken_keeps KeepsTextLimits limits-keeps version empty lines spec taken_lines limits-empty

  keeps : KeepsVersion version spec
  keeps = taken_keeps_version KeepsVersion version-keeps version empty lines spec taken_lines (version-empty version)

  -- no kind has more lines than its limit
  pub few_lines : (kind : LineKind) (limit : ℕ) → limit_of version kind ≡ Some limit → how_many kind (kinds_of version lines) ≤ limit
  few_lines kinds.Column limit e = at_most _ _ (most_columns version) limit (counted kinds.Column) keeps.columns e
  few_lines kinds.Dependency limit e = at_most _ _ _ limit (counted kinds.Dependency) in_range.deps e
  few_lines kinds.Node limit e = at_most _ _ _ limit (counted kinds.Node) in_range.nodes e
  few_lines kinds.Edge limit e = at_most _ _ _ limit (counted kinds.Edge) in_range.edges e
  few_lines kinds.Lock limit e = at_most _ _ _ limit (counted kinds.Lock) in_range.classes e
  few_lines kinds.Place limit e = at_most _ _ _ limit (counted kinds.Place) in_range.places e
  few_lines kinds.Operation limit e = at_most _ _ _ limit (counted kinds.Operation) limits.ops e
  few_lines kind limit e = absurd cc

-- ---- what a line is refused for

-- the rules from S3 on, by their tests
abbrev by_tests : Bool → Bool → Bool → Bool → Bool → Spec → Result Spec LineRule
by_tests names known range limit order next =
    judged ((S3, names) ∷ (S4, known) ∷ (S5, range) ∷ (S6, limit) ∷ (S7, order) ∷ []) next

limit_test : (names known range limit order : Bool) (next : Spec)
    → by_tests names known range limit order next ≡ Err S6 → limit ≡ true
limit_test false false false true order next e = refl
limit_test false false false false true next e = absurd cc
limit_test names known range limit order next e = absurd cc

order_test : (names known range limit order : Bool) (next : Spec)
    → by_tests names known range limit order next ≡ Err S7 → (limit ≡ false) × (order ≡ true)
order_test false false false false true next e = (refl, refl)
order_test names known range limit order next e = absurd cc

ended_rule : (form : FormText) (gives : Result Spec LineRule) (rule : LineRule)
    → ended_by form gives ≡ Err rule → gives ≡ Err rule
ended_rule form (Ok next) rule e = absurd cc
ended_rule form (Err broken) rule e = let same_rule : broken ≡ rule =
    cc in ap (λ (r : LineRule). Err r) same_rule

-- the same, of what was found
abbrev SaysWhat : Option FormText → (FormText → Type 0) → Type 0
SaysWhat found P = (form : FormText) × (found ≡ Some form) × P form

module _ (version : Version) where
  limit_says : (spec : Spec) (found : Option FormText) → after_form_of version spec found ≡ Err S6
      → SaysWhat found (λ form. breaks_limit version spec form ≡ true)
  limit_says spec None e = absurd cc
  limit_says spec (Some form) e = (
    form,
    refl,
    limit_test (breaks_names spec form) (breaks_known spec form) (breaks_range form)
        (breaks_limit version spec form) (breaks_order spec form) (with_line spec form)
        (ended_rule form (after_form version spec form) S6 e),
  )

  order_says : (spec : Spec) (found : Option FormText) → after_form_of version spec found ≡ Err S7
      → SaysWhat found (λ form. (breaks_limit version spec form ≡ false) × (breaks_order spec form ≡ true))
  order_says spec None e = absurd cc
  order_says spec (Some form) e = (
    form,
    refl,
    order_test (breaks_names spec form) (breaks_known spec form) (breaks_range form)
        (breaks_limit version spec form) (breaks_order spec form) (with_line spec form)
        (ended_rule form (after_form version spec form) S7 e),
  )

  taken_says : (spec : Spec) (found : Option FormText) (after : After) → after_form_of version spec found ≡ Ok after
      → SaysWhat found (λ form. (breaks_limit version spec form ≡ false) × (breaks_order spec form ≡ false))
  taken_says spec None after e = absurd cc
  taken_says spec (Some form) after e =
      let step = taken version spec form after.spec (ended_spec form (after_form version spec form) after e).0 in
      (form, refl, (step.limit, step.order))

module _ (version : Version) (lines : List ContentLine) (spec : Spec) (bytes : List ℕ)
    (taken_lines : AreTaken version empty lines spec) where
  -- a line refused by S6 is one too many
  pub too_many : after_bytes version spec bytes ≡ Err S6
      → Says version bytes (λ form. is_one_too_many version (kinds_of version lines) (line_kind form) ≡ true)
  too_many e =
      let says = limit_says version spec (line_form version bytes) (sym (told_by_form version spec bytes) ∙ e) in
      (says.0, says.1, sym (limit_told version lines spec taken_lines says.0) ∙ says.2)

  -- one refused by S7 is not, and is out of order
  pub out_of_order : after_bytes version spec bytes ≡ Err S7
      → Says version bytes (λ form. (is_one_too_many version (kinds_of version lines) (line_kind form) ≡ false)
      × (is_out_of_order (kinds_of version lines) (line_kind form) ≡ true))
  out_of_order e =
      let says = order_says version spec (line_form version bytes) (sym (told_by_form version spec bytes) ∙ e) in (
        says.0,
        says.1,
        (
          sym (limit_told version lines spec taken_lines says.0)
              ∙ says.2.0,
          sym (order_told version lines spec taken_lines says.0) ∙ says.2.1,
        ),
      )

  -- and one that is taken is neither
  pub in_its_place : (after : After) → after_bytes version spec bytes ≡ Ok after
      → Says version bytes (λ form. (is_one_too_many version (kinds_of version lines) (line_kind form) ≡ false)
      × (is_out_of_order (kinds_of version lines) (line_kind form) ≡ false))
  in_its_place after e =
      let says = taken_says version spec (line_form version bytes) after (sym (told_by_form version spec bytes) ∙ e) in (
        says.0,
        says.1,
        (
          sym (limit_told version lines spec taken_lines says.0)
              ∙ says.2.0,
          sym (order_told version lines spec taken_lines says.0) ∙ says.2.1,
        ),
      )
