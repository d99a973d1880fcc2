-- A line that is written is read as what it says.
use Rattle.std.proofs.Common.{◌≡◌, ℕ, ◌^◌, ◌≤◌, true, false, ltb, [], ◌∷◌, ◌++◌, Some, Ok, refl, ap, arith, rules, lit≤, codes}
use Rattle.std.specs.Prelude.{decimal}
use Rattle.rc_text_laws.specs.Imports.{is_ascii_digit, list_all, IsPrintable, number_of, Spec, FormText, header_line, column_line, dependency_line, node_line, edge_line, lock_line, place_line, query_line, insert_line, remove_line, update_line, end_line, stripes_read, version_word, Version, after_form, ended_by, IsSpecLineTaken}
use Rattle.std.proofs.lemmas.Bool.{ltb-true}
use Rattle.std.proofs.lemmas.Fmt.{digits_value-decimal}
use Rattle.std.proofs.lemmas.Str.Parse.{IsNumeralModel, numerals_by_value}
use Rattle.rc_reader.specs.Grammar.{after_bytes}
use Rattle.rc_text_laws.specs.Written.{column_kind_word, edge_kind_word, stripes_word, asked_words, words_of_form, ArePlain, CanBeLine, written_line}
use Rattle.rc_text_laws.specs.WordsLaws.{line_is_read, line_is_printable}
use Rattle.rc_text_laws.specs.FormOfLaws.{form_read}

module _ (version : Version) where
  -- a line that can be written is read as what it says
  pub line_read : (spec : Spec) (form : FormText) → CanBeLine version form
      → after_bytes version spec (written_line version form) ≡ ended_by form (after_form version spec form)
  unfolding after_bytes
  line_read spec form can_be_line =
      rw (
        line_is_read (words_of_form version form) can_be_line.plain,
        form_read version (words_of_form version form) form
            can_be_line.has_form,
      ) refl

  -- it is a content line
  pub line_printable : (form : FormText) → ArePlain (words_of_form version form) → IsPrintable (written_line version form)
  line_printable header_line plain = line_is_printable (codes "relc") (version_word version ∷ []) plain (refl, refl)
  line_printable (column_line name kind) plain =
      line_is_printable (codes "col") (name ∷ column_kind_word kind ∷ []) plain (refl, refl)
  line_printable (dependency_line left right) plain =
      line_is_printable (codes "fd") (left ++ codes "->" ∷ right) plain (refl, refl)
  line_printable (node_line name columns) plain =
      line_is_printable (codes "node") (name ∷ columns) plain (refl, refl)
  line_printable (edge_line name from to kind key) plain =
      line_is_printable (codes "edge") (name ∷ from ∷ to ∷ edge_kind_word kind ∷ key) plain (refl, refl)
  line_printable (lock_line name number columns) plain =
      line_is_printable (codes "lock") (name ∷ stripes_word number ∷ columns) plain (refl, refl)
  line_printable (place_line edge class) plain =
      line_is_printable (codes "place") (edge ∷ class ∷ []) plain (refl, refl)
  line_printable (query_line name pattern ranges outs) plain =
      line_is_printable (codes "op") (name ∷ codes "query" ∷ (asked_words pattern ranges ++ codes "->" ∷ outs)) plain
      (refl, refl)
  line_printable (insert_line name pattern) plain =
      line_is_printable (codes "op") (name ∷ codes "insert" ∷ pattern) plain (refl, refl)
  line_printable (remove_line name pattern) plain =
      line_is_printable (codes "op") (name ∷ codes "remove" ∷ pattern) plain (refl, refl)
  line_printable (update_line name pattern) plain =
      line_is_printable (codes "op") (name ∷ codes "update" ∷ pattern) plain (refl, refl)
  line_printable end_line plain = line_is_printable (codes "end") [] plain (refl, refl)

  -- a line that breaks no rule is taken
  pub takes : (spec : Spec) (form : FormText) (next : Spec) → IsSpecLineTaken version spec form next
      → after_form version spec form ≡ Ok next
  takes spec form next taken = rw (taken.names, taken.known, taken.range, taken.limit, taken.order)
      (ap (λ (s : Spec). Ok s) taken.value)

own : IsNumeralModel (λ ds. list_all is_ascii_digit ds ≡ true) number_of
own = numerals_by_value _ (search rules)

-- a number of stripes that is written is read
pub stripes_read-decimal : (n : ℕ) → n ≤ 65535 → stripes_read (decimal n) ≡ Some n
stripes_read-decimal n small =
    let large : 65536 ≤ 2 ^ 64 = lit≤ tt in
    let value : number_of (decimal n) ≡ n = digits_value-decimal own n (omega (arith, large, small)) in
    let few : ltb 65535 n ≡ false =
    elim (ltb 65535 n) as (λ v. ltb 65535 n ≡ v → v ≡ false)
    [ true ↦ λ e. absurd (let over = ltb-true 65535 n e in omega arith) | false ↦ λ _. refl ] refl in
    rw (value, few) refl
