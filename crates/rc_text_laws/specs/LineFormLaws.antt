-- What a line does is told by what it says, and what it says can be written anew.
use Rattle.std.proofs.Common.{◌≡◌, ◌⊎◌, ◌↔◌, ℕ, zero, suc, ◌≤◌, ◌<◌, ◌^◌, List, ◌∷◌, length, Option, Some, None, Result, Ok, Err, refl, sym, ap, ◌∙◌, subst, inl, inr, arith, lit≤, codes}
use Rattle.rc_text_laws.specs.Imports.{unwrap_or, option_and_then, is_number-decimal, plain-number, found_comes, WordText, plain_text, quoted_text, Found, next_word_of, found_then, words_within, IsPlain, IsWritable, ComesNext, WordFault, Spec, Version, FormText, dependency_line, lock_line, query_line, update_line, onto_words, all_plain, plain_words_of, form_of, IsFormed, formed, after_form_of, after_words}
use Rattle.std.specs.Prelude.{decimal}
use Rattle.rc_text.specs.Words.{words_of}
use Rattle.rc_reader.specs.Grammar.{after_bytes}
use Rattle.rc_text_laws.specs.Written.{stripes_word, words_of_form, HasForm, DifferInNumber, ArePlain, CanBeLine, written_line}
use Rattle.rc_text_laws.specs.Kinds.{line_form}
use Rattle.rc_text_laws.specs.WordsLaws.{line_is_read}
use Rattle.rc_text_laws.specs.FormOfLaws.{form_read}
use Rattle.rc_text_laws.specs.HasFormLaws.{form_is_exact}
use Rattle.rc_text_laws.specs.LineLaws.{stripes_read-decimal}

-- ---- what a line does

by_words : (version : Version) (spec : Spec) (found : Option (List (List ℕ)))
    → after_words version spec found ≡ after_form_of version spec (option_and_then (form_of version) found)
by_words version spec None = refl
by_words version spec (Some words) = refl

pub told_by_form : (version : Version) (spec : Spec) (bytes : List ℕ)
    → after_bytes version spec bytes ≡ after_form_of version spec (line_form version bytes)
unfolding after_bytes
told_by_form version spec bytes = by_words version spec (plain_words_of bytes)

-- ---- the words of a line that has none quoted and no fault can be written plain

abbrev PlainIf : Option (List (List ℕ)) → Type 0
PlainIf None = Unit {0}
PlainIf (Some words) = ArePlain words

onto_plain : (text : List ℕ) (words : Option (List (List ℕ))) → IsPlain text → PlainIf words
    → PlainIf (onto_words text words)
onto_plain text None plain others = tt
onto_plain text (Some words) plain others = (plain, others)

word_plain : (word : WordText) (words : List (Result WordText WordFault)) → IsWritable word
    → PlainIf (all_plain words) → PlainIf (all_plain (Ok word ∷ words))
word_plain (plain_text text) words writable others = onto_plain text (all_plain words) writable others
word_plain (quoted_text text) words writable others = tt

found_plain : (bytes : List ℕ) (found : Found) → ComesNext bytes found
    → (others : List ℕ → List (Result WordText WordFault))
    → ((rest : List ℕ) → PlainIf (all_plain (others rest))) → PlainIf (all_plain (found_then found others))
found_plain bytes (Ok None) comes others each = tt
found_plain bytes (Ok (Some found)) comes others each =
    word_plain found.0 (others found.1) comes.is_writable (each found.1)
found_plain bytes (Err fault) comes others each = tt

within_plain : (n : ℕ) (bytes : List ℕ) → PlainIf (all_plain (words_within n bytes))
within_plain zero bytes = tt
within_plain (suc n) bytes = found_plain bytes (next_word_of bytes) (found_comes bytes) (words_within n)
    (within_plain n)

words_plain : (bytes : List ℕ) → PlainIf (plain_words_of bytes)
unfolding words_of
words_plain bytes = within_plain (length bytes) bytes

-- ---- what a line says, written anew

small : (n : ℕ) → n ≤ 65535 → n < 2 ^ 64
small n few = let large : 65536 ≤ 2 ^ 64 = lit≤ tt in omega (arith, large, few)

stripes_plain : (number : Option ℕ) → unwrap_or number 0 ≤ 65535 → IsPlain (stripes_word number)
stripes_plain None few = (refl, refl)
stripes_plain (Some n) few = plain-number (decimal n) (is_number-decimal n (small n few))

module _ (version : Version) where
  lock_has_form : (name : List ℕ) (number : Option ℕ) (columns : List (List ℕ)) → unwrap_or number 0 ≤ 65535
      → HasForm version (words_of_form version (lock_line name number columns)) (lock_line name number columns)
  lock_has_form name None columns few = (codes "65536", refl, refl, refl)
  lock_has_form name (Some n) columns few =
      (decimal n, refl, is_number-decimal n (small n few), stripes_read-decimal n few)

  -- the words of a form have it
  has_own : (words : List (List ℕ)) (form : FormText) → IsFormed version form → HasForm version words form
      → HasForm version (words_of_form version form) form
  has_own words (dependency_line left right) formed has = (refl, has.1, has.2, has.3)
  has_own words (lock_line name number columns) formed has = lock_has_form name number columns formed
  has_own words (query_line name pattern ranges outs) formed has = (refl, has.1, has.2, has.3)
  has_own words (update_line name pattern) formed has = (refl, has.1)
  has_own words form formed has = refl

  lock_plain : (name digits : List ℕ) (number : Option ℕ) (columns : List (List ℕ)) → unwrap_or number 0 ≤ 65535
      → ArePlain (codes "lock" ∷ name ∷ digits ∷ columns)
      → ArePlain (words_of_form version (lock_line name number columns))
  lock_plain name digits number columns few plain =
      (plain.0, (plain.1.0, (stripes_plain number few, plain.1.1.1)))

  own_plain : (words : List (List ℕ)) (form : FormText) → IsFormed version form → HasForm version words form → ArePlain words
      → ArePlain (words_of_form version form)
  own_plain words (dependency_line left right) formed has plain = subst ArePlain has.0 plain
  own_plain words (lock_line name number columns) formed (digits, has, are_digits, value) plain =
      lock_plain name digits number columns formed (subst ArePlain has plain)
  own_plain words (query_line name pattern ranges outs) formed has plain = subst ArePlain has.0 plain
  own_plain words (update_line name pattern) formed has plain = subst ArePlain has.0 plain
  own_plain words form formed has plain = subst ArePlain has plain

  -- the words of a form that is read are read as it
  pub words_anew : (words : List (List ℕ)) (form : FormText) → form_of version words ≡ Some form
      → form_of version (words_of_form version form) ≡ Some form
  words_anew words form e = form_read version (words_of_form version form) form
      (has_own words form (formed version words form e) ((form_is_exact version words form).0 e))

  -- and so is their line
  pub line_of_form : (form : FormText) → CanBeLine version form → line_form version (written_line version form) ≡ Some form
  line_of_form form can_be_line =
      ap (option_and_then (form_of version)) (line_is_read (words_of_form version form) can_be_line.plain)
      ∙ form_read version (words_of_form version form) form can_be_line.has_form

  read_can_be_line : (found : Option (List (List ℕ))) (form : FormText) → PlainIf found
      → option_and_then (form_of version) found ≡ Some form → CanBeLine version form
  read_can_be_line None form plain e = absurd cc
  read_can_be_line (Some words) form plain e =
      let is_formed = formed version words form e in
      let has = (form_is_exact version words form).0 e in
      record { has_form = has_own words form is_formed has; plain = own_plain words form is_formed has plain }

  -- some line says it exactly where it can be one
  pub some_line : (form : FormText) → ((bytes : List ℕ) × (line_form version bytes ≡ Some form)) ↔ CanBeLine version form
  some_line form = (
    (λ read. read_can_be_line (plain_words_of read.0) form (words_plain read.0) read.1),
    (λ can_be_line. (written_line version form, line_of_form form can_be_line)),
  )

  pub line_anew : (bytes : List ℕ) (form : FormText) → line_form version bytes ≡ Some form
      → line_form version (written_line version form) ≡ Some form
  line_anew bytes form e = line_of_form form ((some_line form).0 (bytes, e))

  -- ---- the form tells the words

  same_words : (words others : List (List ℕ)) (form : FormText) → HasForm version words form → HasForm version others form
      → (words ≡ others) ⊎ DifferInNumber words others
  same_words words others (dependency_line left right) has had = inl (has.0 ∙ sym had.0)
  same_words words others (lock_line name number columns) (digits, has, are_digits, value)
      (others_digits, had, others_are_digits, others_value) = inr (record {
        name = name;
        first = digits;
        second = others_digits;
        columns = columns;
        words_are = has;
        others_are = had;
        first_number = are_digits;
        second_number = others_are_digits;
        same = value ∙ sym others_value;
      })
  same_words words others (query_line name pattern ranges outs) has had = inl (has.0 ∙ sym had.0)
  same_words words others (update_line name pattern) has had = inl (has.0 ∙ sym had.0)
  same_words words others form has had = inl (has ∙ sym had)

  pub form_tells_words : (words others : List (List ℕ)) (form : FormText) → form_of version words ≡ Some form
      → form_of version others ≡ Some form → (words ≡ others) ⊎ DifferInNumber words others
  form_tells_words words others form e f =
      same_words words others form ((form_is_exact version words form).0 e) ((form_is_exact version others form).0 f)
