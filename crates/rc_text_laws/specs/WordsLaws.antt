-- Words that are written plain, and the line of them.
use Rattle.std.proofs.Common.{◌≡◌, ℕ, ◌≤◌, true, false, not, eqb, leb, ◌&&◌, List, [], ◌∷◌, ◌++◌, length, map, Some, Ok, refl, sym, ap, ◌∙◌, inl, inr, arith, codes}
use Rattle.rc_text_laws.specs.Imports.{is_ascii_digit, is_ascii_lowercase, list_all, AllByRecursion, In, is_blank, is_text_byte, is_plain_byte, is_content, IsPrintable, plain_text, written, words_of, IsPlain, IsWritable, words_of-written, is_name_byte, is_name, all_plain, plain_words_of, list_any, bytes_eq}
use Rattle.std.proofs.lemmas.Bool.{and_parts, or_cases, ne_eqb, le-leb, leb-true, eqb-true, false≢true}
use Rattle.std.proofs.lemmas.List.Folds.{list_all-append}
use Rattle.std.proofs.lemmas.Slice.Eq.{bytes_eq-Decides}
use Rattle.rc_text_laws.specs.Written.{line_of, LackArrow, LackColon, ArePlain}

byte_between : (b : ℕ) → 48 ≤ b → b ≤ 122 → is_plain_byte b ≡ true
byte_between b low high = rw (
  le-leb 32 b (omega arith),
  le-leb b 126 (omega arith),
  ne_eqb b 9
      (omega arith),
  ne_eqb b 32 (omega arith),
) refl

pub digit_is_plain : (b : ℕ) → is_ascii_digit b ≡ true → is_plain_byte b ≡ true
digit_is_plain b e =
    let parts = and_parts (leb 48 b) (leb b 57) e in
    byte_between b (omega (arith, leb-true 48 b parts.0)) (omega (arith, leb-true b 57 parts.1))

letter_is_plain : (b : ℕ) → is_ascii_lowercase b ≡ true → is_plain_byte b ≡ true
letter_is_plain b e =
    let parts = and_parts (leb 97 b) (leb b 122) e in
    byte_between b (omega (arith, leb-true 97 b parts.0)) (omega (arith, leb-true b 122 parts.1))

-- a byte of a name may stand in a plain word
pub name_byte_is_plain : (b : ℕ) → is_name_byte b ≡ true → is_plain_byte b ≡ true
name_byte_is_plain b e = elim (or_cases (is_ascii_lowercase b) _ e) [
  | inl letter ↦ letter_is_plain b letter
  | inr other ↦ elim (or_cases (is_ascii_digit b) (eqb b 95) other) [
    | inl digit ↦ digit_is_plain b digit
    | inr same ↦ let at : b ≡ 95 = eqb-true b 95 same in byte_between b (omega arith) (omega arith)
  ]
]

name_bytes_are_plain : (bs : List ℕ) → list_all is_name_byte bs ≡ true → list_all is_plain_byte bs ≡ true
name_bytes_are_plain [] all = refl
name_bytes_are_plain (b ∷ bs) all =
    let parts = and_parts (is_name_byte b) (list_all is_name_byte bs) all in
    rw (name_byte_is_plain b parts.0, name_bytes_are_plain bs parts.1) refl

-- a name may be written plain
pub plain_name : (name : List ℕ) → is_name name ≡ true → IsPlain name
plain_name [] e = absurd cc
plain_name (b ∷ bs) e =
    let parts = and_parts (is_ascii_lowercase b)
    (leb (length (b ∷ bs)) 16 && list_all is_name_byte (b ∷ bs)) e in
    let letter = and_parts (leb 97 b) (leb b 122) parts.0 in
    let bytes = (and_parts (leb (length (b ∷ bs)) 16) (list_all is_name_byte (b ∷ bs)) parts.1).1 in
    (ne_eqb b 34 (omega (arith, leb-true 97 b letter.0)), name_bytes_are_plain (b ∷ bs) bytes)

-- a name is no word that is no name
name_differs : (word name : List ℕ) → is_name word ≡ false → is_name name ≡ true → bytes_eq name word ≡ false
name_differs word name other e =
    elim (bytes_eq name word) as (λ v. bytes_eq name word ≡ v → v ≡ false) [
      | true ↦ λ same. absurd (let at : is_name name ≡ is_name word =
          ap is_name ((bytes_eq-Decides name word).0 same) in false≢true (sym other ∙ sym at ∙ e))
      | false ↦ λ _. refl
    ] refl

names_lack : (word : List ℕ) (words : List (List ℕ)) → is_name word ≡ false
    → ((name : List ℕ) → In name words → is_name name ≡ true) → list_any (λ name. bytes_eq name word) words ≡ false
names_lack word [] other each = refl
names_lack word (name ∷ words) other each =
    rw (name_differs word name other (each name (inl refl)))
    (names_lack word words other (λ later m. each later (inr m)))

-- so none is an arrow, or a `:`
pub names_lack_arrow : (words : List (List ℕ)) → ((word : List ℕ) → In word words → is_name word ≡ true)
    → LackArrow words
names_lack_arrow words each = names_lack (codes "->") words refl each

pub names_lack_colon : (words : List (List ℕ)) → ((word : List ℕ) → In word words → is_name word ≡ true)
    → LackColon words
names_lack_colon words each = names_lack (codes ":") words refl each

pub plain_names : (words : List (List ℕ)) → ((word : List ℕ) → In word words → is_name word ≡ true)
    → ArePlain words
plain_names [] each = tt
plain_names (word ∷ words) each =
    (plain_name word (each word (inl refl)), plain_names words (λ other m. each other (inr m)))

pub plain_append : (xs ys : List (List ℕ)) → ArePlain xs → ArePlain ys → ArePlain (xs ++ ys)
plain_append [] ys all_xs all_ys = all_ys
plain_append (x ∷ xs) ys all_xs all_ys = (all_xs.0, plain_append xs ys all_xs.1 all_ys)

-- ---- the line of words that are plain

writable : (words : List (List ℕ)) → ArePlain words
    → AllByRecursion IsWritable (map (λ word. plain_text word) words)
writable [] all = tt
writable (word ∷ words) all = (all.0, writable words all.1)

written_plain : (words : List (List ℕ)) → map written (map (λ word. plain_text word) words) ≡ words
written_plain [] = refl
written_plain (word ∷ words) = ap (λ others. word ∷ others) (written_plain words)

all_are_plain : (words : List (List ℕ))
    → all_plain (map (λ word. Ok word) (map (λ word. plain_text word) words)) ≡ Some words
all_are_plain [] = refl
all_are_plain (word ∷ words) = rw (all_are_plain words) refl

-- its words are those that were written
pub line_is_read : (words : List (List ℕ)) → ArePlain words → plain_words_of (line_of words) ≡ Some words
line_is_read words all =
    ap (λ texts. all_plain (words_of (line_of texts))) (sym (written_plain words))
    ∙ ap all_plain (words_of-written (map (λ word. plain_text word) words) (writable words all))
    ∙ all_are_plain words

text_bytes : (bs : List ℕ) → list_all is_plain_byte bs ≡ true → list_all is_text_byte bs ≡ true
text_bytes [] all = refl
text_bytes (b ∷ bs) all =
    let parts = and_parts (is_plain_byte b) (list_all is_plain_byte bs) all in
    rw ((and_parts (is_text_byte b) (not (is_blank b)) parts.0).0) (text_bytes bs parts.1)

pub text_word : (word : List ℕ) → IsPlain word → list_all is_text_byte word ≡ true
text_word [] plain = absurd plain
text_word (b ∷ bs) plain = text_bytes (b ∷ bs) plain.1

text_line : (words : List (List ℕ)) → ArePlain words → list_all is_text_byte (line_of words) ≡ true
text_line [] all = refl
text_line (word ∷ []) all = text_word word all.0
text_line (word ∷ other ∷ words) all =
    list_all-append is_text_byte word (32 ∷ line_of (other ∷ words))
    ∙ rw (text_word word all.0) (text_line (other ∷ words) all.1)

-- what a line's first word begins with: neither a space nor a tab, and no `#`
abbrev pub BeginsLine : List ℕ → Type 0
BeginsLine [] = ⊥
BeginsLine (b ∷ bs) = (is_blank b ≡ false) × (eqb b 35 ≡ false)

content_line : (first : List ℕ) (words : List (List ℕ)) → BeginsLine first
    → is_content (line_of (first ∷ words)) ≡ true
content_line [] words begins = absurd begins
content_line (b ∷ bs) [] begins = rw begins.0 (rw begins.1 refl)
content_line (b ∷ bs) (word ∷ words) begins = rw begins.0 (rw begins.1 refl)

-- a line of plain words is read again where it is printed
pub line_is_printable : (first : List ℕ) (words : List (List ℕ)) → ArePlain (first ∷ words) → BeginsLine first
    → IsPrintable (line_of (first ∷ words))
line_is_printable first words all begins =
    record { bytes = text_line (first ∷ words) all; content = content_line first words begins }
