-- Texts that are cut: where a whole text has the `d` of its last `end`, and that what ends before it is refused.
use Rattle.std.specs.Prelude.{◌≡◌, ℕ, ◌+◌, ◌≤◌, true, false, List, [], ◌∷◌, ◌++◌, length, take, sum_by, Some, Ok, Err, codes}
use Rattle.rc_work.specs.Imports.{AllByRecursion, list_all, is_blank, lines_of, is_content, bytes_of_line, plain_text, Broken}
use Rattle.rc_work.specs.declared.also.Also.{Also}
use Rattle.rc_work.specs.LineForms.{words_read}
use Rattle.rc_work.specs.WholeText.{Whole, text_reading}

-- no line of these has content
abbrev pub AreNoContent : List (List ℕ) → Type 0
AreNoContent lines = AllByRecursion (λ line. is_content (bytes_of_line line) ≡ false) lines

-- The last content line of a text has the word `end` alone, and its `d` stands at this place: behind the lines before,
-- spaces or tabs, and `en`.
pub record IsLastLetter (text : List ℕ) (at : ℕ) : Type 0 where
  pub before : List (List ℕ)
  pub blanks : List ℕ
  pub tail : List ℕ
  pub others : List (List ℕ)
  pub lines : lines_of text ≡ before ++ ((blanks ++ codes "en") ++ 100 ∷ tail) ∷ others
  pub are_blank : list_all is_blank blanks ≡ true
  pub only : words_read (bytes_of_line ((blanks ++ codes "en") ++ 100 ∷ tail)) ≡ Some (plain_text (codes "end") ∷ [])
  pub no_content : AreNoContent others
  pub place : at ≡ sum_by length before + length (blanks ++ codes "en")

-- the text gives a refusal
abbrev pub IsRefused : Also → List ℕ → Type 0
IsRefused also text = (broken : Broken) × (text_reading also text ≡ Err broken)

-- Where a text gives a specification and a workload, each prefix that ends before the `d` of its last content line is
-- refused.
abbrev pub CutTextsAreRefused : Type 0
CutTextsAreRefused =
    (also : Also) (text : List ℕ) (whole : Whole) (at n : ℕ) → text_reading also text ≡ Ok whole → IsLastLetter text at → n ≤ at
    → IsRefused also (take n text)

-- Such a text has that `d`.
abbrev pub LastLetterIsThere : Type 0
LastLetterIsThere = (also : Also) (text : List ℕ) (whole : Whole) → text_reading also text ≡ Ok whole → (at : ℕ) × IsLastLetter text at
