-- What a line is, by its words.
use Rattle.std.proofs.Common.{◌≡◌, ℕ, List, [], ◌∷◌, Option, Some, None, Result, Ok, Err, sym, ap, ◌∙◌}
use Rattle.rc_handplan.specs.Imports.{WordText, plain_text, quoted_text, Found, next_word_of, words_of, found_then, words_of-step, WordFault, onto_words, all_plain, plain_words_of}
use Rattle.rc_handplan.specs.Starts.{start_of_word, start_by, start_of, line_start}

same_first : (word : List ℕ) (others : Option (List (List ℕ))) (first : List ℕ) (words : List (List ℕ))
    → onto_words word others ≡ Some (first ∷ words) → word ≡ first
same_first word None first words e = absurd cc
same_first word (Some more) first words e =
    let same : word ∷ more ≡ first ∷ words = cc in ap (λ (xs : List (List ℕ)). first_of word xs) same
  where
    first_of : List ℕ → List (List ℕ) → List ℕ
    first_of none [] = none
    first_of none (x ∷ xs) = x

by_word : (word : WordText) (after : List (Result WordText WordFault)) (first : List ℕ) (words : List (List ℕ))
    → all_plain (Ok word ∷ after) ≡ Some (first ∷ words) → start_by word ≡ start_of_word first
by_word (plain_text word) after first words e = ap start_of_word (same_first word (all_plain after) first words e)
by_word (quoted_text text) after first words e = absurd cc

by_found : (found : Found) (first : List ℕ) (words : List (List ℕ))
    → all_plain (found_then found words_of) ≡ Some (first ∷ words) → start_of found ≡ start_of_word first
by_found (Ok None) first words e = absurd cc
by_found (Ok (Some found)) first words e = by_word found.0 (words_of found.1) first words e
by_found (Err fault) first words e = absurd cc

-- a line whose words are plain is what its first word says
pub start_is_first : (bytes first : List ℕ) (words : List (List ℕ)) → plain_words_of bytes ≡ Some (first ∷ words)
    → line_start bytes ≡ start_of_word first
start_is_first bytes first words e =
    by_found (next_word_of bytes) first words (ap all_plain (sym (words_of-step bytes)) ∙ e)
