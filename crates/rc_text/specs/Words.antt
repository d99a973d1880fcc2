-- The words of a line, and the faults in them.
use Rattle.std.specs.Prelude.{◌≡◌, ℕ, zero, suc, Bool, true, false, if◌then◌else◌, List, [], ◌∷◌, ◌++◌, length, drop, Option, Some, None, Result, Ok, Err, MatchBool}
use Rattle.std.specs.List.{list_all, before_first, position_or_len}
use Rattle.std.specs.Borrow.{Bor}
use Rattle.rc_text.specs.Bytes.{is_blank, is_quote, is_text_byte, is_plain_byte, is_quotable_byte, without_blanks}
use Rattle.rc_text.specs.declared.words.Word.{Word}
use Rattle.rc_text.specs.declared.words.Word.TheVariants as word
use Rattle.rc_text.specs.declared.words.WordFault.{WordFault}
use Rattle.rc_text.specs.declared.words.WordFault.TheVariants.{BadByte, Quote}

-- a word of a line: a plain one, or the text of a quoted one
pub data WordText : Type 0 where
  plain_text : List ℕ → WordText
  quoted_text : List ℕ → WordText

-- a word of the code without where it lies in memory
abbrev pub text_of : Word → WordText
text_of (word.Plain bytes) = plain_text bytes.now
text_of (word.Quoted bytes) = quoted_text bytes.now

-- a word, or none, and the bytes after it; or the fault in the word
abbrev pub Found : Type 0
Found = Result (Option (WordText × List ℕ)) WordFault

-- a word that begins with no `"` runs to the next space or tab
abbrev pub plain_at : List ℕ → Found
plain_at bytes =
    if list_all is_text_byte (before_first is_blank bytes)
    then Ok (Some (plain_text (before_first is_blank bytes), drop (position_or_len is_blank bytes) bytes))
    else Err BadByte

-- after a word comes a space, a tab or the line's end
abbrev pub ends_word : List ℕ → Bool
ends_word [] = true
ends_word (b ∷ bs) = is_blank b

-- the closing `"` of a quoted text, and what stands after it
abbrev pub closed_at : List ℕ → List ℕ → Found
closed_at text [] = Err Quote
closed_at text (quote ∷ after) = if ends_word after then Ok (Some (quoted_text text, after)) else Err Quote

-- a word that begins with `"` runs to the next `"`; these are the bytes behind the first
abbrev pub quoted_at : List ℕ → Found
quoted_at bytes =
    if list_all is_text_byte (before_first is_quote bytes)
    then closed_at (before_first is_quote bytes) (drop (position_or_len is_quote bytes) bytes)
    else Err BadByte

-- the word that begins here
abbrev pub word_at : List ℕ → Found
word_at [] = Ok None
word_at (b ∷ bs) = if is_quote b then quoted_at bs else plain_at (b ∷ bs)

-- the next word of a line
unfoldable pub next_word_of : List ℕ → Found
next_word_of bytes = word_at (without_blanks bytes)

-- what was found, then the words of what is left, by `others`
abbrev pub found_then : Found → (List ℕ → List (Result WordText WordFault)) → List (Result WordText WordFault)
found_then (Ok None) others = []
found_then (Ok (Some found)) others = Ok found.0 ∷ others found.1
found_then (Err fault) others = Err fault ∷ []

-- at most so many words of a line, up to the first fault
abbrev pub words_within : ℕ → List ℕ → List (Result WordText WordFault)
words_within zero bytes = []
words_within (suc most) bytes = found_then (next_word_of bytes) (words_within most)

-- the words of a line, up to the first fault (a line has no more words than bytes)
unfoldable pub words_of : List ℕ → List (Result WordText WordFault)
words_of bytes = words_within (length bytes) bytes

-- what a function of the code found, seen without memory
abbrev pub IsFound : Result (Option (Word × Bor (List ℕ))) WordFault → Found → Type 0
IsFound (Ok None) found = found ≡ Ok None
IsFound (Ok (Some x)) found = found ≡ Ok (Some (text_of x.0, x.1.now))
IsFound (Err fault) found = found ≡ Err fault

-- What `next_word` answers, and the bytes that it leaves: a fault and none leave all.
abbrev pub TakesWord : List ℕ → Result (Option Word) WordFault → List ℕ → Type 0
TakesWord old (Ok None) new = (next_word_of old ≡ Ok None) × (new ≡ old)
TakesWord old (Ok (Some word)) new = next_word_of old ≡ Ok (Some (text_of word, new))
TakesWord old (Err fault) new = (next_word_of old ≡ Err fault) × (new ≡ old)

-- an answer of `next_word` as the first of a line's words; the others are those of what is left
abbrev pub word_then : Result (Option Word) WordFault → List (Result WordText WordFault) → List (Result WordText WordFault)
word_then (Ok None) others = []
word_then (Ok (Some word)) others = Ok (text_of word) ∷ others
word_then (Err fault) others = Err fault ∷ []

-- a text in quotes
abbrev pub quoted : List ℕ → List ℕ
quoted text = 34 ∷ (text ++ 34 ∷ [])

-- a word as it is written
abbrev pub written : WordText → List ℕ
written (plain_text text) = text
written (quoted_text text) = quoted text

-- a text that may be written plain: it is not empty, and does not begin with `"`
abbrev pub IsPlain : List ℕ → Type 0
IsPlain [] = ⊥
IsPlain (b ∷ bs) = (is_quote b ≡ false) × (list_all is_plain_byte (b ∷ bs) ≡ true)

-- a word that can be written so that it is read again
abbrev pub IsWritable : WordText → Type 0
IsWritable (plain_text text) = IsPlain text
IsWritable (quoted_text text) = list_all is_quotable_byte text ≡ true

-- The next word of a line: behind spaces and tabs it stands as it is written, and after it comes a space, a tab or
-- the line's end.
pub record HasWord (line : List ℕ) (word : WordText) (after : List ℕ) : Type 0 where
  pub blanks : List ℕ
  pub are_blanks : list_all is_blank blanks ≡ true
  pub is_writable : IsWritable word
  pub ends : ends_word after ≡ true
  pub whole : line ≡ blanks ++ (written word ++ after)

-- the front of a word that has not ended yet: of a plain one, or a `"` and the front of a text in quotes
abbrev pub IsWordFront : List ℕ → Type 0
IsWordFront [] = Unit {0}
IsWordFront (b ∷ bs) = MatchBool (is_quote b) (list_all is_quotable_byte bs ≡ true) (list_all is_plain_byte (b ∷ bs) ≡ true)

-- The next word of a line holds a byte that no word may hold.
pub record HasBadByte (line : List ℕ) : Type 0 where
  pub blanks : List ℕ
  pub front : List ℕ
  pub bad : ℕ
  pub after : List ℕ
  pub are_blanks : list_all is_blank blanks ≡ true
  pub is_front : IsWordFront front
  pub is_bad : is_text_byte bad ≡ false
  pub whole : line ≡ blanks ++ (front ++ bad ∷ after)

-- what comes behind a text in quotes, where that is no closing `"` with a space, a tab or the line's end after it
abbrev pub IsUnclosed : List ℕ → Type 0
IsUnclosed [] = Unit {0}
IsUnclosed (b ∷ after) = (is_quote b ≡ true) × (ends_word after ≡ false)

-- The next word of a line begins with `"`, and is not closed as it should be.
pub record HasQuoteFault (line : List ℕ) : Type 0 where
  pub blanks : List ℕ
  pub text : List ℕ
  pub after : List ℕ
  pub are_blanks : list_all is_blank blanks ≡ true
  pub is_quotable : list_all is_quotable_byte text ≡ true
  pub is_unclosed : IsUnclosed after
  pub whole : line ≡ blanks ++ (34 ∷ (text ++ after))

-- what comes next on a line, in the words of the format
abbrev pub ComesNext : List ℕ → Found → Type 0
ComesNext line (Ok None) = list_all is_blank line ≡ true
ComesNext line (Ok (Some found)) = HasWord line found.0 found.1
ComesNext line (Err BadByte) = HasBadByte line
ComesNext line (Err Quote) = HasQuoteFault line
