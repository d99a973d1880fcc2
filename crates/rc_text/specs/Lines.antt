-- The lines of a text, and which of them have content.
use Rattle.std.specs.Prelude.{◌≡◌, ◌≢◌, ℕ, ◌+◌, ◌-◌, ◌≤◌, Bool, true, false, not, ◌==◌, if◌then◌else◌, List, [], ◌∷◌, ◌++◌, length, take, drop, map, sum_by}
use Rattle.std.specs.List.{list_all, flat_map}
use Rattle.rc_text.specs.Bytes.{is_text_byte, without_blanks}
use Rattle.rc_text.specs.declared.lines.Line.{Line}

-- a byte put before the first line of a text
abbrev pub onto_first : ℕ → List (List ℕ) → List (List ℕ)
onto_first b [] = (b ∷ []) ∷ []
onto_first b (line ∷ lines) = (b ∷ line) ∷ lines

-- The lines of a text, each with the line feed that ends it; the last one may lack it.
abbrev pub lines_of : List ℕ → List (List ℕ)
lines_of [] = []
lines_of (b ∷ bs) = if b == 10 then (b ∷ []) ∷ lines_of bs else onto_first b (lines_of bs)

-- one more than the number of a text's last line
abbrev pub past_end_of : List ℕ → ℕ
past_end_of text = length (lines_of text) + 1

-- a list without its last byte, where that is `last`
abbrev pub without_last : ℕ → List ℕ → List ℕ
without_last last [] = []
without_last last (b ∷ []) = if b == last then [] else b ∷ []
without_last last (b ∷ c ∷ bs) = b ∷ without_last last (c ∷ bs)

-- the bytes of a line: no line feed, and no carriage return directly before the line's end
abbrev pub bytes_of_line : List ℕ → List ℕ
bytes_of_line line = without_last 13 (without_last 10 line)

-- what stands first, past spaces and tabs, is there and is no `#`
abbrev pub begins_content : List ℕ → Bool
begins_content [] = false
begins_content (b ∷ bs) = not (b == 35)

-- a line that is neither blank nor a comment
abbrev pub is_content : List ℕ → Bool
is_content bytes = begins_content (without_blanks bytes)

-- a content line: its number, its bytes, and where in the text the next line begins
pub record ContentLine : Type 0 where
  pub number : ℕ
  pub bytes : List ℕ
  pub next : ℕ

-- The content lines among these lines, the first of which begins at `at` and has the number `number`.
abbrev pub content_among : ℕ → ℕ → List (List ℕ) → List ContentLine
content_among at number [] = []
content_among at number (line ∷ lines) =
    let others = content_among (at + length line) (number + 1) lines in
    if is_content (bytes_of_line line)
    then record { number = number; bytes = bytes_of_line line; next = at + length line } ∷ others
    else others

-- A place in a text: where a line begins, and the line's number.
pub record TextPlace : Type 0 where
  pub text : List ℕ
  pub at : ℕ
  pub line : ℕ

-- where a text begins
abbrev pub start_of : List ℕ → TextPlace
start_of text = record { text = text; at = 0; line = 1 }

-- the lines from a place on
abbrev pub lines_from : TextPlace → List (List ℕ)
lines_from place = lines_of (drop place.at place.text)

-- the content lines from a place on
abbrev pub content_from : TextPlace → List ContentLine
content_from place = content_among place.at place.line (lines_from place)

-- A line of the text begins at `at` and has this number, or `at` is the text's end and the number is one more
-- than that of its last line: the lines before it, one fewer than its number, take up the text to `at`.
pub record IsLineStart (place : TextPlace) : Type 0 where
  pub first : 1 ≤ place.line
  pub last : place.line ≤ past_end_of place.text
  pub before : place.at ≡ sum_by length (take (place.line - 1) (lines_of place.text))

-- a line of the code without where it lies in memory
abbrev pub content_of : Line → ContentLine
content_of line = record { number = line.number; bytes = line.bytes.now; next = line.next }

-- where the line after this one begins
abbrev pub after_line : TextPlace → Line → TextPlace
after_line place line = record { text = place.text; at = line.next; line = line.number + 1 }

-- it is not empty, and a line feed stands at its end alone, if there
abbrev pub IsLine : List ℕ → Type 0
IsLine [] = ⊥
IsLine (b ∷ []) = Unit {0}
IsLine (b ∷ c ∷ bs) = (b ≢ 10) × IsLine (c ∷ bs)

-- no byte of these ends a line
abbrev pub lacks_line_feed : List ℕ → Bool
lacks_line_feed bytes = list_all (λ b. not (b == 10)) bytes

-- lines as they are printed, each with a line feed behind it
abbrev pub printed_lines : List (List ℕ) → List ℕ
printed_lines lines = flat_map (λ line. line ++ 10 ∷ []) lines

-- a line that is read again where it is printed: it holds only bytes that a word may hold, and is neither blank nor a comment
pub record IsPrintable (line : List ℕ) : Type 0 where
  pub bytes : list_all is_text_byte line ≡ true
  pub content : is_content line ≡ true

-- content lines without their places
abbrev pub bytes_of_content : List ContentLine → List (List ℕ)
bytes_of_content lines = map (λ line. line.bytes) lines
