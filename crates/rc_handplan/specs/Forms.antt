-- The forms of a statement's line.
use Rattle.std.specs.Prelude.{ℕ, if◌then◌else◌, List, [], ◌∷◌, Option, Some, None, codes}
use Rattle.rc_handplan.specs.Imports.{option_map, option_and_then, bytes_eq, is_number, Mode, Shared, Exclusive, texts, ReadMode, Lookup, Scan, Which}
use Rattle.rc_plan.specs.declared.statement.Which.TheVariants as which
use Rattle.rc_handplan.specs.declared.forms.Keyword.{Keyword}
use Rattle.rc_handplan.specs.declared.forms.Keyword.TheVariants as keyword
use Rattle.rc_handplan.specs.declared.forms.Form.{Form}
use Rattle.rc_handplan.specs.declared.forms.Form.TheVariants as form

-- what the line of a statement says, with its words as they stand
pub data StatementForm : Type 0 where
  -- the class, which of its stripes, and how each is locked
  lock_form : List ℕ → Which → Mode → StatementForm
  -- the columns
  probe_form : List (List ℕ) → StatementForm
  -- the edge, and how its rows are found
  read_form : List ℕ → ReadMode → StatementForm
  absent_form : StatementForm
  found_form : StatementForm
  -- the digits of the dependency's number
  check_form : List ℕ → StatementForm
  apply_form : StatementForm
  emit_form : StatementForm
  commit_form : StatementForm
  -- the class
  release_form : List ℕ → StatementForm

abbrev pub form_text : Form → StatementForm
form_text (form.Lock class choice mode) = lock_form class.now choice mode
form_text (form.Probe columns) = probe_form (texts columns.now)
form_text (form.Read edge mode) = read_form edge.now mode
form_text form.Absent = absent_form
form_text form.Found = found_form
form_text (form.Check number) = check_form number.now
form_text form.Apply = apply_form
form_text form.Emit = emit_form
form_text form.Commit = commit_form
form_text (form.Release class) = release_form class.now

-- ---- the words of a line that says this

abbrev pub which_word : Which → List ℕ
which_word which.Keyed = codes "keyed"
which_word which.All = codes "all"

-- an Exclusive lock has no further word
abbrev pub lock_mode_words : Mode → List (List ℕ)
lock_mode_words Shared = codes "shared" ∷ []
lock_mode_words Exclusive = []

abbrev pub read_mode_word : ReadMode → List ℕ
read_mode_word Lookup = codes "lookup"
read_mode_word Scan = codes "scan"

abbrev pub words_of_form : StatementForm → List (List ℕ)
words_of_form (lock_form class choice mode) = codes "lock" ∷ class ∷ which_word choice ∷ lock_mode_words mode
words_of_form (probe_form columns) = codes "probe" ∷ columns
words_of_form (read_form edge mode) = codes "read" ∷ edge ∷ read_mode_word mode ∷ []
words_of_form absent_form = codes "absent" ∷ []
words_of_form found_form = codes "found" ∷ []
words_of_form (check_form digits) = codes "check" ∷ digits ∷ []
words_of_form apply_form = codes "apply" ∷ []
words_of_form emit_form = codes "emit" ∷ []
words_of_form commit_form = codes "commit" ∷ []
words_of_form (release_form class) = codes "release" ∷ class ∷ []

-- ---- what the words of a line say

-- the first word of a line
abbrev pub keyword_of : List ℕ → Option Keyword
keyword_of word =
    if bytes_eq word (codes "lock") then Some keyword.Lock
    else if bytes_eq word (codes "probe") then Some keyword.Probe
    else if bytes_eq word (codes "read") then Some keyword.Read
    else if bytes_eq word (codes "absent") then Some keyword.Absent
    else if bytes_eq word (codes "found") then Some keyword.Found
    else if bytes_eq word (codes "check") then Some keyword.Check
    else if bytes_eq word (codes "apply") then Some keyword.Apply
    else if bytes_eq word (codes "emit") then Some keyword.Emit
    else if bytes_eq word (codes "commit") then Some keyword.Commit
    else if bytes_eq word (codes "release") then Some keyword.Release
    else None

abbrev pub which_of : List ℕ → Option Which
which_of word =
    if bytes_eq word (codes "keyed") then Some which.Keyed
    else if bytes_eq word (codes "all") then Some which.All
    else None

-- no further word, or `shared`
abbrev pub lock_mode_of : List (List ℕ) → Option Mode
lock_mode_of [] = Some Exclusive
lock_mode_of (word ∷ []) = if bytes_eq word (codes "shared") then Some Shared else None
lock_mode_of (word ∷ other ∷ words) = None

abbrev pub read_mode_of : List ℕ → Option ReadMode
read_mode_of word =
    if bytes_eq word (codes "lookup") then Some Lookup
    else if bytes_eq word (codes "scan") then Some Scan
    else None

-- each of these takes the words behind the first: `lock CLASS keyed` or `all`, and `shared` behind it or not
abbrev pub lock_words : List (List ℕ) → Option StatementForm
lock_words (class ∷ choice ∷ words) =
    option_and_then (λ chosen. option_map (lock_form class chosen) (lock_mode_of words)) (which_of choice)
lock_words words = None

-- `read EDGE lookup` or `scan`
abbrev pub read_words : List (List ℕ) → Option StatementForm
read_words (edge ∷ word ∷ []) = option_map (read_form edge) (read_mode_of word)
read_words words = None

-- `check NUMBER`
abbrev pub check_words : List (List ℕ) → Option StatementForm
check_words (digits ∷ []) = if is_number digits then Some (check_form digits) else None
check_words words = None

-- `release CLASS`
abbrev pub release_words : List (List ℕ) → Option StatementForm
release_words (class ∷ []) = Some (release_form class)
release_words words = None

-- a line of one word
abbrev pub alone : StatementForm → List (List ℕ) → Option StatementForm
alone said [] = Some said
alone said (word ∷ words) = None

abbrev pub form_by : List (List ℕ) → Keyword → Option StatementForm
form_by words keyword.Lock = lock_words words
form_by words keyword.Probe = Some (probe_form words)
form_by words keyword.Read = read_words words
form_by words keyword.Absent = alone absent_form words
form_by words keyword.Found = alone found_form words
form_by words keyword.Check = check_words words
form_by words keyword.Apply = alone apply_form words
form_by words keyword.Emit = alone emit_form words
form_by words keyword.Commit = alone commit_form words
form_by words keyword.Release = release_words words

-- what a line of these words says, if it has a form of a statement
unfoldable pub form_of : List (List ℕ) → Option StatementForm
form_of [] = None
form_of (first ∷ words) = option_and_then (form_by words) (keyword_of first)
