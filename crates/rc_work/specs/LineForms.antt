-- The forms of a workload's lines, from their words.
use Rattle.std.specs.Prelude.{ℕ, Bool, true, ◌&&◌, if◌then◌else◌, List, [], ◌∷◌, map, Option, Some, None, Result, Ok, Err, codes}
use Rattle.rc_work.specs.Imports.{list_all, bytes_eq, WordText, plain_text, quoted_text, text_of, words_of, Word, WordFault, is_number}
use Rattle.rc_work.specs.declared.also.Also.{Also}
use Rattle.rc_work.specs.declared.also.Also.TheVariants.{Nothing, Groups}
use Rattle.rc_work.specs.declared.forms.Form.{Form}
use Rattle.rc_work.specs.declared.forms.Form.TheVariants as forms

-- words without where they lie in memory
abbrev pub word_texts : List Word → List WordText
word_texts words = map text_of words

-- a word put before the words that are read, if they are
abbrev pub onto_words : WordText → Option (List WordText) → Option (List WordText)
onto_words word None = None
onto_words word (Some words) = Some (word ∷ words)

-- the words of a line, if none has a fault
abbrev pub all_read : List (Result WordText WordFault) → Option (List WordText)
all_read [] = Some []
all_read (Ok word ∷ words) = onto_words word (all_read words)
all_read (Err fault ∷ words) = None

abbrev pub words_read : List ℕ → Option (List WordText)
words_read bytes = all_read (words_of bytes)

-- what a line behind the header says: a call has the word of its thread, the word of its operation, and the words of
-- its values, each of which is digits or quoted; a group has the word of its thread and that of the number of its calls
pub data FormText : Type 0 where
  round_line : FormText
  end_line : FormText
  call_line : List ℕ → List ℕ → List WordText → FormText
  group_line : List ℕ → List ℕ → FormText

abbrev pub form_text : Form → FormText
form_text forms.Round = round_line
form_text forms.End = end_line
form_text (forms.Call thread op values) = call_line thread.now op.now (word_texts values.now)
form_text (forms.Group thread size) = group_line thread.now size.now

-- a line of one word
abbrev pub alone : FormText → List WordText → Option FormText
alone form [] = Some form
alone form (word ∷ words) = None

-- a word that stands for a value
abbrev pub is_value : WordText → Bool
is_value (plain_text word) = is_number word
is_value (quoted_text text) = true

abbrev pub call_form : List ℕ → List WordText → Option FormText
call_form thread (plain_text op ∷ values) = if list_all is_value values then Some (call_line thread op values) else None
call_form thread (quoted_text text ∷ values) = None
call_form thread [] = None

-- `&` and a number behind the thread
abbrev pub group_form : List ℕ → List WordText → Option FormText
group_form thread (plain_text sign ∷ plain_text size ∷ []) =
    if bytes_eq sign (codes "&") && is_number size then Some (group_line thread size) else None
group_form thread words = None

abbrev pub or_call : Option FormText → List ℕ → List WordText → Option FormText
or_call (Some form) thread words = Some form
or_call None thread words = call_form thread words

-- what the words behind a thread say: where groups are read, what hasn't the form of a group may be a call
abbrev pub thread_form : Also → List ℕ → List WordText → Option FormText
thread_form Nothing thread words = call_form thread words
thread_form Groups thread words = or_call (group_form thread words) thread words

-- what a line with this first word and these further words says, if it has one of the forms
abbrev pub form_by : Also → List ℕ → List WordText → Option FormText
form_by also first words =
    if bytes_eq first (codes "round") then alone round_line words
    else if bytes_eq first (codes "end") then alone end_line words
    else if is_number first then thread_form also first words
    else None

unfoldable pub form_of : Also → List WordText → Option FormText
form_of also [] = None
form_of also (plain_text first ∷ words) = form_by also first words
form_of also (quoted_text text ∷ words) = None
