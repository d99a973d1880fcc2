-- The forms of a line that brings its own operation, from its words: a thread, a sign, columns, `=`, values, and of a query `->`
-- and columns again.
use Rattle.std.specs.Prelude.{ℕ, Bool, true, false, if◌then◌else◌, List, [], ◌∷◌, drop, Option, Some, None, codes}
use Rattle.rc_work.specs.Imports.{list_all, list_any, before_first, filter_map, position_or_len, bytes_eq, WordText, plain_text, quoted_text, is_number}
use Rattle.rc_work.specs.declared.shape_forms.Kind.{Kind}
use Rattle.rc_work.specs.declared.shape_forms.Kind.TheVariants as kinds
use Rattle.rc_work.specs.declared.shape_forms.Parts.{Parts}
use Rattle.rc_work.specs.declared.shape_forms.ShapeForm.{ShapeForm}
use Rattle.rc_work.specs.LineForms.{is_value, word_texts}

-- what the operation does, with the words of its range columns and of its outputs
pub data KindText : Type 0 where
  query_kind : List WordText → List WordText → KindText
  insert_kind : KindText
  remove_kind : KindText
  update_kind : KindText

abbrev pub kind_text : Kind → KindText
kind_text (kinds.Query ranges outs) = query_kind (word_texts ranges.now) (word_texts outs.now)
kind_text kinds.Insert = insert_kind
kind_text kinds.Remove = remove_kind
kind_text kinds.Update = update_kind

-- what a line says that brings its own operation, with its words as they stand
pub record ShapeText : Type 0 where
  pub thread : List ℕ
  pub pattern : List WordText
  pub kind : KindText
  pub values : List WordText

abbrev pub shape_text : ShapeForm → ShapeText
shape_text form = record {
  thread = form.thread.now;
  pattern = word_texts form.pattern.now;
  kind = kind_text form.kind;
  values = word_texts form.values.now;
}

abbrev pub is_plain : WordText → Bool
is_plain (plain_text word) = true
is_plain (quoted_text text) = false

abbrev pub plain_word : WordText → Option (List ℕ)
plain_word (plain_text word) = Some word
plain_word (quoted_text text) = None

-- words without quotes
abbrev pub plain_words : List WordText → List (List ℕ)
plain_words words = filter_map plain_word words

-- a word that is not quoted, and is this one
abbrev pub is_mark : List ℕ → WordText → Bool
is_mark mark (plain_text word) = bytes_eq word mark
is_mark mark (quoted_text text) = false

abbrev pub has_mark : List ℕ → List WordText → Bool
has_mark mark words = list_any (is_mark mark) words

-- two lists of words
pub record PartsText : Type 0 where
  pub before : List WordText
  pub behind : List WordText

abbrev pub parts_text : Parts → PartsText
parts_text parts = record { before = word_texts parts.before.now; behind = word_texts parts.behind.now }

abbrev pub parts_by : List WordText → List WordText → Option PartsText
parts_by before [] = None
parts_by before (mark ∷ behind) = Some (record { before = before; behind = behind })

-- the words before the first mark, and those behind it
abbrev pub parts_at : List ℕ → List WordText → Option PartsText
parts_at mark words = parts_by (before_first (is_mark mark) words) (drop (position_or_len (is_mark mark) words) words)

-- a form in which no column is quoted
abbrev pub are_plain : KindText → Bool
are_plain (query_kind ranges outs) = if list_all is_plain ranges then list_all is_plain outs else false
are_plain insert_kind = true
are_plain remove_kind = true
are_plain update_kind = true

-- and in which the values are digits or quoted
abbrev pub form_with : List ℕ → List WordText → KindText → List WordText → Option ShapeText
form_with thread pattern kind values =
    if list_all is_plain pattern then (
    if are_plain kind then (
    if list_all is_value values then Some (record { thread = thread; pattern = pattern; kind = kind; values = values }) else None)
    else None)
    else None

abbrev pub change_by : List ℕ → KindText → Option PartsText → Option ShapeText
change_by thread kind None = None
change_by thread kind (Some parts) = form_with thread parts.before kind parts.behind

-- `COLS = VALUES`
abbrev pub change_form : List ℕ → KindText → List WordText → Option ShapeText
change_form thread kind words = change_by thread kind (parts_at (codes "=") words)

-- an update, where the text may have one
abbrev pub update_form : Bool → List ℕ → List WordText → Option ShapeText
update_form later thread words = if later then change_form thread update_kind words else None

-- the words before the first `:`, and those from it on: another word stands behind it
abbrev pub ranges_by : List WordText → List WordText → Option PartsText
ranges_by before [] = Some (record { before = before; behind = [] })
ranges_by before (colon ∷ []) = None
ranges_by before (colon ∷ first ∷ others) = Some (record { before = before; behind = first ∷ others })

-- the pattern and the range columns; in a text that has no ranges no `:` stands among them
abbrev pub split_ranges : Bool → List WordText → Option PartsText
split_ranges later words =
    if later then ranges_by (before_first (is_mark (codes ":")) words) (drop (position_or_len (is_mark (codes ":")) words) words)
    else if has_mark (codes ":") words then None
    else Some (record { before = words; behind = [] })

-- the pattern with the ranges, and the values with the outputs: one `->` stands there, behind the `=`
abbrev pub query_lists : List ℕ → Option PartsText → Option PartsText → Option ShapeText
query_lists thread None values = None
query_lists thread (Some columns) None = None
query_lists thread (Some columns) (Some values) =
    if has_mark (codes "->") values.behind then None
    else form_with thread columns.before (query_kind columns.behind values.behind) values.before

abbrev pub query_by : Bool → List ℕ → Option PartsText → Option ShapeText
query_by later thread None = None
query_by later thread (Some parts) =
    if has_mark (codes "->") parts.before then None
    else query_lists thread (split_ranges later parts.before) (parts_at (codes "->") parts.behind)

-- `COLS = VALUES -> COLS`, or `COLS : COLS = VALUES -> COLS`
abbrev pub query_form : Bool → List ℕ → List WordText → Option ShapeText
query_form later thread words = query_by later thread (parts_at (codes "=") words)

-- what the words behind the sign say
abbrev pub signed_form : Bool → List ℕ → List ℕ → List WordText → Option ShapeText
signed_form later thread sign words =
    if bytes_eq sign (codes "?") then query_form later thread words
    else if bytes_eq sign (codes "+") then change_form thread insert_kind words
    else if bytes_eq sign (codes "-") then change_form thread remove_kind words
    else if bytes_eq sign (codes "!") then update_form later thread words
    else None

-- what a line of these words says that brings its own operation, if it has one of the forms; `later` texts have ranges and updates
unfoldable pub shape_form : Bool → List WordText → Option ShapeText
shape_form later (plain_text first ∷ plain_text sign ∷ words) = if is_number first then signed_form later first sign words else None
shape_form later words = None
