-- The kinds of lines, and what the kinds of the lines before tell of a line.
use Rattle.std.specs.Prelude.{◌≡◌, ℕ, Bool, List, Option, Some}
use Rattle.rc_text_laws.specs.Imports.{count_by, filter_map, option_map, option_and_then, ContentLine, LineKind, FormText, plain_words_of, form_of, line_kind, is_kind, is_full, is_misplaced, Version}

-- what a line of a text of the version says, if it has one of the forms
abbrev pub line_form : Version → List ℕ → Option FormText
line_form version bytes = option_and_then (form_of version) (plain_words_of bytes)

-- a line says something of which this holds
abbrev pub Says : Version → List ℕ → (FormText → Type 0) → Type 0
Says version bytes P = (form : FormText) × (line_form version bytes ≡ Some form) × P form

-- the kinds of lines, in their order
abbrev pub kinds_of : Version → List ContentLine → List LineKind
kinds_of version lines = filter_map (λ line. option_map line_kind (line_form version line.bytes)) lines

-- how many of the lines are of this kind
abbrev pub how_many : LineKind → List LineKind → ℕ
how_many kind lines = count_by (is_kind kind) lines

-- a line of this kind, behind these lines, is one more than its kind's limit
abbrev pub is_one_too_many : Version → List LineKind → LineKind → Bool
is_one_too_many version lines kind = is_full version (λ other. how_many other lines) kind

-- a line of this kind may not stand behind the header and these lines
abbrev pub is_out_of_order : List LineKind → LineKind → Bool
is_out_of_order lines kind = is_misplaced (λ other. how_many other lines) kind
