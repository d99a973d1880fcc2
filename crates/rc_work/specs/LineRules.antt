-- The rules that a line behind the header may break, after the lines before it, and what it adds where it breaks none.
use Rattle.std.specs.Prelude.{ℕ, Bool, true, false, not, ◌&&◌, ◌||◌, ◌==◌, nat_le, nat_lt, if◌then◌else◌, List, [], ◌∷◌, ◌++◌, length, Option, Some, None, is_none, is_some, unwrap_or, Result, Ok, Err}
use Rattle.rc_work.specs.Imports.{list_any, filter_map, option_map_or, WordText, plain_text, quoted_text, u64_of, NumFault, op_names, ColKind, Op, Spec, number_among, LineRule, S5, S6, S7, S8, W1, W2, W3, W5}
use Rattle.rc_spec.specs.declared.items.ColKind.TheVariants as kinds
use Rattle.rc_work.specs.declared.raw.RawValue.{RawValue}
use Rattle.rc_work.specs.declared.raw.RawValue.TheVariants as raw
use Rattle.rc_work.specs.declared.raw.RawCall.{RawCall}
use Rattle.rc_work.specs.declared.draft.Draft.{Draft}
use Rattle.rc_work.specs.Printed.{kind_at}
use Rattle.rc_work.specs.CallColumns.{written_columns, written_columns_at}
use Rattle.rc_work.specs.UnfilledGroups.{count_in, is_others, with_call}
use Rattle.rc_work.specs.LineForms.{FormText, round_line, end_line, call_line, group_line}

abbrev pub thread_by : ℕ → Result ℕ NumFault → Option ℕ
thread_by threads (Ok number) = if nat_lt number threads then Some number else None
thread_by threads (Err fault) = None

-- the thread that a word of digits names, if it is below the count
abbrev pub thread_of : ℕ → List ℕ → Option ℕ
thread_of threads word = thread_by threads (u64_of word)

abbrev pub size_by : Result ℕ NumFault → Option ℕ
size_by (Ok number) = if nat_le 2 number && nat_le number 16 then Some number else None
size_by (Err fault) = None

-- how many calls a word of digits says that a group has, if they are 2 to 16
abbrev pub group_size : List ℕ → Option ℕ
group_size word = size_by (u64_of word)

abbrev pub number_by : Result ℕ NumFault → Option RawValue
number_by (Ok number) = Some (raw.Number number)
number_by (Err fault) = None

-- the value that digits or a quoted word stand for, if the number is at most 2^64 - 1 and the text has at most 64 bytes
abbrev pub raw_value : WordText → Option RawValue
raw_value (plain_text word) = number_by (u64_of word)
raw_value (quoted_text text) = if nat_le (length text) 64 then Some (raw.Text text) else None

abbrev pub raw_values : List WordText → List RawValue
raw_values words = filter_map raw_value words

abbrev pub is_too_large : WordText → Bool
is_too_large word = is_none (raw_value word)

-- the number of the operation with this name
abbrev pub op_number : Spec → List ℕ → Option ℕ
op_number spec word = number_among (op_names spec.ops) word

-- the columns to which a call of that operation gives values
abbrev pub columns_named : Spec → List ℕ → List ℕ
columns_named spec word = option_map_or (written_columns_at spec) (op_number spec word) []

-- a number for a column of texts, or a text for a column of numbers
abbrev pub is_wrong_kind : ColKind → RawValue → Bool
is_wrong_kind kinds.Num (raw.Number number) = false
is_wrong_kind kinds.Num (raw.Text text) = true
is_wrong_kind kinds.Text (raw.Number number) = true
is_wrong_kind kinds.Text (raw.Text text) = false

-- a value is so for the column beside it
abbrev pub has_wrong_kind : Spec → List ℕ → List RawValue → Bool
has_wrong_kind spec [] values = false
has_wrong_kind spec (col ∷ cols) [] = false
has_wrong_kind spec (col ∷ cols) (value ∷ values) = is_wrong_kind (kind_at spec col) value || has_wrong_kind spec cols values

-- the call of an operation that has this number, or the first of W2 and W3 that its values break
abbrev pub read_call : Spec → Op → ℕ → List WordText → Result RawCall LineRule
read_call spec op number values =
    if not (length values == length (written_columns spec op)) then Err W2
    else if has_wrong_kind spec (written_columns spec op) (raw_values values) then Err W3
    else Ok (record { op = number; cols = written_columns spec op; values = raw_values values })

-- S5: a thread that is not below the count, a value above 2^64 - 1, a text of more than 64 bytes, or a group of fewer
-- than 2 or more than 16 calls
abbrev pub breaks_range : Draft → FormText → Bool
breaks_range draft round_line = false
breaks_range draft end_line = false
breaks_range draft (call_line thread op values) = is_none (thread_of draft.threads thread) || list_any is_too_large values
breaks_range draft (group_line thread size) = is_none (thread_of draft.threads thread) || is_none (group_size size)

-- S6: the line is one more than 64 rounds, or than 20,000 calls
abbrev pub breaks_limit : Draft → FormText → Bool
breaks_limit draft round_line = nat_le 64 (length draft.rounds)
breaks_limit draft end_line = false
breaks_limit draft (call_line thread op values) = nat_le 20000 (count_in draft)
breaks_limit draft (group_line thread size) = false

-- S7: a call before the first `round`
abbrev pub breaks_order : Draft → FormText → Bool
breaks_order draft round_line = false
breaks_order draft end_line = false
breaks_order draft (call_line thread op values) = length draft.rounds == 0
breaks_order draft (group_line thread size) = false

-- W1: the word names no operation
abbrev pub breaks_operation : Spec → FormText → Bool
breaks_operation spec round_line = false
breaks_operation spec end_line = false
breaks_operation spec (call_line thread op values) = is_none (op_number spec op)
breaks_operation spec (group_line thread size) = false

-- W2: the number of values is not the operation's
abbrev pub breaks_count : Spec → FormText → Bool
breaks_count spec round_line = false
breaks_count spec end_line = false
breaks_count spec (call_line thread op values) = not (length values == length (columns_named spec op))
breaks_count spec (group_line thread size) = false

-- W3: a number for a column of texts, or a text for a column of numbers
abbrev pub breaks_kinds : Spec → FormText → Bool
breaks_kinds spec round_line = false
breaks_kinds spec end_line = false
breaks_kinds spec (call_line thread op values) = has_wrong_kind spec (columns_named spec op) (raw_values values)
breaks_kinds spec (group_line thread size) = false

-- the thread that a line names
abbrev pub thread_in : Draft → List ℕ → ℕ
thread_in draft word = unwrap_or (thread_of draft.threads word) 0

-- the thread of a call with these values, or the first rule from S5 to S8 that the call breaks: S6 where it is one too many
abbrev pub call_thread : Draft → Bool → List ℕ → List WordText → Result ℕ LineRule
call_thread draft is_full thread values =
    if is_none (thread_of draft.threads thread) || list_any is_too_large values then Err S5
    else if is_full then Err S6
    else if length draft.rounds == 0 then Err S7
    else if draft.ended then Err S8
    else Ok (thread_in draft thread)

-- W5: the line stands within a group, and is no call of the group's thread
abbrev pub breaks_group : Draft → FormText → Bool
breaks_group draft round_line = is_some draft.group
breaks_group draft end_line = is_some draft.group
breaks_group draft (call_line thread op values) = is_others draft.group (thread_in draft thread)
breaks_group draft (group_line thread size) = is_some draft.group

-- the call of a line
abbrev pub raw_call : Spec → List ℕ → List WordText → RawCall
raw_call spec op values = record {
  op = unwrap_or (op_number spec op) 0;
  cols = columns_named spec op;
  values = raw_values values;
}

-- what was read, with the line
abbrev pub with_line : Spec → Draft → FormText → Draft
with_line spec draft round_line = record draft { rounds = draft.rounds ++ [] ∷ [] }
with_line spec draft end_line = record draft { ended = true }
with_line spec draft (call_line thread op values) = with_call draft (thread_in draft thread) (raw_call spec op values)
with_line spec draft (group_line thread size) =
    record draft { group = Some (record { size = unwrap_or (group_size size) 0; turn = record { thread = thread_in draft thread; calls = [] } }) }

-- the first rule from S5 on that the line breaks, or what was read with it; S8: a line after `end`
abbrev pub after_form : Spec → Draft → FormText → Result Draft LineRule
after_form spec draft form =
    if breaks_range draft form then Err S5
    else if breaks_limit draft form then Err S6
    else if breaks_order draft form then Err S7
    else if draft.ended then Err S8
    else if breaks_operation spec form then Err W1
    else if breaks_count spec form then Err W2
    else if breaks_kinds spec form then Err W3
    else if breaks_group draft form then Err W5
    else Ok (with_line spec draft form)
