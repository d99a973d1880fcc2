-- The plans that the content lines behind a specification give, or the first broken rule of such lines with its line.
use Rattle.std.specs.Prelude.{ℕ, Bool, true, false, nat_le, ◌==◌, if◌then◌else◌, List, [], ◌∷◌, length, Option, Some, None, Result, Ok, Err, codes}
use Rattle.rc_handplan.specs.Imports.{list_any, option_and_then, ok_or, bytes_eq, Language, ContentLine, TextPlace, content_from, past_end_of, start_of, op_names, Spec, plain_words_of, number_among, Statement}
use Rattle.rc_text.specs.Language as language
use Rattle.rc_handplan.specs.declared.hand.Hand.{Hand}
use Rattle.rc_handplan.specs.declared.refusal.HandRule.{HandRule}
use Rattle.rc_handplan.specs.declared.refusal.HandRule.TheVariants.{H1, H2, H3, H4, S8}
use Rattle.rc_handplan.specs.declared.starts.Closing.{Closing}
use Rattle.rc_handplan.specs.declared.starts.Closing.TheVariants as closings
use Rattle.rc_handplan.specs.declared.starts.LineStart.{LineStart}
use Rattle.rc_handplan.specs.declared.starts.LineStart.TheVariants as starts
use Rattle.rc_handplan.specs.Forms.{StatementForm, form_of}
use Rattle.rc_handplan.specs.Hands.{is_of, with_plan, last_plan, onto_last}
use Rattle.rc_handplan.specs.Starts.{line_start, ends_plans}
use Rattle.rc_handplan.specs.Statements.{statement_of}

-- ---- the head of a plan

-- the operation that is named by the second of two words
abbrev pub op_in_words : Spec → List (List ℕ) → Option ℕ
op_in_words spec (first ∷ name ∷ []) = number_among (op_names spec.ops) name
op_in_words spec words = None

-- the operation that a line `plan NAME` names
abbrev pub op_in_head : Spec → List ℕ → Option ℕ
op_in_head spec bytes = option_and_then (op_in_words spec) (plain_words_of bytes)

-- H1: no operation is named, or it has a plan already
abbrev pub after_op : List Hand → Option ℕ → Result (List Hand) HandRule
after_op hands None = Err H1
after_op hands (Some op) = if list_any (is_of op) hands then Err H1 else Ok (with_plan hands op)

abbrev pub after_head : Spec → List Hand → List ℕ → Result (List Hand) HandRule
after_head spec hands bytes = after_op hands (op_in_head spec bytes)

-- ---- a statement

-- H2: there is no form; H3: the form names what the specification hasn't, or a column twice
abbrev pub statement_by : Spec → Option StatementForm → Result Statement HandRule
statement_by spec None = Err H2
statement_by spec (Some form) = ok_or (statement_of spec form) H3

-- the statement that a line writes; where a word has a fault or is quoted, it has no form
abbrev pub statement_in : Spec → List ℕ → Result Statement HandRule
statement_in spec bytes = statement_by spec (option_and_then form_of (plain_words_of bytes))

-- H4: the last plan has 256 statements before it
abbrev pub with_next : List Hand → Result Statement HandRule → Result (List Hand) HandRule
with_next hands (Err rule) = Err rule
with_next hands (Ok statement) = if nat_le 256 (length (last_plan hands)) then Err H4 else Ok (onto_last hands statement)

abbrev pub after_statement : Spec → List Hand → List ℕ → Result (List Hand) HandRule
after_statement spec hands bytes = with_next hands (statement_in spec bytes)

-- ---- a line

-- what a line gives by what it is; before one that closes them the plans have ended
abbrev pub after_start : Spec → List Hand → LineStart → List ℕ → Result (List Hand) HandRule
after_start spec hands starts.Plan bytes = after_head spec hands bytes
after_start spec hands starts.Work bytes = after_statement spec hands bytes
after_start spec hands starts.End bytes = after_statement spec hands bytes
after_start spec hands starts.Other bytes = after_statement spec hands bytes

-- H1 to H4 for a line behind those that gave these plans
unfoldable pub after_line : Spec → List Hand → List ℕ → Result (List Hand) HandRule
after_line spec hands bytes = after_start spec hands (line_start bytes) bytes

-- what a line leaves: whether the plans ended before it, and the plans
pub record After : Type 0 where
  pub ended : Bool
  pub hands : List Hand

abbrev pub going_on : Result (List Hand) HandRule → Result After HandRule
going_on (Err rule) = Err rule
going_on (Ok hands) = Ok (record { ended = false; hands = hands })

abbrev pub after_bytes : Closing → Spec → List Hand → List ℕ → Result After HandRule
after_bytes closing spec hands bytes =
    if ends_plans closing hands (line_start bytes) then Ok (record { ended = true; hands = hands })
    else going_on (after_line spec hands bytes)

-- ---- the lines

-- the first broken rule, and its line
abbrev pub Broken : Type 0
Broken = language.Broken HandRule

-- plans that were read, and the content lines behind theirs
pub record HandReading : Type 0 where
  pub hands : List Hand
  pub others : List ContentLine

-- The language of the lines of plans. S8: behind a plan they run out before a line that closes the plans, and then the line
-- is one past the last.
abbrev pub hand_language : Closing → Spec → Language (List Hand) After HandReading HandRule
hand_language closing spec = record {
  next = after_bytes closing spec;
  ended = λ after. after.ended;
  state = λ after. after.hands;
  done = λ hands last others. record { hands = hands; others = last ∷ others };
  out = λ past_end hands.
      if length hands == 0 then Ok (record { hands = hands; others = [] })
      else language.broken_at S8 past_end;
}

-- the lines from some plans on, tested in order
unfoldable pub hands_from : Closing → Spec → ℕ → List Hand → List ContentLine → Result HandReading Broken
hands_from closing spec past_end hands lines = language.reading_from (hand_language closing spec) past_end hands lines

-- the plans that stand from a place of a text on, up to a line that begins with the word that closes them
abbrev pub hands_reading_to : Closing → Spec → TextPlace → Result HandReading Broken
hands_reading_to closing spec place = hands_from closing spec (past_end_of place.text) [] (content_from place)

-- those between a specification, which ends before the place, and a workload
abbrev pub hands_reading : Spec → TextPlace → Result HandReading Broken
hands_reading spec place = hands_reading_to closings.Work spec place

-- ---- plans alone

-- the words of the line `end`
abbrev pub are_end : Option (List (List ℕ)) → Bool
are_end None = false
are_end (Some []) = false
are_end (Some (word ∷ [])) = bytes_eq word (codes "end")
are_end (Some (word ∷ next ∷ words)) = false

abbrev pub says_end : List ℕ → Bool
says_end bytes = are_end (plain_words_of bytes)

-- what may stand behind the last plan: nothing, where no line was there at all, or the line `end` and nothing behind it;
-- another line in its place breaks H2, and one behind it S8
abbrev pub closed_by : List Hand → List ContentLine → Result (List Hand) Broken
closed_by hands [] = Ok hands
closed_by hands (line ∷ []) = if says_end line.bytes then Ok hands else language.broken_at H2 line.number
closed_by hands (line ∷ next ∷ others) =
    if says_end line.bytes then language.broken_at S8 next.number else language.broken_at H2 line.number

abbrev pub alone_by : Result HandReading Broken → Result (List Hand) Broken
alone_by (Err broken) = Err broken
alone_by (Ok reading) = closed_by reading.hands reading.others

-- the plans that a text gives in which they stand alone, or the first broken rule with its line
abbrev pub plans_of : Spec → List ℕ → Result (List Hand) Broken
plans_of spec text = alone_by (hands_reading_to closings.End spec (start_of text))
