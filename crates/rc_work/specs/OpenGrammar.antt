-- What the content lines behind a specification give where calls may bring their own operation: a workload and the shapes of
-- these operations, or the first broken line rule with its line.
use Rattle.std.specs.Prelude.{ℕ, Bool, false, nat_le, if◌then◌else◌, List, [], Option, Some, None, Result, Ok, Err}
use Rattle.rc_text.specs.Language as language
use Rattle.rc_work.specs.Imports.{Language, ContentLine, TextPlace, content_from, past_end_of, WordText, Spec, Broken, LineRule, S2, S8}
use Rattle.rc_work.specs.declared.also.Also.TheVariants.{Nothing}
use Rattle.rc_work.specs.declared.draft.Draft.{Draft}
use Rattle.rc_work.specs.declared.open_work.OpenWork.{OpenWork}
use Rattle.rc_work.specs.declared.shapes.OpenDraft.{OpenDraft}
use Rattle.rc_work.specs.LineForms.{FormText, words_read, form_of}
use Rattle.rc_work.specs.LineRules.{after_form}
use Rattle.rc_work.specs.Ranking.{work_of}
use Rattle.rc_work.specs.ShapeForms.{ShapeText, shape_form}
use Rattle.rc_work.specs.ShapeRules.{after_shape}
use Rattle.rc_work.specs.Shapes.{with_operations}
use Rattle.rc_work.specs.WorkGrammar.{Headed, broken_at, draft_of, headed}

abbrev pub with_draft : OpenDraft → Result Draft LineRule → Result OpenDraft LineRule
with_draft read (Ok draft) = Ok (record read { draft = draft })
with_draft read (Err rule) = Err rule

abbrev pub after_shape_of : Spec → OpenDraft → Option ShapeText → Result OpenDraft LineRule
after_shape_of spec read None = Err S2
after_shape_of spec read (Some shape) = after_shape spec read shape

-- a line of a form that each workload has, or else one that brings its own operation
abbrev pub after_open_form : Bool → Spec → OpenDraft → List WordText → Option FormText → Result OpenDraft LineRule
after_open_form later spec read words (Some form) = with_draft read (after_form spec read.draft form)
after_open_form later spec read words None = after_shape_of spec read (shape_form later words)

abbrev pub after_open_words : Bool → Spec → OpenDraft → Option (List WordText) → Result OpenDraft LineRule
after_open_words later spec read None = Err S2
after_open_words later spec read (Some words) = after_open_form later spec read words (form_of Nothing words)

-- S2 to W4 for a line behind the header, after the lines that gave this; `later` texts have ranges and updates
unfoldable pub after_open : Bool → Spec → OpenDraft → List ℕ → Result OpenDraft LineRule
after_open later spec read bytes = after_open_words later spec read (words_read bytes)

-- The language of the lines behind the header, of which none ends the reading. S8: they run out and `end` does not stand before.
abbrev pub open_language : Bool → Spec → Language OpenDraft OpenDraft OpenDraft LineRule
open_language later spec = record {
  next = after_open later spec;
  ended = λ next. false;
  state = λ next. next;
  done = λ read last others. read;
  out = λ past_end read. if read.draft.ended then Ok read else broken_at S8 past_end;
}

-- the lines behind the header, tested in order
unfoldable pub open_from : Bool → ℕ → Spec → OpenDraft → List ContentLine → Result OpenDraft Broken
open_from later past_end spec read lines = language.reading_from (open_language later spec) past_end read lines

-- what is read when the header is
abbrev pub open_of : ℕ → OpenDraft
open_of threads = record { shapes = []; draft = draft_of threads }

abbrev pub open_behind : Bool → ℕ → Spec → Result Headed Broken → Result OpenDraft Broken
open_behind later past_end spec (Err broken) = Err broken
open_behind later past_end spec (Ok head) = open_from later past_end spec (open_of head.threads) head.others

-- what the content lines behind a specification give
abbrev pub open_all : Bool → ℕ → Spec → List ContentLine → Result OpenDraft Broken
open_all later past_end spec lines = open_behind later past_end spec (headed past_end lines)

-- the shapes, and the workload over the specification with them
abbrev pub open_work : Spec → OpenDraft → OpenWork
open_work spec read = record { shapes = read.shapes; work = work_of (with_operations spec read.shapes) read.draft }

abbrev pub open_by : Spec → Result OpenDraft Broken → Result OpenWork Broken
open_by spec (Err broken) = Err broken
open_by spec (Ok read) = Ok (open_work spec read)

-- a text of this version has ranges and updates
abbrev pub has_later_forms : ℕ → Bool
has_later_forms version = nat_le 2 version

-- The shapes and the workload that the content lines from a place on give, behind a specification, in a text of this version; or
-- the first broken line rule with its line.
abbrev pub open_reading : ℕ → Spec → TextPlace → Result OpenWork Broken
open_reading version spec place = open_by spec (open_all (has_later_forms version) (past_end_of place.text) spec (content_from place))
