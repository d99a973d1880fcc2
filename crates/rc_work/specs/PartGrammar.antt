-- What content lines give up to the `end` of a workload, with the lines behind it left open.
use Rattle.rc_work.specs.Imports.{ℕ, List, Result, Ok, Err, Language, ContentLine, TextPlace, content_from, past_end_of, Spec, Broken, LineRule, S8}
use Rattle.rc_text.specs.Language as language
use Rattle.rc_work.specs.declared.also.Also.{Also}
use Rattle.rc_work.specs.declared.draft.Draft.{Draft}
use Rattle.rc_work.specs.declared.work.Work.{Work}
use Rattle.rc_work.specs.WorkGrammar.{Headed, after_bytes, broken_at, draft_of, headed}
use Rattle.rc_work.specs.Ranking.{work_of}

-- a draft, its line `end`, and the content lines after that
pub record DraftPart : Type 0 where
  pub draft : Draft
  pub last : ContentLine
  pub others : List ContentLine

abbrev pub draft_part : Draft → ContentLine → List ContentLine → DraftPart
draft_part draft last others = record { draft = draft; last = last; others = others }

-- The language of the lines behind the header, of which `end` is the last that is read. S8: they run out before it, and
-- then the line is one past the last.
abbrev pub part_language : {Read : Type 0} → Also → Spec → (Draft → ContentLine → List ContentLine → Read) → Language Draft Draft Read LineRule
part_language also spec value = record {
  next = after_bytes also spec;
  ended = λ next. next.ended;
  state = λ next. next;
  done = value;
  out = λ past_end draft. broken_at S8 past_end;
}

-- it reads the draft itself
abbrev pub draft_parts : Also → Spec → Language Draft Draft DraftPart LineRule
draft_parts also spec = part_language also spec draft_part

-- the lines behind the header up to `end`, tested in order
unfoldable pub part_from : Also → ℕ → Spec → Draft → List ContentLine → Result DraftPart Broken
part_from also past_end spec draft lines = language.reading_from (draft_parts also spec) past_end draft lines

abbrev pub part_behind : Also → ℕ → Spec → Result Headed Broken → Result DraftPart Broken
part_behind also past_end spec (Err broken) = Err broken
part_behind also past_end spec (Ok head) = part_from also past_end spec (draft_of head.threads) head.others

-- what the content lines behind a specification give, up to that `end`
abbrev pub part_all : Also → ℕ → Spec → List ContentLine → Result DraftPart Broken
part_all also past_end spec lines = part_behind also past_end spec (headed past_end lines)

-- a workload, its line `end`, and the content lines after that
pub record WorkPart : Type 0 where
  pub work : Work
  pub last : ContentLine
  pub others : List ContentLine

-- of a draft the workload
abbrev pub work_part : Spec → Draft → ContentLine → List ContentLine → WorkPart
work_part spec draft last others = record { work = work_of spec draft; last = last; others = others }

abbrev pub work_part_by : Spec → Result DraftPart Broken → Result WorkPart Broken
work_part_by spec (Err broken) = Err broken
work_part_by spec (Ok part) = Ok (work_part spec part.draft part.last part.others)

-- The workload that the content lines from a place on give up to its `end`, behind a specification; or the first broken
-- line rule with its line.
abbrev pub part_reading : Also → Spec → TextPlace → Result WorkPart Broken
part_reading also spec place = work_part_by spec (part_all also (past_end_of place.text) spec (content_from place))
