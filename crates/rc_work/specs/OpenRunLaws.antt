-- Where no line brings its own operation, what is read is what is read without such lines.
use Rattle.std.proofs.Common.{◌≡◌, ℕ, Bool, true, false, cond, List, [], ◌∷◌, Option, Some, None, Result, Ok, Err, refl, ap, ◌∙◌}
use Rattle.rc_work.specs.Imports.{AllByRecursion, ContentLine, TextPlace, content_from, past_end_of, WordText, Spec, Broken, LineRule, S8}
use Rattle.rc_text.specs.Language as language
use Rattle.rc_work.specs.declared.also.Also.TheVariants.{Nothing}
use Rattle.rc_work.specs.declared.draft.Draft.{Draft}
use Rattle.rc_work.specs.declared.open_work.OpenWork.{OpenWork}
use Rattle.rc_work.specs.declared.shapes.OpenDraft.{OpenDraft}
use Rattle.rc_work.specs.declared.work.Work.{Work}
use Rattle.rc_work.specs.LineForms.{FormText, words_read, form_of}
use Rattle.rc_work.specs.OpenGrammar.{with_draft, after_open_form, after_open_words, after_open, open_language, open_from, open_behind, open_all, open_by, has_later_forms, open_reading}
use Rattle.rc_work.specs.Ranking.{work_of, work_by, work_reading}
use Rattle.rc_work.specs.ShapeForms.{shape_form}
use Rattle.rc_work.specs.ShapesLaws.{with_none}
use Rattle.rc_work.specs.WorkGrammar.{after_form_of, after_words, after_bytes, broken_at, draft_of, drafts, headed_by, reading_from, reading_behind, reading_all, threads_of}

-- a line of these words brings none
abbrev pub BringsNone : Bool → Option (List WordText) → Type 0
BringsNone later None = Unit {0}
BringsNone later (Some words) = shape_form later words ≡ None

-- and neither does any of these lines
abbrev pub BringNone : Bool → List ContentLine → Type 0
BringNone later lines = AllByRecursion (λ line. BringsNone later (words_read line.bytes)) lines

-- a workload without shapes
abbrev pub with_no_shapes : Result Work Broken → Result OpenWork Broken
with_no_shapes (Err broken) = Err broken
with_no_shapes (Ok work) = Ok (record { shapes = []; work = work })

abbrev alone : Draft → OpenDraft
alone draft = record { shapes = []; draft = draft }

abbrev lifted : Result Draft Broken → Result OpenDraft Broken
lifted (Err broken) = Err broken
lifted (Ok draft) = Ok (alone draft)

module _ (later : Bool) (spec : Spec) where
  same_form : (draft : Draft) (words : List WordText) (found : Option FormText) → shape_form later words ≡ None
      → after_open_form later spec (alone draft) words found ≡ with_draft (alone draft) (after_form_of spec draft found)
  same_form draft words None none = rw none refl
  same_form draft words (Some form) none = refl

  same_words : (draft : Draft) (found : Option (List WordText)) → BringsNone later found
      → after_open_words later spec (alone draft) found ≡ with_draft (alone draft) (after_words Nothing spec draft found)
  same_words draft None none = refl
  same_words draft (Some words) none = same_form draft words (form_of Nothing words) none

  same_bytes : (draft : Draft) (bytes : List ℕ) → BringsNone later (words_read bytes)
      → after_open later spec (alone draft) bytes ≡ with_draft (alone draft) (after_bytes Nothing spec draft bytes)
  unfolding after_open after_bytes
  same_bytes draft bytes none = same_words draft (words_read bytes) none

  at_end : (past_end : ℕ) (ended : Bool) (draft : Draft)
      → cond ended (Ok (alone draft)) (broken_at S8 past_end) ≡ lifted (cond ended (Ok draft) (broken_at S8 past_end))
  at_end past_end true draft = refl
  at_end past_end false draft = refl

  at_line : (draft : Draft) (after : Result Draft LineRule) (line : ContentLine) (others : List ContentLine)
      (opened : OpenDraft → Result OpenDraft Broken) (drafted : Draft → Result Draft Broken)
      → ((next : Draft) → opened (alone next) ≡ lifted (drafted next))
      → language.reading_after (open_language later spec) (with_draft (alone draft) after) line others opened
      ≡ lifted (language.reading_after (drafts Nothing spec) after line others drafted)
  at_line draft (Err rule) line others opened drafted same = refl
  at_line draft (Ok next) line others opened drafted same = same next

  same_lines : (past_end : ℕ) (draft : Draft) (lines : List ContentLine) → BringNone later lines
      → language.reading_from (open_language later spec) past_end (alone draft) lines
      ≡ lifted (language.reading_from (drafts Nothing spec) past_end draft lines)
  same_lines past_end draft [] none = at_end past_end draft.ended draft
  same_lines past_end draft (line ∷ others) none =
      ap (λ after. language.reading_after (open_language later spec) after line others
      (λ next. language.reading_from (open_language later spec) past_end next others)) (same_bytes draft line.bytes none.0)
      ∙ at_line draft (after_bytes Nothing spec draft line.bytes) line others
      (λ next. language.reading_from (open_language later spec) past_end next others)
      (λ next. language.reading_from (drafts Nothing spec) past_end next others) (λ next. same_lines past_end next others none.1)

  same_from : (past_end : ℕ) (draft : Draft) (lines : List ContentLine) → BringNone later lines
      → open_from later past_end spec (alone draft) lines ≡ lifted (reading_from Nothing past_end spec draft lines)
  unfolding open_from reading_from
  same_from past_end draft lines none = same_lines past_end draft lines none

  same_head : (past_end : ℕ) (found : Result ℕ LineRule) (line : ContentLine) (others : List ContentLine) → BringNone later others
      → open_behind later past_end spec (headed_by found line others) ≡ lifted (reading_behind Nothing past_end spec (headed_by found line others))
  same_head past_end (Err rule) line others none = refl
  same_head past_end (Ok threads) line others none = same_from past_end (draft_of threads) others none

  same_all : (past_end : ℕ) (lines : List ContentLine) → BringNone later lines
      → open_all later past_end spec lines ≡ lifted (reading_all Nothing past_end spec lines)
  same_all past_end [] none = refl
  same_all past_end (line ∷ others) none = same_head past_end (threads_of line.bytes) line others none.1

same_work : (spec : Spec) (found : Result Draft Broken) → open_by spec (lifted found) ≡ with_no_shapes (work_by spec found)
same_work spec (Err broken) = refl
same_work spec (Ok draft) = ap (λ (s : Spec). with_no_shapes (Ok (work_of s draft))) (with_none spec)

-- behind a specification of whose following lines none brings an operation
abbrev pub WithoutShapesWorksAreRead : Type 0
WithoutShapesWorksAreRead = (version : ℕ) (spec : Spec) (place : TextPlace) → BringNone (has_later_forms version) (content_from place)
    → open_reading version spec place ≡ with_no_shapes (work_reading Nothing spec place)

pub without_shapes_works_are_read : WithoutShapesWorksAreRead
without_shapes_works_are_read version spec place none =
    ap (open_by spec) (same_all (has_later_forms version) spec (past_end_of place.text) (content_from place) none)
    ∙ same_work spec (reading_all Nothing (past_end_of place.text) spec (content_from place))
