-- What `open` answers to a text none of whose calls brings its own operation.
use Rattle.std.proofs.Common.{◌↔◌, ℕ, List, Result, Ok, Err, inl, inr, refl, sym, subst}
use Rattle.rc_answer.specs.Imports.{content_from, Spec, Broken, Reading, spec_reading, version_number, Nothing, OpenWork, Work, has_later_forms, open_reading, BringNone, with_no_shapes, without_shapes_works_are_read, work_reading, with_none, place_after}
use Rattle.rc_command.specs.declared.command.TextCommand.TheVariants as commands
use Rattle.rc_answer.specs.declared.status.Status.{Status}
use Rattle.rc_answer.specs.Answers.{Answers, AnswersOpen, AnswersOpenWork, AnswersRules, AnswersRun, AnswersWork, IsReport}

-- no content line behind a specification brings its own operation
abbrev pub HasNoShapes : List ℕ → Result Reading Broken → Type 0
HasNoShapes input (Err broken) = Unit {0}
HasNoShapes input (Ok reading) = BringNone (has_later_forms (version_number reading.version)) (content_from (place_after input reading))

-- of a text without shapes `open` writes what `run` may write, and nothing else
abbrev pub WithoutShapesOpenIsRun : Type 0
WithoutShapesOpenIsRun = (input : List ℕ) → HasNoShapes input (spec_reading input) → (text : List ℕ) (status : Status)
    → Answers commands.Open input text status ↔ Answers commands.Run input text status

module _ (spec : Spec) (text : List ℕ) (status : Status) where
  to_run : (found : Result Work Broken) → AnswersOpenWork spec (with_no_shapes found) text status → AnswersWork spec found text status
  to_run (Err broken) is = is
  to_run (Ok work) is =
      subst (λ (out : List ℕ). IsReport spec work out status) (sym is.printed) (subst (λ (s : Spec). IsReport s work is.others status) (with_none spec) is.report)

  to_open : (found : Result Work Broken) → AnswersWork spec found text status → AnswersOpenWork spec (with_no_shapes found) text status
  to_open (Err broken) is = is
  to_open (Ok work) is = record { others = text; report = subst (λ (s : Spec). IsReport s work text status) (sym (with_none spec)) is; printed = refl }

  rules_wider : (A B : List ℕ → Status → Type 0) → (A text status → B text status) → AnswersRules spec A text status → AnswersRules spec B text status
  rules_wider A B wider (inl (accepted, is)) = inl (accepted, wider is)
  rules_wider A B wider (inr refused) = inr refused

by_reading : (input text : List ℕ) (status : Status) (found : Result Reading Broken) → HasNoShapes input found
    → AnswersOpen input found text status ↔ AnswersRun Nothing input found text status
by_reading input text status (Err broken) none = (λ is. is, λ is. is)
by_reading input text status (Ok reading) none =
    let place = place_after input reading in
    let version = version_number reading.version in
    let works = work_reading Nothing reading.spec place in
    let read = without_shapes_works_are_read version reading.spec place none in (
      rules_wider reading.spec text status (AnswersOpenWork reading.spec (open_reading version reading.spec place)) (AnswersWork reading.spec works)
          (λ is. to_run reading.spec text status works (subst (λ (r : Result OpenWork Broken). AnswersOpenWork reading.spec r text status) read is)),
      rules_wider reading.spec text status (AnswersWork reading.spec works) (AnswersOpenWork reading.spec (open_reading version reading.spec place))
          (λ is. subst (λ (r : Result OpenWork Broken). AnswersOpenWork reading.spec r text status) (sym read) (to_open reading.spec text status works is)),
    )

pub without_shapes_open_is_run : WithoutShapesOpenIsRun
without_shapes_open_is_run input none text status = by_reading input text status (spec_reading input) none
