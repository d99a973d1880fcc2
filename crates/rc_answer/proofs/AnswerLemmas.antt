-- What may be written of a text, of what is written of its parts.
use Rattle.std.proofs.Common.{◌≡◌, ℕ, ◌+◌, inl, inr, List, Option, Result, Ok, Err, ◌∙◌, sym, subst, ap}
use Rattle.rc_answer.proofs.Imports.{also_in, Broken, Reading, spec_reading, IsRead, ReadsAs, rest_place, ReadRefusal, Rest, ContentLine, TextPlace, content_from, past_end_of, Spec, IsAccepted, Also, Work, IsRestBehind, WorkPart, part_reading, work_reading, Form, AnswersAlone, AnswersAudit, AnswersPart, AnswersRun, AnswersWork, IsJudgement, IsRefusal, IsReport, place_after, WritesRefusal, Writes, Status, Stop, Memory, Sink}
use Rattle.rc_reader.specs.declared.refusal.ReadRefusal.TheVariants as refusals

pub writes_wider : (A B : List ℕ → Status → Type 0) (old new : Option (List ℕ)) (r : Result Status Stop) → ((text : List ℕ) (status : Status) → A text status → B text status)
    → Writes A old new r → Writes B old new r
writes_wider A B old new (Ok status) wider (text, is, adds) = (text, wider text status is, adds)
writes_wider A B old new (Err Memory) wider (inl same) = inl same
writes_wider A B old new (Err Memory) wider (inr (text, status, is, part)) = inr (text, status, wider text status is, part)
writes_wider A B old new (Err Sink) wider (text, status, is, part) = (text, status, wider text status is, part)

-- what is written of an accepted specification that stands alone answers its text
pub alone_answers : (OfAccepted : Spec → List ℕ → Status → Type 0) (reading : Result Spec Broken) (spec accepted : Spec) → reading ≡ Ok spec → accepted ≡ spec → IsAccepted spec
    → (text : List ℕ) (status : Status) → OfAccepted accepted text status → AnswersAlone OfAccepted reading text status
alone_answers OfAccepted reading spec accepted read same is text status written =
    subst (λ (found : Result Spec Broken). AnswersAlone OfAccepted found text status) (sym read) (inl (is, subst (λ (s : Spec). OfAccepted s text status) same written))

-- where a reader goes on behind a specification
pub read_place : (input : List ℕ) (reading : Reading) (spec : Spec) (rest : Rest) → IsRead input spec rest reading → place_after input reading ≡ rest_place input rest
read_place input reading spec rest is = let P : ℕ → ℕ → TextPlace = λ at line. record { text = input; at = at; line = line } in ap (λ at. P at (reading.last.number + 1)) (sym is.at) ∙ ap (P rest.at) (sym is.line)

module _ (also : Also) (input : List ℕ) (reading : Reading) (spec : Spec) (rest : Rest) (read : spec_reading input ≡ Ok reading) (is : IsRead input spec rest reading) (accepted : IsAccepted spec) where
  -- what is written of the workload behind an accepted specification is what may be written of both
  work_answers : (found : Result Work Broken) → work_reading also spec (rest_place input rest) ≡ found → (text : List ℕ) (status : Status) → AnswersWork spec found text status
      → AnswersRun also input (spec_reading input) text status
  work_answers found made text status written =
      subst (λ (r : Result Reading Broken). AnswersRun also input r text status) (sym read)
      (inl (subst (λ (s : Spec). IsAccepted s) (sym is.value) accepted, answers))
    where
      behind : work_reading also reading.spec (place_after input reading) ≡ found
      behind = ap (λ (s : Spec). work_reading also s (place_after input reading)) is.value ∙ ap (work_reading also spec) (read_place input reading spec rest is) ∙ made

      answers : AnswersWork reading.spec (work_reading also reading.spec (place_after input reading)) text status
      answers =
          subst (λ (r : Result Work Broken). AnswersWork reading.spec r text status) (sym behind)
          (subst (λ (s : Spec). AnswersWork s found text status) (sym is.value) written)

  -- so its report
  pub report_answers : (work : Work) → work_reading also spec (rest_place input rest) ≡ Ok work → (text : List ℕ) (status : Status) → IsReport spec work text status
      → AnswersRun also input (spec_reading input) text status
  report_answers work made text status report = work_answers (Ok work) made text status report

  -- and its refusal
  pub refusal_answers : (refusal : ReadRefusal) (old new : Option (List ℕ)) (r : Result Status Stop) → ReadsAs (Err refusal) (work_reading also spec (rest_place input rest))
      → WritesRefusal old new refusal r → Writes (AnswersRun also input (spec_reading input)) old new r
  refusal_answers refusals.Memory old new r made (is_memory, same) = subst (Writes (AnswersRun also input (spec_reading input)) old new) (sym is_memory) (inl same)
  refusal_answers (refusals.Line rule line) old new r made written =
      writes_wider (IsRefusal (record { rule = rule; line = line })) (AnswersRun also input (spec_reading input)) old new r
      (λ text status refused. work_answers (Err (record { rule = rule; line = line })) made text status refused) written

-- the refusal of a specification is that of a run
pub spec_refusal_answers : (also : Also) (input : List ℕ) (refusal : ReadRefusal) (old new : Option (List ℕ)) (r : Result Status Stop)
    → ReadsAs (Err refusal) (spec_reading input) → WritesRefusal old new refusal r → Writes (AnswersRun also input (spec_reading input)) old new r
spec_refusal_answers also input refusals.Memory old new r made (is_memory, same) =
    subst (Writes (AnswersRun also input (spec_reading input)) old new) (sym is_memory) (inl same)
spec_refusal_answers also input (refusals.Line rule line) old new r made written =
    subst (λ (read : Result Reading Broken). Writes (AnswersRun also input read) old new r) (sym made) written

module _ (form : Form) (input : List ℕ) (reading : Reading) (spec : Spec) (rest : Rest) (read : spec_reading input ≡ Ok reading) (is : IsRead input spec rest reading) (accepted : IsAccepted spec) where
  -- what is written of the workload up to its `end` is what may be written of the whole
  part_answers : (found : Result WorkPart Broken) → part_reading (also_in form) spec (rest_place input rest) ≡ found → (text : List ℕ) (status : Status)
      → AnswersPart form spec (past_end_of input) found text status → AnswersAudit form input (spec_reading input) text status
  part_answers found made text status written =
      subst (λ (r : Result Reading Broken). AnswersAudit form input r text status) (sym read)
      (inl (subst (λ (s : Spec). IsAccepted s) (sym is.value) accepted, answers))
    where
      behind : part_reading (also_in form) reading.spec (place_after input reading) ≡ found
      behind = ap (λ (s : Spec). part_reading (also_in form) s (place_after input reading)) is.value ∙ ap (part_reading (also_in form) spec) (read_place input reading spec rest is) ∙ made

      answers : AnswersPart form reading.spec (past_end_of input) (part_reading (also_in form) reading.spec (place_after input reading)) text status
      answers =
          subst (λ (r : Result WorkPart Broken). AnswersPart form reading.spec (past_end_of input) r text status) (sym behind)
          (subst (λ (s : Spec). AnswersPart form s (past_end_of input) found text status) (sym is.value) written)

  -- so the verdict on the lines behind it
  pub judgement_answers : (part : WorkPart) → part_reading (also_in form) spec (rest_place input rest) ≡ Ok part → (work : Work) (behind : Rest) → part.work ≡ work
      → IsRestBehind input rest.version behind part.last part.others → (text : List ℕ) (status : Status)
      → IsJudgement form spec work (past_end_of input) (content_from (rest_place input behind)) text status → AnswersAudit form input (spec_reading input) text status
  judgement_answers part made work behind work_is stands text status judged =
      part_answers (Ok part) made text status
      (subst (λ (w : Work). IsJudgement form spec w (past_end_of input) part.others text status) (sym work_is)
      (subst (λ (lines : List ContentLine). IsJudgement form spec work (past_end_of input) lines text status) stands.others_are judged))

  -- and its refusal
  pub part_refusal_answers : (refusal : ReadRefusal) (old new : Option (List ℕ)) (r : Result Status Stop) → ReadsAs (Err refusal) (part_reading (also_in form) spec (rest_place input rest))
      → WritesRefusal old new refusal r → Writes (AnswersAudit form input (spec_reading input)) old new r
  part_refusal_answers refusals.Memory old new r made (is_memory, same) = subst (Writes (AnswersAudit form input (spec_reading input)) old new) (sym is_memory) (inl same)
  part_refusal_answers (refusals.Line rule line) old new r made written =
      writes_wider (IsRefusal (record { rule = rule; line = line })) (AnswersAudit form input (spec_reading input)) old new r
      (λ text status refused. part_answers (Err (record { rule = rule; line = line })) made text status refused) written
