-- The end of a command, of what was written.
use Rattle.std.proofs.Common.{◌≡◌, ℕ, ◌+◌, ◌<◌, ◌≤◌, ◌^◌, ◌⊎◌, inl, inr, List, drop, Option, Some, None, Result, Ok, Err, length, ◌∙◌, refl, sym, subst, ap, arith}
use Rattle.rc_top.proofs.Imports.{also_in, drop_of_length-le, drop-append_seam, Adds, AddsPrefix, Takes, IsEmpty, adds_prefix_none, takes_all, takes_at_most, takes_first, Broken, Reading, spec_of, spec_reading, Spec, IsAccepted, refused_not_accepted, Statement, AreChosen, HandReading, hands_reading, Also, Nothing, Groups, OpenWork, Work, open_reading, version_number, IsSome, op_number, WorkPart, part_reading, work_reading, past_end_of, Form, Verdict, Answers, AnswersAlone, AnswersAudit, AnswersByHand, AnswersHands, AnswersOpen, AnswersOpenWork, AnswersPart, AnswersRules, AnswersRun, AnswersWork, AnswersWorkBy, IsAcceptedText, IsPlanDrawingNamed, IsDrawing, IsPlanDrawingOrRefusal, IsPlansText, IsSizeRefusal, audit_for, verdict_status, work_in_lines, place_after, IsBigText, big_text, refused_plans_fail, ArePlanned, Writes, IsAnswer, IsAnswered, IsGoodByHand, IsGoodOpen, IsGoodPart, IsGoodReading, IsGoodReadingByHand, IsGoodReadingOpen, IsGoodReadingUpToEnd, IsGoodSpec, IsGoodSpecWith, IsGoodWork, KeepsRules, LeavesAllBut, Ends, EndsBig, status_of, OfText, TextCommand, Check, Plan, Run, Group, Audit, AuditGroup, AuditJournal, Hand, Open, Dot, DotPlan, Status, Done, Bad, Usage, Refused, SourceFailed, SinkFailed, OutOfMemory, Stop, Memory, Sink}
use Rattle.rc_handplan.specs.HandGrammar as hand_lines
use Rattle.rc_audit.specs.declared.form.Form.TheVariants as forms
use Rattle.rc_audit.specs.declared.verdict.Verdict.TheVariants as verdicts

-- the status of a text that was written
abbrev pub IsWritten : Status → Type 0
IsWritten Done = Unit {0}
IsWritten Bad = Unit {0}
IsWritten Usage = ⊥
IsWritten Refused = Unit {0}
IsWritten SourceFailed = ⊥
IsWritten SinkFailed = ⊥
IsWritten OutOfMemory = ⊥

-- of another command than `audit`
abbrev pub IsDoneOrRefused : Status → Type 0
IsDoneOrRefused status = (status ≡ Done) ⊎ (status ≡ Refused)

pub done_or_refused : (status : Status) → IsDoneOrRefused status → IsWritten status
done_or_refused status (inl e) = subst IsWritten (sym e) tt
done_or_refused status (inr e) = subst IsWritten (sym e) tt

pub done_bad_or_refused : (status : Status) → (status ≡ Done) ⊎ ((status ≡ Bad) ⊎ (status ≡ Refused)) → IsWritten status
done_bad_or_refused status (inl e) = subst IsWritten (sym e) tt
done_bad_or_refused status (inr (inl e)) = subst IsWritten (sym e) tt
done_bad_or_refused status (inr (inr e)) = subst IsWritten (sym e) tt

-- a writer of one kind of text ends as one of a wider kind
pub ends_wider : (A B : List ℕ → Status → Type 0) (old new : Option (List ℕ)) (r : Result Status Stop)
    → ((text : List ℕ) (status : Status) → A text status → B text status × IsWritten status)
    → Writes A old new r → Ends B old new (status_of r)
ends_wider A B old new (Ok Done) wider (text, is, adds) = (text, (wider text Done is).0, adds)
ends_wider A B old new (Ok Bad) wider (text, is, adds) = (text, (wider text Bad is).0, adds)
ends_wider A B old new (Ok Refused) wider (text, is, adds) = (text, (wider text Refused is).0, adds)
ends_wider A B old new (Ok Usage) wider (text, is, adds) = absurd (wider text Usage is).1
ends_wider A B old new (Ok SourceFailed) wider (text, is, adds) = absurd (wider text SourceFailed is).1
ends_wider A B old new (Ok SinkFailed) wider (text, is, adds) = absurd (wider text SinkFailed is).1
ends_wider A B old new (Ok OutOfMemory) wider (text, is, adds) = absurd (wider text OutOfMemory is).1
ends_wider A B old new (Err Memory) wider (inl same) = inl same
ends_wider A B old new (Err Memory) wider (inr (text, status, is, part)) = inr (text, status, (wider text status is).0, part)
ends_wider A B old new (Err Sink) wider (text, status, is, part) = (text, status, (wider text status is).0, part)

written_work : (ArePlans : List (List Statement) → Type 0) (spec : Spec) (reading : Result Work Broken) (text : List ℕ) (status : Status)
    → AnswersWorkBy ArePlans spec reading text status → IsDoneOrRefused status
written_work ArePlans spec (Err broken) text status is = inr is.1
written_work ArePlans spec (Ok work) text status is = inl is.done

written_rules : (spec : Spec) (IfAccepted : List ℕ → Status → Type 0) (text : List ℕ) (status : Status) → (IfAccepted text status → IsDoneOrRefused status)
    → AnswersRules spec IfAccepted text status → IsDoneOrRefused status
written_rules spec IfAccepted text status written (inl (accepted, is)) = written is
written_rules spec IfAccepted text status written (inr (refusal, first, is)) = inr is.1

-- what is written of an accepted specification ends well
abbrev EndsDone : (Spec → List ℕ → Status → Type 0) → Type 0
EndsDone OfAccepted = (spec : Spec) (text : List ℕ) (status : Status) → OfAccepted spec text status → status ≡ Done

accepted_done : EndsDone (λ spec. IsAcceptedText)
accepted_done spec text status (printed, done) = done

plans_done : EndsDone IsPlansText
plans_done spec text status (plans, planned, printed, done) = done

dot_done : EndsDone IsDrawing
dot_done spec text status (printed, done) = done

-- a drawing with a plan, or the refusal of its operation
drawn_written : (spec : Spec) (op : Option ℕ) (text : List ℕ) (status : Status) → IsPlanDrawingOrRefusal spec op text status → IsDoneOrRefused status
drawn_written spec (Some op) text status (plan, planned, printed, done) = inl done
drawn_written spec None text status (printed, refused) = inr refused

written_alone : (OfAccepted : Spec → List ℕ → Status → Type 0) (reading : Result Spec Broken) (text : List ℕ) (status : Status)
    → ((spec : Spec) → OfAccepted spec text status → IsDoneOrRefused status) → AnswersAlone OfAccepted reading text status → IsDoneOrRefused status
written_alone OfAccepted (Err broken) text status ends is = inr is.1
written_alone OfAccepted (Ok spec) text status ends is = written_rules spec (OfAccepted spec) text status (ends spec) is

written_run : (also : Also) (input : List ℕ) (reading : Result Reading Broken) (text : List ℕ) (status : Status) → AnswersRun also input reading text status
    → IsDoneOrRefused status
written_run also input (Err broken) text status is = inr is.1
written_run also input (Ok reading) text status is =
    let work : Result Work Broken = work_reading also reading.spec (place_after input reading) in
    written_rules reading.spec (AnswersWork reading.spec work) text status (written_work (ArePlanned reading.spec) reading.spec work text status) is

written_open_work : (spec : Spec) (found : Result OpenWork Broken) (text : List ℕ) (status : Status) → AnswersOpenWork spec found text status
    → IsDoneOrRefused status
written_open_work spec (Err broken) text status is = inr is.1
written_open_work spec (Ok read) text status is = inl is.report.done

written_open : (input : List ℕ) (reading : Result Reading Broken) (text : List ℕ) (status : Status) → AnswersOpen input reading text status
    → IsDoneOrRefused status
written_open input (Err broken) text status is = inr is.1
written_open input (Ok reading) text status is =
    let found = open_reading (version_number reading.version) reading.spec (place_after input reading) in
    written_rules reading.spec (AnswersOpenWork reading.spec found) text status (written_open_work reading.spec found text status) is

written_hands : (past_end : ℕ) (spec : Spec) (found : Result HandReading hand_lines.Broken) (text : List ℕ) (status : Status)
    → AnswersHands past_end spec found text status → IsDoneOrRefused status
written_hands past_end spec (Err broken) text status is = inr is.1
written_hands past_end spec (Ok read) text status (inl (keep, is)) =
    written_work (AreChosen spec read.hands) spec (work_in_lines past_end spec read.others) text status is
written_hands past_end spec (Ok read) text status (inr (op, refusal, first, is)) = inr is.1

written_by_hand : (input : List ℕ) (reading : Result Reading Broken) (text : List ℕ) (status : Status) → AnswersByHand input reading text status
    → IsDoneOrRefused status
written_by_hand input (Err broken) text status is = inr is.1
written_by_hand input (Ok reading) text status is =
    let found = hands_reading reading.spec (place_after input reading) in
    written_rules reading.spec (AnswersHands (past_end_of input) reading.spec found) text status
    (written_hands (past_end_of input) reading.spec found text status) is

-- what is said of a report ends well
verdict_ends : (verdict : Verdict) → IsWritten (verdict_status verdict)
verdict_ends (verdicts.Legal entries) = tt
verdict_ends (verdicts.Bad line) = tt

written_part : (form : Form) (spec : Spec) (past_end : ℕ) (found : Result WorkPart Broken) (text : List ℕ) (status : Status) → AnswersPart form spec past_end found text status → IsWritten status
written_part form spec past_end (Err broken) text status is = subst IsWritten (sym is.1) tt
written_part form spec past_end (Ok part) text status is = subst IsWritten (sym is.written.1) (verdict_ends is.verdict)

written_audit : (form : Form) (input : List ℕ) (reading : Result Reading Broken) (text : List ℕ) (status : Status) → AnswersAudit form input reading text status → IsWritten status
written_audit form input (Err broken) text status is = subst IsWritten (sym is.1) tt
written_audit form input (Ok reading) text status (inl (accepted, is)) =
    written_part form reading.spec (past_end_of input) (part_reading (also_in form) reading.spec (place_after input reading)) text status is
written_audit form input (Ok reading) text status (inr (refusal, first, is)) = subst IsWritten (sym is.1) tt

-- the status of a command's text
abbrev EndsBy : TextCommand → Status → Type 0
EndsBy Check status = IsDoneOrRefused status
EndsBy Plan status = IsDoneOrRefused status
EndsBy Run status = IsDoneOrRefused status
EndsBy Group status = IsDoneOrRefused status
EndsBy Audit status = IsWritten status
EndsBy AuditGroup status = IsWritten status
EndsBy AuditJournal status = IsWritten status
EndsBy Hand status = IsDoneOrRefused status
EndsBy Open status = IsDoneOrRefused status
EndsBy Dot status = IsDoneOrRefused status
EndsBy (DotPlan op) status = IsDoneOrRefused status

written : (command : TextCommand) (input text : List ℕ) (status : Status) → Answers command input text status → EndsBy command status
written Check input text status is = written_alone (λ spec. IsAcceptedText) (spec_of input) text status (λ spec h. inl (accepted_done spec text status h)) is
written Plan input text status is = written_alone IsPlansText (spec_of input) text status (λ spec h. inl (plans_done spec text status h)) is
written Run input text status is = written_run Nothing input (spec_reading input) text status is
written Group input text status is = written_run Groups input (spec_reading input) text status is
written Audit input text status is = written_audit forms.Run input (spec_reading input) text status is
written AuditGroup input text status is = written_audit forms.Group input (spec_reading input) text status is
written AuditJournal input text status is = written_audit forms.Journal input (spec_reading input) text status is
written Hand input text status is = written_by_hand input (spec_reading input) text status is
written Open input text status is = written_open input (spec_reading input) text status is
written Dot input text status is = written_alone IsDrawing (spec_of input) text status (λ spec h. inl (dot_done spec text status h)) is
written (DotPlan op) input text status is =
    written_alone (IsPlanDrawingNamed op) (spec_of input) text status (λ spec h. drawn_written spec (op_number spec op) text status h) is

by_written : (command : TextCommand) (status : Status) → EndsBy command status → IsWritten status
by_written Check status h = done_or_refused status h
by_written Plan status h = done_or_refused status h
by_written Run status h = done_or_refused status h
by_written Group status h = done_or_refused status h
by_written Audit status h = h
by_written AuditGroup status h = h
by_written AuditJournal status h = h
by_written Hand status h = done_or_refused status h
by_written Open status h = done_or_refused status h
by_written Dot status h = done_or_refused status h
by_written (DotPlan op) status h = done_or_refused status h

no_bad : IsDoneOrRefused Bad → ⊥
no_bad (inl e) = cc
no_bad (inr e) = cc

-- no other command tells of a bad report
by_bad : (command : TextCommand) → EndsBy command Bad → (form : Form) × (command ≡ audit_for form)
by_bad Check h = absurd (no_bad h)
by_bad Plan h = absurd (no_bad h)
by_bad Run h = absurd (no_bad h)
by_bad Group h = absurd (no_bad h)
by_bad Audit h = (forms.Run, refl)
by_bad AuditGroup h = (forms.Group, refl)
by_bad AuditJournal h = (forms.Journal, refl)
by_bad Hand h = absurd (no_bad h)
by_bad Open h = absurd (no_bad h)
by_bad Dot h = absurd (no_bad h)
by_bad (DotPlan op) h = absurd (no_bad h)

bad_is_audit : (command : TextCommand) (input text : List ℕ) → Answers command input text Bad → (form : Form) × (command ≡ audit_for form)
bad_is_audit command input text is = by_bad command (written command input text Bad is)

pub bad_ends_audit : (command : TextCommand) (input : List ℕ) (old new : Option (List ℕ)) (r : Result Status Stop) → Writes (Answers command input) old new r
    → status_of r ≡ Bad → (form : Form) × (command ≡ audit_for form)
bad_ends_audit command input old new (Ok status) (text, is, adds) e = bad_is_audit command input text (subst (Answers command input text) e is)
bad_ends_audit command input old new (Err Memory) h e = absurd (let f : OutOfMemory ≡ Bad = e in cc)
bad_ends_audit command input old new (Err Sink) h e = absurd (let f : SinkFailed ≡ Bad = e in cc)

-- and a text that is too long isn't judged
pub size_is_not_bad : (old new : Option (List ℕ)) (r : Result Status Stop) → Writes IsSizeRefusal old new r → status_of r ≡ Bad → ⊥
size_is_not_bad old new (Ok status) (text, is, adds) e = let f : Refused ≡ Bad = sym is.1 ∙ e in cc
size_is_not_bad old new (Err Memory) h e = cc
size_is_not_bad old new (Err Sink) h e = cc

-- told bytes that were read whole are answered
pub read_ends : (command : TextCommand) (input bytes : List ℕ) (told left : Option (List ℕ)) (old new : Option (List ℕ)) (r : Result Status Stop)
    → told ≡ Some input → Takes told bytes left → IsEmpty left → length bytes ≤ 2 ^ 24
    → Writes (Answers command bytes) old new r → Ends (IsAnswer command input) old new (status_of r)
read_ends command input bytes told left old new r is_told taken empty within writes =
    ends_wider (Answers command bytes) (IsAnswer command input) old new r wider writes
  where
    same : bytes ≡ input
    same = (takes_all input bytes left (sym is_told ∙ taken) empty).0

    wider : (text : List ℕ) (status : Status) → Answers command bytes text status → IsAnswer command input text status × IsWritten status
    wider text status is = (
      record { read = λ short. subst (λ (read : List ℕ). Answers command read text status) same is; long = λ long. absurd (too_long long) },
      by_written command status (written command bytes text status is),
    )
      where
        too_long : 2 ^ 24 < length input → ⊥
        too_long long = let e : length bytes ≡ length input = ap length same in omega (arith, within, e, long)

-- told bytes of which more were taken than may be are refused
pub long_ends : (command : TextCommand) (input bytes : List ℕ) (told left : Option (List ℕ)) (old new : Option (List ℕ)) (r : Result Status Stop)
    → told ≡ Some input → Takes told bytes left → length bytes ≡ 2 ^ 24 + 1
    → Writes IsSizeRefusal old new r → Ends (IsAnswer command input) old new (status_of r)
long_ends command input bytes told left old new r is_told taken beyond writes =
    ends_wider IsSizeRefusal (IsAnswer command input) old new r wider writes
  where
    most : length bytes ≤ length input
    most = takes_at_most input bytes left (sym is_told ∙ taken)

    wider : (text : List ℕ) (status : Status) → IsSizeRefusal text status → IsAnswer command input text status × IsWritten status
    wider text status is = (
      record { read = λ short. absurd (too_short short); long = λ long. is },
      subst IsWritten (sym is.1) tt,
    )
      where
        too_short : length input ≤ 2 ^ 24 → ⊥
        too_short short = omega (arith, most, beyond, short)

-- ---- what is left

module _ (input bytes : List ℕ) (told left : Option (List ℕ)) (is_told : told ≡ Some input) (taken : Takes told bytes left) where
  -- of told bytes those are left that stand behind the taken ones
  behind_taken : left ≡ Some (drop (length bytes) input)
  behind_taken =
      let (rest, parts, is_left) = takes_first input bytes left (sym is_told ∙ taken) in
      is_left ∙ ap Some (sym (ap (drop (length bytes)) parts ∙ drop-append_seam bytes rest))

  pub leaves : (most : ℕ) → length bytes ≤ most → LeavesAllBut most input left
  leaves most few = (length bytes, few, behind_taken)

  -- where they were read to their end none is beyond the limit
  pub all_read : IsEmpty left → length bytes ≤ 2 ^ 24 → left ≡ Some (drop (2 ^ 24 + 1) input)
  all_read empty within =
      let all = takes_all input bytes left (sym is_told ∙ taken) empty in
      let few : length input ≤ 2 ^ 24 + 1 = omega (arith, within, ap length all.0) in
      all.1 ∙ ap Some (sym (drop_of_length-le input few))

  -- and of others one byte beyond it is gone
  pub limit_read : length bytes ≡ 2 ^ 24 + 1 → left ≡ Some (drop (2 ^ 24 + 1) input)
  limit_read beyond = subst (λ n. left ≡ Some (drop n input)) beyond behind_taken

-- ---- texts that keep all rules

refused_work : (ArePlans : List (List Statement) → Type 0) (reading : Result Work Broken) (spec : Spec) (text : List ℕ) → IsGoodWork reading
    → AnswersWorkBy ArePlans spec reading text Refused → ⊥
refused_work ArePlans (Err broken) spec text good is = absurd good
refused_work ArePlans (Ok work) spec text good is = let e : Refused ≡ Done = is.done in cc

refused_rules : (spec : Spec) (IfAccepted : List ℕ → Status → Type 0) (text : List ℕ) → IsAccepted spec → (IfAccepted text Refused → ⊥) → AnswersRules spec IfAccepted text Refused → ⊥
refused_rules spec IfAccepted text good other (inl (accepted, is)) = other is
refused_rules spec IfAccepted text good other (inr (refusal, first, is)) = refused_not_accepted spec refusal first good

refused_alone : (OfAccepted : Spec → List ℕ → Status → Type 0) (reading : Result Spec Broken) (text : List ℕ) → EndsDone OfAccepted → IsGoodSpec reading
    → AnswersAlone OfAccepted reading text Refused → ⊥
refused_alone OfAccepted (Err broken) text done good is = absurd good
refused_alone OfAccepted (Ok spec) text done good is = refused_rules spec (OfAccepted spec) text good (λ h. let e : Refused ≡ Done = done spec text Refused h in cc) is

-- an operation that is there is drawn
refused_drawn : (spec : Spec) (op : Option ℕ) (text : List ℕ) → IsSome op → IsPlanDrawingOrRefusal spec op text Refused → ⊥
refused_drawn spec (Some op) text there (plan, planned, printed, done) = cc
refused_drawn spec None text there is = cc

refused_plan : (op : List ℕ) (reading : Result Spec Broken) (text : List ℕ) → IsGoodSpecWith op reading → AnswersAlone (IsPlanDrawingNamed op) reading text Refused → ⊥
refused_plan op (Err broken) text good is = absurd good
refused_plan op (Ok spec) text good is = refused_rules spec (IsPlanDrawingNamed op spec) text good.0 (refused_drawn spec (op_number spec op) text good.1) is

refused_run : (also : Also) (input : List ℕ) (reading : Result Reading Broken) (text : List ℕ) → IsGoodReading also input reading
    → AnswersRun also input reading text Refused → ⊥
refused_run also input (Err broken) text good is = absurd good
refused_run also input (Ok reading) text good is =
    let work : Result Work Broken = work_reading also reading.spec (place_after input reading) in
    refused_rules reading.spec (AnswersWork reading.spec work) text good.0 (refused_work (ArePlanned reading.spec) work reading.spec text good.1) is

refused_open_work : (spec : Spec) (found : Result OpenWork Broken) (text : List ℕ) → IsGoodOpen found → AnswersOpenWork spec found text Refused → ⊥
refused_open_work spec (Err broken) text good is = absurd good
refused_open_work spec (Ok read) text good is = let e : Refused ≡ Done = is.report.done in cc

refused_open : (input : List ℕ) (reading : Result Reading Broken) (text : List ℕ) → IsGoodReadingOpen input reading
    → AnswersOpen input reading text Refused → ⊥
refused_open input (Err broken) text good is = absurd good
refused_open input (Ok reading) text good is =
    let found = open_reading (version_number reading.version) reading.spec (place_after input reading) in
    refused_rules reading.spec (AnswersOpenWork reading.spec found) text good.0 (refused_open_work reading.spec found text good.1) is

refused_hands : (past_end : ℕ) (spec : Spec) (found : Result HandReading hand_lines.Broken) (text : List ℕ) → IsGoodByHand past_end spec found
    → AnswersHands past_end spec found text Refused → ⊥
refused_hands past_end spec (Err broken) text good is = absurd good
refused_hands past_end spec (Ok read) text good (inl (keep, is)) =
    refused_work (AreChosen spec read.hands) (work_in_lines past_end spec read.others) spec text good.1 is
refused_hands past_end spec (Ok read) text good (inr (op, refusal, first, is)) = refused_plans_fail spec read.hands op refusal first good.0

refused_by_hand : (input : List ℕ) (reading : Result Reading Broken) (text : List ℕ) → IsGoodReadingByHand input reading
    → AnswersByHand input reading text Refused → ⊥
refused_by_hand input (Err broken) text good is = absurd good
refused_by_hand input (Ok reading) text good is =
    let found = hands_reading reading.spec (place_after input reading) in
    refused_rules reading.spec (AnswersHands (past_end_of input) reading.spec found) text good.0
    (refused_hands (past_end_of input) reading.spec found text good.1) is

refused_verdict : (verdict : Verdict) → Refused ≡ verdict_status verdict → ⊥
refused_verdict (verdicts.Legal entries) e = cc
refused_verdict (verdicts.Bad line) e = cc

refused_part : (form : Form) (spec : Spec) (past_end : ℕ) (found : Result WorkPart Broken) (text : List ℕ) → IsGoodPart found → AnswersPart form spec past_end found text Refused → ⊥
refused_part form spec past_end (Err broken) text good is = absurd good
refused_part form spec past_end (Ok part) text good is = refused_verdict is.verdict is.written.1

refused_audit : (form : Form) (input : List ℕ) (reading : Result Reading Broken) (text : List ℕ) → IsGoodReadingUpToEnd (also_in form) input reading → AnswersAudit form input reading text Refused → ⊥
refused_audit form input (Err broken) text good is = absurd good
refused_audit form input (Ok reading) text good is =
    let found = part_reading (also_in form) reading.spec (place_after input reading) in
    refused_rules reading.spec (AnswersPart form reading.spec (past_end_of input) found) text good.0 (refused_part form reading.spec (past_end_of input) found text good.1) is

refused_text : (command : TextCommand) (input text : List ℕ) → KeepsRules command input → Answers command input text Refused → ⊥
refused_text Check input text good is = refused_alone (λ spec. IsAcceptedText) (spec_of input) text accepted_done good is
refused_text Plan input text good is = refused_alone IsPlansText (spec_of input) text plans_done good is
refused_text Run input text good is = refused_run Nothing input (spec_reading input) text good is
refused_text Group input text good is = refused_run Groups input (spec_reading input) text good is
refused_text Audit input text good is = refused_audit forms.Run input (spec_reading input) text good is
refused_text AuditGroup input text good is = refused_audit forms.Group input (spec_reading input) text good is
refused_text AuditJournal input text good is = refused_audit forms.Journal input (spec_reading input) text good is
refused_text Hand input text good is = refused_by_hand input (spec_reading input) text good is
refused_text Open input text good is = refused_open input (spec_reading input) text good is
refused_text Dot input text good is = refused_alone IsDrawing (spec_of input) text dot_done good is
refused_text (DotPlan op) input text good is = refused_plan op (spec_of input) text good is

done_is_answered : (command : TextCommand) → IsAnswered command Done
done_is_answered Check = refl
done_is_answered Plan = refl
done_is_answered Run = refl
done_is_answered Group = refl
done_is_answered Audit = inl refl
done_is_answered AuditGroup = inl refl
done_is_answered AuditJournal = inl refl
done_is_answered Hand = refl
done_is_answered Open = refl
done_is_answered Dot = refl
done_is_answered (DotPlan op) = refl

bad_is_answered : (form : Form) → IsAnswered (audit_for form) Bad
bad_is_answered forms.Run = inr refl
bad_is_answered forms.Group = inr refl
bad_is_answered forms.Journal = inr refl

-- a text that keeps all rules is answered, where nothing fails
pub answered : (command : TextCommand) (input : List ℕ) (old new : Option (List ℕ)) (status : Status) → length input ≤ 2 ^ 24 → KeepsRules command input
    → Ends (IsAnswer command input) old new status → (status ≡ Usage → ⊥) → (status ≡ SourceFailed → ⊥) → (status ≡ SinkFailed → ⊥) → IsAnswered command status ⊎ (status ≡ OutOfMemory)
answered command input old new Done short good ends usage source sink = inl (done_is_answered command)
answered command input old new Bad short good (text, is, adds) usage source sink =
    let of = bad_is_audit command input text (is.read short) in
    inl (subst (λ (k : TextCommand). IsAnswered k Bad) (sym of.1) (bad_is_answered of.0))
answered command input old new Usage short good ends usage source sink = absurd (usage refl)
answered command input old new Refused short good (text, is, adds) usage source sink = absurd (refused_text command input text good (is.read short))
answered command input old new SourceFailed short good ends usage source sink = absurd (source refl)
answered command input old new SinkFailed short good ends usage source sink = absurd (sink refl)
answered command input old new OutOfMemory short good ends usage source sink = inr refl

pub one_command : (a b : TextCommand) → Some (OfText a) ≡ Some (OfText b) → a ≡ b
one_command a b e = cc

-- ---- generated workloads

-- what is written of one ends as its text does
pub big_ends : (seed calls : ℕ) (old new : Option (List ℕ)) (r : Result Status Stop) → Writes (IsBigText seed calls) old new r → EndsBig seed calls old new (status_of r)
big_ends seed calls old new (Ok Done) (text, is, adds) = subst (λ (t : List ℕ). Adds old t new) is.0 adds
big_ends seed calls old new (Ok Bad) (text, is, adds) = let e : Bad ≡ Done = is.1 in cc
big_ends seed calls old new (Ok Usage) (text, is, adds) = let e : Usage ≡ Done = is.1 in cc
big_ends seed calls old new (Ok Refused) (text, is, adds) = let e : Refused ≡ Done = is.1 in cc
big_ends seed calls old new (Ok SourceFailed) (text, is, adds) = let e : SourceFailed ≡ Done = is.1 in cc
big_ends seed calls old new (Ok SinkFailed) (text, is, adds) = let e : SinkFailed ≡ Done = is.1 in cc
big_ends seed calls old new (Ok OutOfMemory) (text, is, adds) = let e : OutOfMemory ≡ Done = is.1 in cc
big_ends seed calls old new (Err Memory) (inl same) = subst (λ (o : Option (List ℕ)). AddsPrefix old (big_text seed calls) o) (sym same) (adds_prefix_none old (big_text seed calls))
big_ends seed calls old new (Err Memory) (inr (text, status, is, part)) = subst (λ (t : List ℕ). AddsPrefix old t new) is.0 part
big_ends seed calls old new (Err Sink) (text, status, is, part) = subst (λ (t : List ℕ). AddsPrefix old t new) is.0 part
