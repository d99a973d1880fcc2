-- What may be written for an input, with which status.
use Rattle.std.specs.Prelude.{◌≡◌, ℕ, ◌⊎◌, List, [], ◌∷◌, ◌++◌, Option, Some, None, Result, Ok, Err, decimal, codes}
use Rattle.rc_answer.specs.Imports.{ContentLine, past_end_of, printed_lines, Refusal, Spec, IsAccepted, IsFirstBroken, op_at, Statement, drawing_text, plan_drawing_text, ArePlansOf, PlanRefusal, IsPlanned, AllKeepRules, AreChosen, IsFirstRefused, HandReading, hands_reading, hand_rule_text, plan_refusal_text, Hand, Entry, replay, Broken, Reading, spec_reading, spec_of, line_rule_text, version_number, Also, Nothing, Groups, OpenWork, Work, op_number, open_reading, WorkPart, part_reading, words_text, work_by, work_reading, report, Runs, with_operations, place_after, reading_all, Form, Verdict, IsVerdict, shapes_text, TextCommand}
use Rattle.rc_spec.specs.RefusalText as rules
use Rattle.rc_handplan.specs.HandGrammar as hand_lines
use Rattle.rc_audit.specs.declared.form.Form.TheVariants as forms
use Rattle.rc_audit.specs.declared.verdict.Verdict.TheVariants as verdicts
use Rattle.rc_answer.specs.Plans.{ArePlanned, plans_and_end, plans_text}
use Rattle.rc_command.specs.declared.command.TextCommand.TheVariants as commands
use Rattle.rc_answer.specs.declared.status.Status.{Status}
use Rattle.rc_answer.specs.declared.status.Status.TheVariants.{Done, Bad, Refused}

abbrev pub accepted_text : List ℕ
accepted_text = printed_lines (codes "accepted" ∷ [])

abbrev pub size_text : List ℕ
size_text = printed_lines (codes "refused size" ∷ [])

-- the first broken line rule with its line
abbrev pub refusal_line : Broken → List ℕ
refusal_line broken = words_text (codes "refused" ∷ line_rule_text broken.rule ∷ codes "line" ∷ decimal broken.line ∷ [])

abbrev pub line_refusal_text : Broken → List ℕ
line_refusal_text broken = printed_lines (refusal_line broken ∷ [])

-- the refusal of a broken line rule
abbrev pub IsRefusal : Broken → List ℕ → Status → Type 0
IsRefusal broken text status = (text ≡ line_refusal_text broken) × (status ≡ Refused)

-- the refusal of a broken rule of acceptance
abbrev pub IsRuleRefusal : Spec → Refusal → List ℕ → Status → Type 0
IsRuleRefusal spec refusal text status = (text ≡ printed_lines (rules.refusal_text spec refusal ∷ [])) × (status ≡ Refused)

-- Acceptance of a specification. One that isn't accepted is refused for its first broken rule.
abbrev pub AnswersRules : Spec → (List ℕ → Status → Type 0) → List ℕ → Status → Type 0
AnswersRules spec IfAccepted text status =
    (IsAccepted spec × IfAccepted text status) ⊎ ((refusal : Refusal) × IsFirstBroken spec refusal × IsRuleRefusal spec refusal text status)

-- ---- check and plan

abbrev pub IsAcceptedText : List ℕ → Status → Type 0
IsAcceptedText text status = (text ≡ accepted_text) × (status ≡ Done)

-- the planned plan of each operation, and then `end`
abbrev pub IsPlansText : Spec → List ℕ → Status → Type 0
IsPlansText spec text status = (plans : List (List Statement)) × ArePlanned spec plans × (text ≡ plans_and_end spec plans) × (status ≡ Done)

-- ---- dot

abbrev pub IsDrawing : Spec → List ℕ → Status → Type 0
IsDrawing spec text status = (text ≡ drawing_text spec) × (status ≡ Done)

abbrev pub operation_text : List ℕ
operation_text = printed_lines (codes "refused operation" ∷ [])

-- the refusal of a name that no operation has
abbrev pub IsOperationRefusal : List ℕ → Status → Type 0
IsOperationRefusal text status = (text ≡ operation_text) × (status ≡ Refused)

-- the drawing with the planned plan of the operation of this number
abbrev pub IsPlanDrawing : Spec → ℕ → List ℕ → Status → Type 0
IsPlanDrawing spec op text status =
    (plan : List Statement) × IsPlanned spec (op_at spec op) plan × (text ≡ plan_drawing_text spec op plan) × (status ≡ Done)

-- that drawing, or the refusal where no operation has the name
abbrev pub IsPlanDrawingOrRefusal : Spec → Option ℕ → List ℕ → Status → Type 0
IsPlanDrawingOrRefusal spec (Some op) text status = IsPlanDrawing spec op text status
IsPlanDrawingOrRefusal spec None text status = IsOperationRefusal text status

-- the drawing with the plan of the operation of this name, where there is one
abbrev pub IsPlanDrawingNamed : List ℕ → Spec → List ℕ → Status → Type 0
IsPlanDrawingNamed name spec text status = IsPlanDrawingOrRefusal spec (op_number spec name) text status

-- ---- specifications that stand alone

-- what is written of a specification that stands alone, where it is accepted, and else its refusal
abbrev pub AnswersAlone : (Spec → List ℕ → Status → Type 0) → Result Spec Broken → List ℕ → Status → Type 0
AnswersAlone OfAccepted (Err broken) text status = IsRefusal broken text status
AnswersAlone OfAccepted (Ok spec) text status = AnswersRules spec (OfAccepted spec) text status

-- ---- run and group

-- the plans, and then the report of a history and of the rows of its replay
abbrev pub plans_and_report : Spec → Work → List (List Statement) → List Entry → List ℕ
plans_and_report spec work plans history = plans_text spec plans ++ printed_lines (report spec work.ranks history (replay spec history))

-- a plan of each operation, of this kind, and then the report of a run of the workload
pub record IsReportBy (ArePlans : List (List Statement) → Type 0) (spec : Spec) (work : Work) (text : List ℕ) (status : Status) : Type 0 where
  pub plans : List (List Statement)
  pub by_plans : ArePlans plans
  pub history : List Entry
  pub runs : Runs spec work history
  pub printed : text ≡ plans_and_report spec work plans history
  pub done : status ≡ Done

-- the planned plan of each operation, and then the report of a run of the workload
abbrev pub IsReport : Spec → Work → List ℕ → Status → Type 0
IsReport spec work text status = IsReportBy (ArePlanned spec) spec work text status

abbrev pub AnswersWorkBy : (List (List Statement) → Type 0) → Spec → Result Work Broken → List ℕ → Status → Type 0
AnswersWorkBy ArePlans spec (Err broken) text status = IsRefusal broken text status
AnswersWorkBy ArePlans spec (Ok work) text status = IsReportBy ArePlans spec work text status

abbrev pub AnswersWork : Spec → Result Work Broken → List ℕ → Status → Type 0
AnswersWork spec found text status = AnswersWorkBy (ArePlanned spec) spec found text status

-- what is written of a specification and a workload, in which groups may stand or not
abbrev pub AnswersRun : Also → List ℕ → Result Reading Broken → List ℕ → Status → Type 0
AnswersRun also input (Err broken) text status = IsRefusal broken text status
AnswersRun also input (Ok reading) text status = AnswersRules reading.spec (AnswersWork reading.spec (work_reading also reading.spec (place_after input reading))) text status

-- ---- open

-- a line for each shape, and then the report of a run over the specification with these operations
pub record IsOpenReport (spec : Spec) (read : OpenWork) (text : List ℕ) (status : Status) : Type 0 where
  pub others : List ℕ
  pub report : IsReport (with_operations spec read.shapes) read.work others status
  pub printed : text ≡ shapes_text spec read.shapes ++ others

abbrev pub AnswersOpenWork : Spec → Result OpenWork Broken → List ℕ → Status → Type 0
AnswersOpenWork spec (Err broken) text status = IsRefusal broken text status
AnswersOpenWork spec (Ok read) text status = IsOpenReport spec read text status

-- what is written of a specification and a workload whose calls may bring their own operation
abbrev pub AnswersOpen : List ℕ → Result Reading Broken → List ℕ → Status → Type 0
AnswersOpen input (Err broken) text status = IsRefusal broken text status
AnswersOpen input (Ok reading) text status =
    AnswersRules reading.spec
    (AnswersOpenWork reading.spec (open_reading (version_number reading.version) reading.spec (place_after input reading))) text status

-- ---- hand

-- the first broken rule of the lines of plans, with its line
abbrev pub hand_refusal_text : hand_lines.Broken → List ℕ
hand_refusal_text broken = printed_lines (words_text (codes "refused" ∷ hand_rule_text broken.rule ∷ codes "line" ∷ decimal broken.line ∷ []) ∷ [])

-- the refusal of a line of plans
abbrev pub IsHandRefusal : hand_lines.Broken → List ℕ → Status → Type 0
IsHandRefusal broken text status = (text ≡ hand_refusal_text broken) × (status ≡ Refused)

-- the refusal of the plan of an operation
abbrev pub IsPlanRefusal : Spec → ℕ → PlanRefusal → List ℕ → Status → Type 0
IsPlanRefusal spec op refusal text status = (text ≡ printed_lines (plan_refusal_text spec op refusal ∷ [])) × (status ≡ Refused)

-- Where each of these plans keeps K1 to K7, what follows; else the first, in written order, that doesn't is refused for its first
-- broken rule.
abbrev pub AnswersPlans : Spec → List Hand → (List ℕ → Status → Type 0) → List ℕ → Status → Type 0
AnswersPlans spec hands IfKept text status =
    (AllKeepRules spec hands × IfKept text status)
    ⊎ ((op : ℕ) × (refusal : PlanRefusal) × IsFirstRefused spec hands op refusal × IsPlanRefusal spec op refusal text status)

-- the workload of single calls that content lines give, in a text whose lines run out before this number
abbrev pub work_in_lines : ℕ → Spec → List ContentLine → Result Work Broken
work_in_lines past_end spec lines = work_by spec (reading_all Nothing past_end spec lines)

-- plans, and the lines of a workload behind them: calls run by the plans that are written, and else by the planned ones
abbrev pub AnswersChosen : ℕ → Spec → List Hand → List ContentLine → List ℕ → Status → Type 0
AnswersChosen past_end spec hands lines text status =
    AnswersPlans spec hands (AnswersWorkBy (AreChosen spec hands) spec (work_in_lines past_end spec lines)) text status

abbrev pub AnswersHands : ℕ → Spec → Result HandReading hand_lines.Broken → List ℕ → Status → Type 0
AnswersHands past_end spec (Err broken) text status = IsHandRefusal broken text status
AnswersHands past_end spec (Ok read) text status = AnswersChosen past_end spec read.hands read.others text status

-- what is written of a specification, plans behind it, and a workload of single calls behind these
abbrev pub AnswersByHand : List ℕ → Result Reading Broken → List ℕ → Status → Type 0
AnswersByHand input (Err broken) text status = IsRefusal broken text status
AnswersByHand input (Ok reading) text status =
    AnswersRules reading.spec (AnswersHands (past_end_of input) reading.spec (hands_reading reading.spec (place_after input reading))) text status

-- ---- audit

-- what is said of a report
abbrev pub verdict_text : Verdict → List ℕ
verdict_text (verdicts.Legal entries) = printed_lines (words_text (codes "legal" ∷ decimal entries ∷ []) ∷ [])
verdict_text (verdicts.Bad line) = printed_lines (words_text (codes "bad" ∷ codes "line" ∷ decimal line ∷ []) ∷ [])

abbrev pub verdict_status : Verdict → Status
verdict_status (verdicts.Legal entries) = Done
verdict_status (verdicts.Bad line) = Bad

abbrev pub IsVerdictText : Verdict → List ℕ → Status → Type 0
IsVerdictText verdict text status = (text ≡ verdict_text verdict) × (status ≡ verdict_status verdict)

-- the verdict on the lines behind a workload, which are of this form, by the planned plan of each operation
pub record IsJudgement (form : Form) (spec : Spec) (work : Work) (past_end : ℕ) (lines : List ContentLine) (text : List ℕ) (status : Status) : Type 0 where
  pub plans : List (List Statement)
  pub planned : ArePlanned spec plans
  pub verdict : Verdict
  pub is : IsVerdict form (record { spec = spec; plans = plans }) work past_end lines verdict
  pub written : IsVerdictText verdict text status

-- what may stand in the workload of a report of this form
abbrev pub also_in : Form → Also
also_in forms.Run = Nothing
also_in forms.Group = Groups
also_in forms.Journal = Nothing

abbrev pub AnswersPart : Form → Spec → ℕ → Result WorkPart Broken → List ℕ → Status → Type 0
AnswersPart form spec past_end (Err broken) text status = IsRefusal broken text status
AnswersPart form spec past_end (Ok part) text status = IsJudgement form spec part.work past_end part.others text status

-- what is written of a specification, a workload and the lines behind that, which are of this form
abbrev pub AnswersAudit : Form → List ℕ → Result Reading Broken → List ℕ → Status → Type 0
AnswersAudit form input (Err broken) text status = IsRefusal broken text status
AnswersAudit form input (Ok reading) text status =
    AnswersRules reading.spec (AnswersPart form reading.spec (past_end_of input) (part_reading (also_in form) reading.spec (place_after input reading))) text status

-- ---- all commands that read a text

-- What an input that is not too long may have written. `check`, `plan` and `dot` read a specification alone: the refusal of its
-- first broken line rule, then of its first broken rule of acceptance, else `accepted`, the plans, or the drawing. Where an
-- operation is named, the drawing has its plan; where none has the name, the name is refused. `run` and `group` read a workload
-- behind it, `group` one in which groups may stand, and refuse by its line rules last; else they write the plans and the report
-- of a run. `open` reads a workload whose calls may bring their own operation, and writes a line for each such operation before
-- that, and the plans and the report of a run over the specification with them. `hand` reads plans between the two, refuses the first broken line rule of these, then the first plan that breaks a
-- rule of plans, and then as `run` does; else it writes the plans that were written, in the place of the planned ones, and the
-- report of a run. `audit` reads a workload up to its `end`, refuses as `run` does, and else judges the lines behind that, as what is
-- printed of a run, one of groups among them, or as a journal alone.
abbrev pub Answers : TextCommand → List ℕ → List ℕ → Status → Type 0
Answers commands.Check input text status = AnswersAlone (λ spec. IsAcceptedText) (spec_of input) text status
Answers commands.Plan input text status = AnswersAlone IsPlansText (spec_of input) text status
Answers commands.Run input text status = AnswersRun Nothing input (spec_reading input) text status
Answers commands.Group input text status = AnswersRun Groups input (spec_reading input) text status
Answers commands.Audit input text status = AnswersAudit forms.Run input (spec_reading input) text status
Answers commands.AuditGroup input text status = AnswersAudit forms.Group input (spec_reading input) text status
Answers commands.AuditJournal input text status = AnswersAudit forms.Journal input (spec_reading input) text status
Answers commands.Hand input text status = AnswersByHand input (spec_reading input) text status
Answers commands.Open input text status = AnswersOpen input (spec_reading input) text status
Answers commands.Dot input text status = AnswersAlone IsDrawing (spec_of input) text status
Answers (commands.DotPlan op) input text status = AnswersAlone (IsPlanDrawingNamed op) (spec_of input) text status

-- the command makes the calls of a workload
abbrev pub MakesCalls : TextCommand → Type 0
MakesCalls commands.Check = ⊥
MakesCalls commands.Plan = ⊥
MakesCalls commands.Run = Unit {0}
MakesCalls commands.Group = Unit {0}
MakesCalls commands.Audit = ⊥
MakesCalls commands.AuditGroup = ⊥
MakesCalls commands.AuditJournal = ⊥
MakesCalls commands.Hand = Unit {0}
MakesCalls commands.Open = Unit {0}
MakesCalls commands.Dot = ⊥
MakesCalls (commands.DotPlan op) = ⊥

-- of what kind the plans are that its store has: the planned ones, or of `hand` any that keep K1 to K7
abbrev pub ArePlansFor : TextCommand → Spec → List (List Statement) → Type 0
ArePlansFor commands.Check spec plans = ArePlanned spec plans
ArePlansFor commands.Plan spec plans = ArePlanned spec plans
ArePlansFor commands.Run spec plans = ArePlanned spec plans
ArePlansFor commands.Group spec plans = ArePlanned spec plans
ArePlansFor commands.Audit spec plans = ArePlanned spec plans
ArePlansFor commands.AuditGroup spec plans = ArePlanned spec plans
ArePlansFor commands.AuditJournal spec plans = ArePlanned spec plans
ArePlansFor commands.Hand spec plans = ArePlansOf spec plans
ArePlansFor commands.Open spec plans = ArePlanned spec plans
ArePlansFor commands.Dot spec plans = ArePlanned spec plans
ArePlansFor (commands.DotPlan op) spec plans = ArePlanned spec plans

-- in which groups may stand or not
abbrev pub also_of : TextCommand → Also
also_of commands.Check = Nothing
also_of commands.Plan = Nothing
also_of commands.Run = Nothing
also_of commands.Group = Groups
also_of commands.Audit = Nothing
also_of commands.AuditGroup = Nothing
also_of commands.AuditJournal = Nothing
also_of commands.Hand = Nothing
also_of commands.Open = Nothing
also_of commands.Dot = Nothing
also_of (commands.DotPlan op) = Nothing

-- the command that judges lines of this form
abbrev pub audit_for : Form → TextCommand
audit_for forms.Run = commands.Audit
audit_for forms.Group = commands.AuditGroup
audit_for forms.Journal = commands.AuditJournal

-- an input that is too long
abbrev pub IsSizeRefusal : List ℕ → Status → Type 0
IsSizeRefusal text status = (text ≡ size_text) × (status ≡ Refused)
