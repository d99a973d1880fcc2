-- What the whole of an input may have written, with which status.
use Rattle.std.specs.Prelude.{◌≡◌, ◌⊎◌, ℕ, ◌<◌, ◌≤◌, ◌^◌, List, [], ◌∷◌, length, Result, Ok, Err, IsSome, codes}
use Rattle.rc_text.specs.Lines.{past_end_of, printed_lines}
use Rattle.rc_spec.specs.declared.spec.Spec.{Spec}
use Rattle.rc_spec.specs.Acceptance.{IsAccepted}
use Rattle.rc_reader.specs.Grammar.{Broken, Reading, spec_reading, spec_of}
use Rattle.rc_reader.specs.Versions.{version_number}
use Rattle.rc_handplan.specs.Chosen.{AllKeepRules}
use Rattle.rc_handplan.specs.HandGrammar as hand_lines
use Rattle.rc_handplan.specs.HandGrammar.{HandReading, hands_reading}
use Rattle.rc_work.specs.declared.also.Also.{Also}
use Rattle.rc_work.specs.declared.also.Also.TheVariants.{Nothing, Groups}
use Rattle.rc_work.specs.declared.open_work.OpenWork.{OpenWork}
use Rattle.rc_work.specs.declared.work.Work.{Work}
use Rattle.rc_work.specs.LineRules.{op_number}
use Rattle.rc_work.specs.OpenGrammar.{open_reading}
use Rattle.rc_work.specs.PartGrammar.{WorkPart, part_reading}
use Rattle.rc_work.specs.Ranking.{work_reading}
use Rattle.rc_answer.specs.Answers.{Answers, IsSizeRefusal, work_in_lines}
use Rattle.rc_work.specs.WholeText.{place_after}
use Rattle.rc_command.specs.declared.command.TextCommand.{TextCommand}
use Rattle.rc_command.specs.declared.command.TextCommand.TheVariants.{Check, Plan, Run, Group, Audit, AuditGroup, AuditJournal, Hand, Open, Dot, DotPlan}
use Rattle.rc_answer.specs.declared.status.Status.{Status}
use Rattle.rc_answer.specs.declared.status.Status.TheVariants.{Done, Bad}

abbrev pub usage_text : List ℕ
usage_text = printed_lines (codes "usage: relc check, plan, run, dot [OP], audit, hand, open, group or big SEED N" ∷ [])

-- a workload was read
abbrev pub IsGoodWork : Result Work Broken → Type 0
IsGoodWork (Err broken) = ⊥
IsGoodWork (Ok work) = Unit {0}

abbrev pub IsGoodReading : Also → List ℕ → Result Reading Broken → Type 0
IsGoodReading also input (Err broken) = ⊥
IsGoodReading also input (Ok reading) = IsAccepted reading.spec × IsGoodWork (work_reading also reading.spec (place_after input reading))

-- a workload whose calls may bring their own operation was read
abbrev pub IsGoodOpen : Result OpenWork Broken → Type 0
IsGoodOpen (Err broken) = ⊥
IsGoodOpen (Ok read) = Unit {0}

abbrev pub IsGoodReadingOpen : List ℕ → Result Reading Broken → Type 0
IsGoodReadingOpen input (Err broken) = ⊥
IsGoodReadingOpen input (Ok reading) =
    IsAccepted reading.spec × IsGoodOpen (open_reading (version_number reading.version) reading.spec (place_after input reading))

-- a workload was read up to its `end`
abbrev pub IsGoodPart : Result WorkPart Broken → Type 0
IsGoodPart (Err broken) = ⊥
IsGoodPart (Ok part) = Unit {0}

abbrev pub IsGoodReadingUpToEnd : Also → List ℕ → Result Reading Broken → Type 0
IsGoodReadingUpToEnd also input (Err broken) = ⊥
IsGoodReadingUpToEnd also input (Ok reading) = IsAccepted reading.spec × IsGoodPart (part_reading also reading.spec (place_after input reading))

-- plans that keep K1 to K7 were read, and a workload behind them
abbrev pub IsGoodByHand : ℕ → Spec → Result HandReading hand_lines.Broken → Type 0
IsGoodByHand past_end spec (Err broken) = ⊥
IsGoodByHand past_end spec (Ok read) = AllKeepRules spec read.hands × IsGoodWork (work_in_lines past_end spec read.others)

abbrev pub IsGoodReadingByHand : List ℕ → Result Reading Broken → Type 0
IsGoodReadingByHand input (Err broken) = ⊥
IsGoodReadingByHand input (Ok reading) =
    IsAccepted reading.spec × IsGoodByHand (past_end_of input) reading.spec (hands_reading reading.spec (place_after input reading))

abbrev pub IsGoodSpec : Result Spec Broken → Type 0
IsGoodSpec (Err broken) = ⊥
IsGoodSpec (Ok spec) = IsAccepted spec

-- and one that has an operation of this name
abbrev pub IsGoodSpecWith : List ℕ → Result Spec Broken → Type 0
IsGoodSpecWith op (Err broken) = ⊥
IsGoodSpecWith op (Ok spec) = IsAccepted spec × IsSome (op_number spec op)

-- an input that breaks no rule of the command
abbrev pub KeepsRules : TextCommand → List ℕ → Type 0
KeepsRules Check input = IsGoodSpec (spec_of input)
KeepsRules Plan input = IsGoodSpec (spec_of input)
KeepsRules Run input = IsGoodReading Nothing input (spec_reading input)
KeepsRules Group input = IsGoodReading Groups input (spec_reading input)
KeepsRules Audit input = IsGoodReadingUpToEnd Nothing input (spec_reading input)
KeepsRules AuditGroup input = IsGoodReadingUpToEnd Groups input (spec_reading input)
KeepsRules AuditJournal input = IsGoodReadingUpToEnd Nothing input (spec_reading input)
KeepsRules Hand input = IsGoodReadingByHand input (spec_reading input)
KeepsRules Open input = IsGoodReadingOpen input (spec_reading input)
KeepsRules Dot input = IsGoodSpec (spec_of input)
KeepsRules (DotPlan op) input = IsGoodSpecWith op (spec_of input)

-- the status of an input that breaks none: `audit` alone has two
abbrev pub IsAnswered : TextCommand → Status → Type 0
IsAnswered Check status = status ≡ Done
IsAnswered Plan status = status ≡ Done
IsAnswered Run status = status ≡ Done
IsAnswered Group status = status ≡ Done
IsAnswered Audit status = (status ≡ Done) ⊎ (status ≡ Bad)
IsAnswered AuditGroup status = (status ≡ Done) ⊎ (status ≡ Bad)
IsAnswered AuditJournal status = (status ≡ Done) ⊎ (status ≡ Bad)
IsAnswered Hand status = status ≡ Done
IsAnswered Open status = status ≡ Done
IsAnswered Dot status = status ≡ Done
IsAnswered (DotPlan op) status = status ≡ Done

-- what any input may have written, with its status
pub record IsAnswer (command : TextCommand) (input text : List ℕ) (status : Status) : Type 0 where
  pub read : length input ≤ 2 ^ 24 → Answers command input text status
  pub long : 2 ^ 24 < length input → IsSizeRefusal text status
