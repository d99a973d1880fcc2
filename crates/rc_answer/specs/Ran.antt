-- What a run leaves, and what is written of it. (PLDI 2012, serializable transactions: the calls of all threads are one
-- history.)
use Rattle.std.specs.Prelude.{◌≡◌, ℕ, ◌<◌, List, [], ◌++◌, drop, length, Option, Some, None, Result, Ok, Err}
use Rattle.rc_answer.specs.Imports.{Satisfies, In, Pairs, TextPlace, past_end_of, printed_lines, Adds, Spec, IsAccepted, ArePlansOf, Statement, AllKeepRules, AreChosen, HandReading, hands_reading, Hand, Entry, AllFit, IsLegal, IsNumbered, replay, states, shapes_text, Reading, spec_reading, version_number, Also, Nothing, OpenWork, Work, HasSingleTurns, open_reading, with_operations, work_reading, report, HasSingleSteps, Runs, TextCommand, place_after}
use Rattle.rc_command.specs.declared.command.TextCommand.TheVariants as commands
use Rattle.rc_answer.specs.Answers.{also_of, work_in_lines}
use Rattle.rc_answer.specs.declared.outcome.Outcome.{Outcome}
use Rattle.rc_answer.specs.declared.outcome.Ran.{Ran}
use Rattle.rc_answer.specs.declared.status.Status.{Status}
use Rattle.rc_answer.specs.declared.status.Status.TheVariants.{Done, Refused}
use Rattle.rc_answer.specs.declared.status.Stop.{Stop}
use Rattle.rc_answer.specs.Plans.{ArePlanned, plans_text}

-- ---- the text of a run

-- the entries that a closed store kept
abbrev pub entries_in : Option (List Entry) → List Entry
entries_in None = []
entries_in (Some entries) = entries

-- the plans, and then the report of the journal and of the rows
abbrev pub run_text : List (List ℕ) → Ran → List ℕ
run_text texts ran =
    plans_text ran.closed.compiled.spec ran.closed.compiled.plans
    ++ printed_lines (report ran.closed.compiled.spec texts (entries_in ran.closed.journal) ran.last)

-- the lines of the operations behind the declared ones, and then that
abbrev pub open_text : ℕ → List (List ℕ) → Ran → List ℕ
open_text declared texts ran =
    shapes_text ran.closed.compiled.spec (drop declared ran.closed.compiled.spec.ops) ++ run_text texts ran

-- ---- what a run is

-- A run of the workload on the specification, whose operations have plans of this kind: the closed store has it as its
-- journal, and the rows are those that it leaves.
pub record IsRunBy (ArePlans : List (List Statement) → Type 0) (spec : Spec) (work : Work) (ran : Ran) : Type 0 where
  pub of_spec : ran.closed.compiled.spec ≡ spec
  pub by_plans : ArePlans ran.closed.compiled.plans
  pub history : List Entry
  pub journal : ran.closed.journal ≡ Some history
  pub runs : Runs spec work history
  pub last : ran.last ≡ replay spec history

-- by their planned plans
abbrev pub IsRunOf : Spec → Work → Ran → Type 0
IsRunOf spec work ran = IsRunBy (ArePlanned spec) spec work ran

-- what is so of the closed store: its plans keep K1 to K7, the calls of the journal fit its specification, and each entry is of a pass that it had
pub record IsOfItsStore (ran : Ran) : Type 0 where
  pub kept : ArePlansOf ran.closed.compiled.spec ran.closed.compiled.plans
  pub fit : AllFit ran.closed.compiled.spec (entries_in ran.closed.journal)
  pub passes : (e : Entry) → In e (entries_in ran.closed.journal) → e.pass < length ran.closed.made

-- an input is read as an accepted specification, and a workload behind it, in which groups may stand or not
pub record IsReadAs (also : Also) (input : List ℕ) (spec : Spec) (work : Work) : Type 0 where
  pub reading : Reading
  pub read : spec_reading input ≡ Ok reading
  pub of_spec : reading.spec ≡ spec
  pub accepted : IsAccepted spec
  pub work_read : work_reading also spec (place_after input reading) ≡ Ok work

-- a run of what was read was made, and its text was written
pub record HasRunText (also : Also) (input : List ℕ) (old new : Option (List ℕ)) (ran : Ran) : Type 0 where
  pub spec : Spec
  pub work : Work
  pub read : IsReadAs also input spec work
  pub run : IsRunOf spec work ran
  pub store : IsOfItsStore ran
  pub written : Adds old (run_text work.ranks ran) new

-- an input is read as an accepted specification, plans behind it that keep K1 to K7, and a workload of single calls behind these
pub record IsReadByHand (input : List ℕ) (spec : Spec) (hands : List Hand) (work : Work) : Type 0 where
  pub reading : Reading
  pub read : spec_reading input ≡ Ok reading
  pub of_spec : reading.spec ≡ spec
  pub accepted : IsAccepted spec
  pub plans : HandReading
  pub plans_read : hands_reading spec (place_after input reading) ≡ Ok plans
  pub of_plans : plans.hands ≡ hands
  pub keep : AllKeepRules spec hands
  pub work_read : work_in_lines (past_end_of input) spec plans.others ≡ Ok work

-- a run of what was read by the plans that were written, and else by the planned ones, was made, and its text was written
pub record HasHandText (input : List ℕ) (old new : Option (List ℕ)) (ran : Ran) : Type 0 where
  pub spec : Spec
  pub hands : List Hand
  pub work : Work
  pub read : IsReadByHand input spec hands work
  pub run : IsRunBy (AreChosen spec hands) spec work ran
  pub store : IsOfItsStore ran
  pub written : Adds old (run_text work.ranks ran) new

-- An input is read as an accepted specification, and a workload behind it whose calls bring these operations: the specification
-- with them is accepted too.
pub record IsReadOpen (input : List ℕ) (spec : Spec) (work : OpenWork) : Type 0 where
  pub reading : Reading
  pub read : spec_reading input ≡ Ok reading
  pub of_spec : reading.spec ≡ spec
  pub accepted : IsAccepted spec
  pub work_read : open_reading (version_number reading.version) spec (place_after input reading) ≡ Ok work
  pub extended : IsAccepted (with_operations spec work.shapes)
  pub single : HasSingleTurns work.work

-- a run of what was read was made, and the lines of the shapes and its text were written
pub record HasOpenText (input : List ℕ) (old new : Option (List ℕ)) (ran : Ran) : Type 0 where
  pub spec : Spec
  pub work : OpenWork
  pub read : IsReadOpen input spec work
  pub run : IsRunOf (with_operations spec work.shapes) work.work ran
  pub store : IsOfItsStore ran
  pub written : Adds old (shapes_text spec work.shapes ++ run_text work.work.ranks ran) new

-- so where the workload stands from a place on, in a text of this version
pub record HasOpenWorkText (version : ℕ) (spec : Spec) (place : TextPlace) (old new : Option (List ℕ)) (ran : Ran) : Type 0 where
  pub work : OpenWork
  pub work_read : open_reading version spec place ≡ Ok work
  pub extended : IsAccepted (with_operations spec work.shapes)
  pub single : HasSingleTurns work.work
  pub run : IsRunOf (with_operations spec work.shapes) work.work ran
  pub store : IsOfItsStore ran
  pub written : Adds old (shapes_text spec work.shapes ++ run_text work.work.ranks ran) new

-- a run of the command
abbrev pub HasTextOf : TextCommand → List ℕ → Option (List ℕ) → Option (List ℕ) → Ran → Type 0
HasTextOf commands.Check = HasRunText (also_of commands.Check)
HasTextOf commands.Plan = HasRunText (also_of commands.Plan)
HasTextOf commands.Run = HasRunText (also_of commands.Run)
HasTextOf commands.Group = HasRunText (also_of commands.Group)
HasTextOf commands.Audit = HasRunText (also_of commands.Audit)
HasTextOf commands.AuditGroup = HasRunText (also_of commands.AuditGroup)
HasTextOf commands.AuditJournal = HasRunText (also_of commands.AuditJournal)
HasTextOf commands.Hand = HasHandText
HasTextOf commands.Open = HasOpenText
HasTextOf commands.Dot = HasRunText (also_of commands.Dot)
HasTextOf (commands.DotPlan op) = HasRunText (also_of (commands.DotPlan op))

-- What is so of a run, whatever was read: the specification is accepted and its plans are of this kind; the journal
-- is one legal history in which each pass of the store numbers its entries, each of calls that fit and, where no groups are
-- read, of one; every state of it satisfies the dependencies; and the rows are those of the last.
pub record IsOneHistory (ArePlans : Spec → List (List Statement) → Type 0) (also : Also) (ran : Ran) : Type 0 where
  pub accepted : IsAccepted ran.closed.compiled.spec
  pub by_plans : ArePlans ran.closed.compiled.spec ran.closed.compiled.plans
  pub history : List Entry
  pub journal : ran.closed.journal ≡ Some history
  pub legal : IsLegal ran.closed.compiled.spec history
  pub fit : AllFit ran.closed.compiled.spec history
  pub passes : (e : Entry) → In e history → e.pass < length ran.closed.made
  pub numbered : IsNumbered history
  pub single : also ≡ Nothing → HasSingleSteps history
  pub satisfy : (r : List Pairs) → In r (states ran.closed.compiled.spec history)
      → Satisfies r ran.closed.compiled.spec.deps
  pub last : ran.last ≡ replay ran.closed.compiled.spec history

-- ---- outcomes

-- the status of an outcome, where there is one
abbrev pub status_in : Result Outcome Stop → Result Status Stop
status_in (Ok outcome) = Ok outcome.status
status_in (Err stop) = Err stop

-- a refused command leaves no run
pub record LeavesNone (outcome : Outcome) : Type 0 where
  pub none : outcome.ran ≡ None
  pub refused : outcome.status ≡ Refused

-- the run of an outcome, where there is one
abbrev pub ran_in : Result Outcome Stop → Option Ran
ran_in (Ok outcome) = outcome.ran
ran_in (Err stop) = None

-- the outcome of a run that was written
abbrev pub outcome_in : Result Ran Stop → Result Outcome Stop
outcome_in (Ok ran) = Ok (record { status = Done; ran = Some ran })
outcome_in (Err stop) = Err stop

-- its status
abbrev pub done_in : Result Ran Stop → Result Status Stop
done_in (Ok ran) = Ok Done
done_in (Err stop) = Err stop
