-- Where a judge stands, and what its calls leave.
use Rattle.std.specs.Prelude.{◌≡◌, ◌⊎◌, ℕ, ◌+◌, ◌<◌, ◌≤◌, List, [], ◌∷◌, ◌++◌, drop, get_or, length, take, Option, Some, None, Result, Ok, Err, codes}
use Rattle.rc_audit.specs.Imports.{Pairs, Memory, Call, Spec, plain, SpecWithPlans, Entry, after_steps, replay, Turn, Work, plain_steps, final_lines, step_line}
use Rattle.rc_audit.specs.declared.closing.Closing.{Closing}
use Rattle.rc_audit.specs.declared.entries.Entries.{Entries}
use Rattle.rc_audit.specs.declared.fault.Fault.{Fault}
use Rattle.rc_audit.specs.declared.fault.Fault.TheVariants as faults
use Rattle.rc_audit.specs.declared.form.Form.{Form}
use Rattle.rc_audit.specs.declared.judge.Judge.{Judge}
use Rattle.rc_audit.specs.declared.opening.Opening.{Opening}
use Rattle.rc_audit.specs.declared.stage.Stage.{Stage}
use Rattle.rc_audit.specs.declared.stage.Stage.TheVariants as stages
use Rattle.rc_audit.specs.declared.relation.Relation.{Relation}
use Rattle.rc_audit.specs.declared.tail.Tail.{Tail}
use Rattle.rc_audit.specs.declared.tail.Tail.TheVariants as tails
use Rattle.rc_audit.specs.declared.verdict.Verdict.{Verdict}
use Rattle.rc_audit.specs.declared.verdict.Verdict.TheVariants.{Bad}
use Rattle.rc_audit.specs.Cursors.{AreCursors, HasLeft, left_in}
use Rattle.rc_audit.specs.GoodReports.{BeginsGood, IsGoodReport}
use Rattle.rc_audit.specs.Judged.{IsJudgeable, IsJudged, IsOfThread, IsWhole, closing_lines, opening_lines, turn_lines}
use Rattle.rc_audit.specs.Keeping.{Keeps}
use Rattle.rc_audit.specs.Left.{NoneLeft}

-- the round with this number
abbrev pub round_at : Work → ℕ → List Turn
round_at work number = get_or work.rounds number []

-- ---- between rounds

-- the lines so far are those up to the last of these entries, and no turn is left before these rounds
pub record IsBetween (form : Form) (compiled : SpecWithPlans) (work : Work) (done : List Entry) (rounds : List (List Turn)) (front : List (List ℕ)) : Type 0 where
  pub left : ℕ → List (List Call)
  pub none : NoneLeft left
  pub judged : IsJudged form compiled work done left rounds front []

-- so before the round of this number; as many entries are done, and the relation is what they leave
pub record IsBefore (form : Form) (compiled : SpecWithPlans) (work : Work) (relation : Relation) (number place : ℕ) (front : List (List ℕ)) : Type 0 where
  pub within : number ≤ length work.rounds
  pub done : List Entry
  pub between : IsBetween form compiled work done (drop number work.rounds) front
  pub place_is : length done ≡ place
  pub keeps : Keeps compiled.spec relation (replay compiled.spec done)

-- no round from one on has a turn before this one, which has one, or they are all
pub record IsFirstFilled (rounds : List (List Turn)) (from number : ℕ) : Type 0 where
  pub later : from ≤ number
  pub within : number ≤ length rounds
  pub empty : (n : ℕ) → from ≤ n → n < number → length (get_or rounds n []) ≡ 0
  pub filled : number < length rounds → 0 < length (get_or rounds number [])

-- ---- the stages

-- so many of the opening lines came, and more are to come
pub record IsOpening (form : Form) (compiled : SpecWithPlans) (work : Work) (opening : Opening) (front : List (List ℕ)) : Type 0 where
  pub lines_are : opening.lines ≡ opening_lines form compiled work
  pub within : opening.met < length opening.lines
  pub front_is : front ≡ take opening.met opening.lines

-- among the entries, in a round, each thread before its next turn, and some lines of the last entry may be pending
pub record IsAmong (form : Form) (compiled : SpecWithPlans) (work : Work) (relation : Relation) (entries : Entries) (front : List (List ℕ)) : Type 0 where
  pub within : entries.round < length work.rounds
  pub done : List Entry
  pub judged : IsJudged form compiled work done (left_in (round_at work entries.round) entries.cursors.items) (drop (entries.round + 1) work.rounds) front (drop entries.met entries.lines)
  pub place_is : length done ≡ entries.place
  pub keeps : Keeps compiled.spec relation (replay compiled.spec done)
  pub count : length entries.cursors.items ≡ work.threads
  pub are : AreCursors (round_at work entries.round) entries.cursors.items

-- some thread has a turn left in the round
abbrev pub HasSomeLeft : Work → Entries → Type 0
HasSomeLeft work entries = (thread : ℕ) × HasLeft (round_at work entries.round) entries.cursors.items thread

-- some lines are pending
abbrev pub HasPending : Entries → Type 0
HasPending entries = entries.met < length entries.lines

-- lines of the round are to come
abbrev pub HasMore : Work → Entries → Type 0
HasMore work entries = HasPending entries ⊎ HasSomeLeft work entries

-- the lines that a report ends with
abbrev pub tail_lines : Spec → List (List ℕ) → Tail → List (List ℕ)
tail_lines spec ranks (tails.Relation rows) = final_lines spec ranks rows
tail_lines spec ranks tails.End = codes "end" ∷ []

-- all entries are done, and so many of the closing lines came
pub record IsClosing (form : Form) (compiled : SpecWithPlans) (work : Work) (closing : Closing) (front : List (List ℕ)) : Type 0 where
  pub done : List Entry
  pub body : List (List ℕ)
  pub whole : IsWhole form compiled work done body
  pub tail_is : tail_lines compiled.spec work.ranks closing.tail ≡ closing_lines form compiled work done
  pub within : closing.met ≤ length (closing_lines form compiled work done)
  pub front_is : front ≡ body ++ take closing.met (closing_lines form compiled work done)
  pub count : length done ≡ closing.entries

abbrev pub IsAtStage : Form → SpecWithPlans → Work → Relation → Stage → List (List ℕ) → Type 0
IsAtStage form compiled work relation (stages.Opening opening) front = IsOpening form compiled work opening front × Keeps compiled.spec relation []
IsAtStage form compiled work relation (stages.Entries entries) front = IsAmong form compiled work relation entries front × HasMore work entries
IsAtStage form compiled work relation (stages.Closing closing) front = IsClosing form compiled work closing front

-- ---- the judge

-- the form of the report that is judged, and the specification with its plans and the workload of which it is
abbrev pub judged_form : Judge → Form
judged_form judge = judge.form

abbrev pub judged_plans : Judge → SpecWithPlans
judged_plans judge = judge.compiled.now

abbrev pub judged_work : Judge → Work
judged_work judge = judge.work.now

-- these lines were passed: the judge stands behind them at its stage
pub record HasPassed (judge : Judge) (front : List (List ℕ)) : Type 0 where
  pub judgeable : IsJudgeable (judged_plans judge).spec (judged_work judge)
  pub stage_is : IsAtStage (judged_form judge) (judged_plans judge) (judged_work judge) judge.relation judge.stage front

-- so lines that were passed begin a good report
abbrev pub PassedLinesBegin : Type 0
PassedLinesBegin = (judge : Judge) (front : List (List ℕ)) → HasPassed judge front → BeginsGood (judged_form judge) (judged_plans judge) (judged_work judge) front

-- it judges the same report
pub record IsOfSame (old new : Judge) : Type 0 where
  pub form_is : judged_form new ≡ judged_form old
  pub compiled_is : judged_plans new ≡ judged_plans old
  pub work_is : judged_work new ≡ judged_work old

-- ---- what the calls answer

-- a line is the wanted one, or another; no memory is taken
abbrev pub HasMet : {X : Type 0} → List ℕ → List ℕ → Result X Fault → Type 0
HasMet wanted line (Ok done) = line ≡ wanted
HasMet wanted line (Err faults.Memory) = ⊥
HasMet wanted line (Err faults.Bad) = line ≡ wanted → ⊥

-- behind these lines a line is passed, and something is so then; or with it no good report begins
abbrev pub Judges : {X : Type 0} → Form → SpecWithPlans → Work → List (List ℕ) → List ℕ → Type 0 → Result X Fault → Type 0
Judges form compiled work front line after (Ok done) = after
Judges form compiled work front line after (Err faults.Memory) = Unit {0}
Judges form compiled work front line after (Err faults.Bad) = BeginsGood form compiled work (front ++ line ∷ []) → ⊥

-- these lines are a good report with so many entries, or they are none
abbrev pub HasEntries : Form → SpecWithPlans → Work → List (List ℕ) → Option ℕ → Type 0
HasEntries form compiled work front (Some entries) = IsGoodReport form compiled work front entries
HasEntries form compiled work front None = (entries : ℕ) → IsGoodReport form compiled work front entries → ⊥

-- what is said of a report at a line with this number that isn't passed
abbrev pub verdict_at : Fault → ℕ → Result Verdict Memory
verdict_at faults.Memory number = Err (record {})
verdict_at faults.Bad number = Ok (Bad number)

-- ---- an entry

-- the thread that the line is of, among those that have a turn left
abbrev pub IsChosen : List Turn → List ℕ → ℕ → List ℕ → Option ℕ → Type 0
IsChosen round cursors place line None = (thread : ℕ) → HasLeft round cursors thread → IsOfThread place line thread → ⊥
IsChosen round cursors place line (Some thread) = HasLeft round cursors thread × IsOfThread place line thread

-- a call was made on these tuples, and the text is the line of its step
abbrev pub HasPrinted : Spec → List (List ℕ) → ℕ → ℕ → List Pairs → Call → Relation → Result (List ℕ) Memory → Type 0
HasPrinted spec ranks place thread r call relation (Ok text) =
    (text ≡ step_line spec ranks place thread (record { call = call; reply = (plain spec r call).reply }))
    × Keeps spec relation (plain spec r call).relation
HasPrinted spec ranks place thread r call relation (Err memory) = Unit {0}

-- calls were made one after another, and the lines are those of their entry
abbrev pub HaveBeenPrinted : Spec → List (List ℕ) → ℕ → ℕ → List Pairs → List Call → Relation → List (List ℕ) → Type 0
HaveBeenPrinted spec ranks place thread r calls relation lines =
    (lines ≡ turn_lines spec ranks place thread (plain_steps spec r calls)) × Keeps spec relation (after_steps spec r (plain_steps spec r calls))
