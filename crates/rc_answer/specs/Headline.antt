-- THE HEADLINE: what `relc run`, `relc group`, `relc open`, `relc hand` and `relc audit` have done with a text, and `relc check` with a
-- specification, in one place.
--
--   A specification is accepted exactly where the written rules hold, and a refusal names the first broken one. For an accepted
--   one the printed journal is one legal history, in which each thread's calls stand once, in its order and after all calls of
--   earlier rounds; every reply is that of the plain relation at its place; and every state satisfies the dependencies.
--   Where groups are read, the calls of a group stand there as one entry, between which there is no other; each other call is an
--   entry by itself, and so is every call of `run`.
--   `relc open` reads a workload whose calls may bring their own operation. Where it keeps the rules of its lines, a line for each such
--   operation is printed, and then the plans and the journal of a run over the specification with these operations behind its own.
--   `relc hand` reads plans between specification and workload. Where each of them keeps the written rules of plans, the store has
--   them for their operations, and the planned plans for the others, and the journal is one legal history all the same. A refusal
--   names the first broken rule of the lines, or of the first plan that breaks one. (That a call locks exactly by the plan that the
--   store has is promised below, by `exact` of `HasMade` in rc_store/specs/Store.antt.)
--   `relc audit` judges lines that stand behind a workload: they are legal exactly where they are what is printed of some run,
--   and else exactly one line is the first with which no such text begins. So `relc audit bare` judges the journal alone.
--
-- The call `relc` (rc_top/src/top.rt, clauses `headline`, `group_headline`, `open_headline`, `hand_headline`, `check_headline` and
-- `audit_headline`) promises it
-- where the words say so, the source tells its bytes, these are at most 2^24, and the status is Done, Refused or, of `audit`, Bad. Read this file to its end, and then
-- what its words stand on, in this order (docs/BELIEVING.md lists each file):
--   the rules           rc_spec: Acceptance (IsAccepted, IsFirstBroken), Adequacy (A1 to A7), Placement (P1 to P6, O1 to O3)
--   the plain relation  rc_spec: Plain; rc_tuple: Relation (Satisfies, Follows), Tuple
--   histories and runs  rc_rel: History (AreLegalFrom, relation_at); rc_work: Runs (thread_calls, thread_turns, MakesRounds)
--   the grammar         rc_reader: Grammar (spec_reading); rc_work: Ranking (work_reading), OpenGrammar (open_reading), Shapes (with_operations); here: Answers (work_in_lines)
--   the printed forms   rc_work: Report; rc_open: ShapeText; rc_spec: RefusalText; rc_plan: PlanText
--   planned plans       rc_query: Planned (IsPlanned)
--   written plans       rc_handplan: HandGrammar (hands_reading), Chosen (AreChosen, AllKeepRules, IsFirstRefused); rc_plan: PlanRules (K1 to K7)
--   good reports        rc_audit: GoodReports (IsGoodReport, IsVerdict)
use Rattle.std.specs.Prelude.{◌≡◌, ◌↔◌, ℕ, suc, ◌<◌, List, [], ◌∷◌, ◌++◌, ◌⊎◌, Option, None, Some, Result, Ok, Err}
use Rattle.rc_answer.specs.Imports.{flat_map, slice_get, In, Satisfies, Pairs, ContentLine, bytes_of_content, past_end_of, printed_lines, Adds, Refusal, Spec, IsAccepted, IsFirstBroken, Statement, PlanRefusal, AllKeepRules, AreChosen, IsFirstRefused, HandReading, hands_reading, plan_refusal_text, Hand, Entry, AllFit, AreLegalFrom, after_steps, calls_of, own, relation_at, replay, shapes_text, Broken, Reading, spec_of, spec_reading, version_number, Also, Nothing, OpenWork, Work, open_reading, WorkPart, part_reading, work_reading, report, HasSingleSteps, MakesRounds, thread_calls, thread_turns, turns_of, with_operations, place_after, Form, Verdict, IsGoodReport, IsVerdict}
use Rattle.rc_rel.specs.History.{states as states_of}
use Rattle.rc_spec.specs.RefusalText as rules
use Rattle.rc_handplan.specs.HandGrammar as hand_lines
use Rattle.rc_answer.specs.declared.outcome.Outcome.{Outcome}
use Rattle.rc_answer.specs.declared.outcome.Ran.{Ran}
use Rattle.rc_answer.specs.declared.status.Status.TheVariants.{Done, Refused}
use Rattle.rc_answer.specs.Answers.{accepted_text, also_in, hand_refusal_text, line_refusal_text, verdict_status, verdict_text, work_in_lines}
use Rattle.rc_answer.specs.Plans.{ArePlanned, plans_text}

-- ---- one legal history

-- An entry's calls are answered as by the plain relation, one after another, and leave the plain relation.
pub record IsAnswered (spec : Spec) (before after : List Pairs) (entry : Entry) : Type 0 where
  pub replies : AreLegalFrom spec before entry.steps
  pub relation : after ≡ after_steps spec before entry.steps

-- The calls of a workload in one order, answered as by a plain set of tuples that makes them one after another.
pub record IsOneLegalHistory (also : Also) (spec : Spec) (work : Work) (journal : List Entry) : Type 0 where
  -- every reply is the plain relation's at its place, and leaves the plain relation of the next place
  pub replies : (place : ℕ) (entry : Entry) → slice_get journal place ≡ Some entry
      → IsAnswered spec (relation_at spec journal place) (relation_at spec journal (suc place)) entry
  -- each call is one of an operation of the specification, with values for its columns
  pub fit : AllFit spec journal
  -- each thread's calls stand once, and in its order; nobody else makes any
  pub calls : (thread : ℕ) → calls_of (own journal thread) ≡ flat_map (thread_calls thread) work.rounds
  -- and so do its turns: the calls of a group, or one call, are one entry; without groups each entry has one call
  pub turns : (thread : ℕ) → turns_of (own journal thread) ≡ flat_map (thread_turns thread) work.rounds
  pub single : also ≡ Nothing → HasSingleSteps journal
  pub threads : (entry : Entry) → In entry journal → entry.pass < work.threads
  -- and after all calls of earlier rounds
  pub rounds : MakesRounds work.rounds journal
  -- every state, which is the relation after a call, and the empty one, satisfies the dependencies
  pub states : (r : List Pairs) → In r (states_of spec journal) → Satisfies r spec.deps

-- ---- the ends of a text

-- the sink has gained this refusal, and no run is left
pub record Refuses (text : List ℕ) (old new : Option (List ℕ)) (outcome : Outcome) : Type 0 where
  pub status : outcome.status ≡ Refused
  pub none : outcome.ran ≡ None
  pub printed : Adds old text new

-- the sink has gained the line `accepted`, and no run is left
pub record Accepts (old new : Option (List ℕ)) (outcome : Outcome) : Type 0 where
  pub status : outcome.status ≡ Done
  pub none : outcome.ran ≡ None
  pub printed : Adds old accepted_text new

-- The closed store, whose operations have plans of this kind, has one legal history of the workload as its journal, and the rows
-- that it leaves; the sink has gained the plans and the report of this very journal and these rows.
pub record HasRunOnceBy (ArePlans : List (List Statement) → Type 0) (also : Also) (spec : Spec) (work : Work) (old new : Option (List ℕ)) (outcome : Outcome) : Type 0 where
  pub status : outcome.status ≡ Done
  pub ran : Ran
  pub is : outcome.ran ≡ Some ran
  pub of_spec : ran.closed.compiled.spec ≡ spec
  pub by_plans : ArePlans ran.closed.compiled.plans
  pub journal : List Entry
  pub closed : ran.closed.journal ≡ Some journal
  pub history : IsOneLegalHistory also spec work journal
  pub last : ran.last ≡ replay spec journal
  pub printed : Adds old (plans_text spec ran.closed.compiled.plans ++ printed_lines (report spec work.ranks journal ran.last)) new

-- by the planned plans
abbrev pub HasRunOnce : Also → Spec → Work → Option (List ℕ) → Option (List ℕ) → Outcome → Type 0
HasRunOnce also spec work old new outcome = HasRunOnceBy (ArePlanned spec) also spec work old new outcome

-- The sink has gained the one verdict on the lines behind a workload, by the planned plans, and no run is left: `legal` with
-- the number of entries exactly where they are those of a good report of this form, and else the one line that is the first
-- bad one.
pub record HasJudged (form : Form) (spec : Spec) (work : Work) (past_end : ℕ) (lines : List ContentLine) (old new : Option (List ℕ)) (outcome : Outcome) : Type 0 where
  pub plans : List (List Statement)
  pub planned : ArePlanned spec plans
  pub verdict : Verdict
  pub is : IsVerdict form (record { spec = spec; plans = plans }) work past_end lines verdict
  pub only : (other : Verdict) → IsVerdict form (record { spec = spec; plans = plans }) work past_end lines other → other ≡ verdict
  pub good : (outcome.status ≡ Done) ↔ ((entries : ℕ) × IsGoodReport form (record { spec = spec; plans = plans }) work (bytes_of_content lines) entries)
  pub status : outcome.status ≡ verdict_status verdict
  pub none : outcome.ran ≡ None
  pub printed : Adds old (verdict_text verdict) new

-- a workload that breaks a line rule up to its `end` is refused, and behind any other the lines are judged
abbrev pub OfPart : Form → Spec → ℕ → Result WorkPart Broken → Option (List ℕ) → Option (List ℕ) → Outcome → Type 0
OfPart form spec past_end (Err broken) old new outcome = Refuses (line_refusal_text broken) old new outcome
OfPart form spec past_end (Ok part) old new outcome = HasJudged form spec part.work past_end part.others old new outcome

-- a workload that breaks a line rule is refused, and any other is run
abbrev pub OfWorkBy : (List (List Statement) → Type 0) → Also → Spec → Result Work Broken → Option (List ℕ) → Option (List ℕ) → Outcome → Type 0
OfWorkBy ArePlans also spec (Err broken) old new outcome = Refuses (line_refusal_text broken) old new outcome
OfWorkBy ArePlans also spec (Ok work) old new outcome = HasRunOnceBy ArePlans also spec work old new outcome

-- by the planned plans
abbrev pub OfWork : Also → Spec → Result Work Broken → Option (List ℕ) → Option (List ℕ) → Outcome → Type 0
OfWork also spec found old new outcome = OfWorkBy (ArePlanned spec) also spec found old new outcome

-- The sink has gained a line for each shape, and then all that is said of the workload over the specification with these operations.
pub record HasRunOpen (spec : Spec) (read : OpenWork) (old new : Option (List ℕ)) (outcome : Outcome) : Type 0 where
  pub between : Option (List ℕ)
  pub shapes : Adds old (shapes_text spec read.shapes) between
  pub run : HasRunOnce Nothing (with_operations spec read.shapes) read.work between new outcome

-- a workload whose calls may bring their own operation is refused where it breaks a line rule, and else run
abbrev pub OfOpenWork : Spec → Result OpenWork Broken → Option (List ℕ) → Option (List ℕ) → Outcome → Type 0
OfOpenWork spec (Err broken) old new outcome = Refuses (line_refusal_text broken) old new outcome
OfOpenWork spec (Ok read) old new outcome = HasRunOpen spec read old new outcome

-- Where each of these plans keeps K1 to K7, what is said of the workload behind them, and of a store that has them and the planned
-- plans of the other operations; and where not all do, the first that doesn't is refused for its first broken rule.
abbrev pub OfChosen : Spec → List Hand → Result Work Broken → Option (List ℕ) → Option (List ℕ) → Outcome → Type 0
OfChosen spec hands found old new outcome =
    (AllKeepRules spec hands × OfWorkBy (AreChosen spec hands) Nothing spec found old new outcome)
    ⊎ ((AllKeepRules spec hands → ⊥) × (op : ℕ) × (refusal : PlanRefusal) × IsFirstRefused spec hands op refusal
    × Refuses (printed_lines (plan_refusal_text spec op refusal ∷ [])) old new outcome)

-- lines of plans that break a rule are refused
abbrev pub OfHands : ℕ → Spec → Result HandReading hand_lines.Broken → Option (List ℕ) → Option (List ℕ) → Outcome → Type 0
OfHands past_end spec (Err broken) old new outcome = Refuses (hand_refusal_text broken) old new outcome
OfHands past_end spec (Ok read) old new outcome = OfChosen spec read.hands (work_in_lines past_end spec read.others) old new outcome

-- accepted, or not accepted and refused for its first broken rule
abbrev pub OfSpec : Spec → (Option (List ℕ) → Option (List ℕ) → Outcome → Type 0) → Option (List ℕ) → Option (List ℕ) → Outcome → Type 0
OfSpec spec IfAccepted old new outcome =
    (IsAccepted spec × IfAccepted old new outcome)
    ⊎ ((IsAccepted spec → ⊥) × (refusal : Refusal) × IsFirstBroken spec refusal
    × Refuses (printed_lines (rules.refusal_text spec refusal ∷ [])) old new outcome)

-- a specification that breaks a line rule is refused; behind one that is accepted stands a workload
abbrev pub OfReading : Also → List ℕ → Result Reading Broken → Option (List ℕ) → Option (List ℕ) → Outcome → Type 0
OfReading also input (Err broken) old new outcome = Refuses (line_refusal_text broken) old new outcome
OfReading also input (Ok reading) old new outcome =
    OfSpec reading.spec (OfWork also reading.spec (work_reading also reading.spec (place_after input reading))) old new outcome

-- behind one that is accepted stands a workload whose calls may bring their own operation
abbrev pub OfOpen : List ℕ → Result Reading Broken → Option (List ℕ) → Option (List ℕ) → Outcome → Type 0
OfOpen input (Err broken) old new outcome = Refuses (line_refusal_text broken) old new outcome
OfOpen input (Ok reading) old new outcome =
    OfSpec reading.spec (OfOpenWork reading.spec (open_reading (version_number reading.version) reading.spec (place_after input reading))) old new outcome

-- behind one that is accepted stand plans and a workload
abbrev pub OfByHand : List ℕ → Result Reading Broken → Option (List ℕ) → Option (List ℕ) → Outcome → Type 0
OfByHand input (Err broken) old new outcome = Refuses (line_refusal_text broken) old new outcome
OfByHand input (Ok reading) old new outcome =
    OfSpec reading.spec (OfHands (past_end_of input) reading.spec (hands_reading reading.spec (place_after input reading))) old new outcome

-- a specification that stands alone
abbrev pub OfAlone : Result Spec Broken → Option (List ℕ) → Option (List ℕ) → Outcome → Type 0
OfAlone (Err broken) old new outcome = Refuses (line_refusal_text broken) old new outcome
OfAlone (Ok spec) old new outcome = OfSpec spec Accepts old new outcome

-- behind a specification that is accepted stand a workload and lines to judge
abbrev pub OfJudged : Form → List ℕ → Result Reading Broken → Option (List ℕ) → Option (List ℕ) → Outcome → Type 0
OfJudged form input (Err broken) old new outcome = Refuses (line_refusal_text broken) old new outcome
OfJudged form input (Ok reading) old new outcome =
    OfSpec reading.spec (OfPart form reading.spec (past_end_of input) (part_reading (also_in form) reading.spec (place_after input reading))) old new outcome

-- ---- the headline

-- of `run`, which reads no groups (`Nothing`), and of `group`, which does (`Groups`)
abbrev pub Headline : Also → List ℕ → Option (List ℕ) → Option (List ℕ) → Outcome → Type 0
Headline also input old new outcome = OfReading also input (spec_reading input) old new outcome

-- and of `open`, whose calls may bring their own operation
abbrev pub OpenHeadline : List ℕ → Option (List ℕ) → Option (List ℕ) → Outcome → Type 0
OpenHeadline input old new outcome = OfOpen input (spec_reading input) old new outcome

-- and of `hand`, which reads plans behind the specification
abbrev pub HandHeadline : List ℕ → Option (List ℕ) → Option (List ℕ) → Outcome → Type 0
HandHeadline input old new outcome = OfByHand input (spec_reading input) old new outcome

-- and of `check`
abbrev pub CheckHeadline : List ℕ → Option (List ℕ) → Option (List ℕ) → Outcome → Type 0
CheckHeadline input old new outcome = OfAlone (spec_of input) old new outcome

-- and of `audit`, behind whose workload stands all that `run` prints (`Run`), or the journal alone (`Journal`)
abbrev pub AuditHeadline : Form → List ℕ → Option (List ℕ) → Option (List ℕ) → Outcome → Type 0
AuditHeadline form input old new outcome = OfJudged form input (spec_reading input) old new outcome
