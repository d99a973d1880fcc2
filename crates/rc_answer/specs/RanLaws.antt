-- Laws of runs and of their texts.
use Rattle.std.proofs.Common.{◌≡◌, ℕ, ◌<◌, List, Option, Result, Ok, Err, length, refl, sym, ap, ◌∙◌, subst, ◌++◌}
use Rattle.rc_answer.specs.Imports.{ContentLine, TextPlace, past_end_of, printed_lines, In, Spec, IsAccepted, ArePlansOf, Statement, AreChosen, Broken, Entry, AllFit, IsLegal, replay, states_satisfy, Also, Nothing, Work, HasSingleTurns, IsOfAlso-reading_all, work_by, work_of, work_reading, HasSingleTurns-work_with, turns_without_groups_are_single, report, Runs, single_turns_are_single_steps, with_operations, place_after, draft_of, reading_all, summary, generated, generated_has_single_turns, generated_summary_is_one_threads, sample_graph, sample_is_accepted, summary_text, TextCommand}
use Rattle.rc_answer.specs.declared.outcome.Ran.{Ran}
use Rattle.rc_answer.specs.declared.status.Status.{Status}
use Rattle.rc_answer.specs.declared.status.Status.TheVariants.{Done}
use Rattle.rc_command.specs.declared.command.TextCommand.TheVariants as commands
use Rattle.rc_answer.specs.Answers.{IsReportBy, also_of, plans_and_report, ArePlansFor, work_in_lines}
use Rattle.rc_answer.specs.Big.{HasSummaryText, big_text, ran_text}
use Rattle.rc_answer.specs.Plans.{ArePlanned, plans_text}
use Rattle.rc_answer.specs.Ran.{HasHandText, HasOpenText, HasRunText, HasTextOf, IsOfItsStore, IsOneHistory, IsRunBy, IsRunOf, entries_in, run_text}

-- so of one that may have groups, where none are read
pub single_without_groups : (also : Also) (spec : Spec) (place : TextPlace) (work : Work) → work_reading also spec place ≡ Ok work → also ≡ Nothing
    → HasSingleTurns work
single_without_groups also spec place work e nothing =
    turns_without_groups_are_single spec place work (subst (λ (a : Also). work_reading a spec place ≡ Ok work) nothing e)

-- the text of a run is one that a command which makes it may write
pub is_report : (ArePlans : List (List Statement) → Type 0) (spec : Spec) (work : Work) (ran : Ran) → IsRunBy ArePlans spec work ran
    → IsReportBy ArePlans spec work (run_text work.ranks ran) Done
is_report ArePlans spec work ran run = record {
  plans = ran.closed.compiled.plans;
  by_plans = run.by_plans;
  history = run.history;
  runs = run.runs;
  printed = λ i. plans_text (run.of_spec i) ran.closed.compiled.plans ++ printed_lines (report (run.of_spec i) work.ranks (entries_in (run.journal i)) (run.last i));
  done = refl;
}

-- a run by plans of one kind is one by plans of another kind that these are of
pub run_by : (A B : List (List Statement) → Type 0) (spec other : Spec) (work : Work) (ran : Ran) → spec ≡ other
    → (A ran.closed.compiled.plans → B ran.closed.compiled.plans) → IsRunBy A spec work ran → IsRunBy B other work ran
run_by A B spec other work ran same wider run = record {
  of_spec = run.of_spec ∙ same;
  by_plans = wider run.by_plans;
  history = run.history;
  journal = run.journal;
  runs = subst (λ (s : Spec). Runs s work run.history) same run.runs;
  last = run.last ∙ ap (λ (s : Spec). replay s run.history) same;
}

-- and so is its report
pub report_by : (A B : List (List Statement) → Type 0) (spec other : Spec) (work : Work) (text : List ℕ) (status : Status) → spec ≡ other
    → ((plans : List (List Statement)) → A plans → B plans) → IsReportBy A spec work text status → IsReportBy B other work text status
report_by A B spec other work text status same wider is = record {
  plans = is.plans;
  by_plans = wider is.plans is.by_plans;
  history = is.history;
  runs = subst (λ (s : Spec). Runs s work is.history) same is.runs;
  printed = is.printed ∙ ap (λ (s : Spec). plans_and_report s work is.plans is.history) same;
  done = is.done;
}

-- a run on an accepted specification is of one history
pub is_one_history : (ArePlans : Spec → List (List Statement) → Type 0) (also : Also) (spec : Spec) (work : Work) (ran : Ran) → IsAccepted spec
    → (also ≡ Nothing → HasSingleTurns work) → IsRunBy (ArePlans spec) spec work ran → IsOfItsStore ran → IsOneHistory ArePlans also ran
is_one_history ArePlans also spec work ran accepted single run store =
    let same : spec ≡ ran.closed.compiled.spec = sym run.of_spec in
    record {
      accepted = subst IsAccepted same accepted;
      by_plans = subst (λ (s : Spec). ArePlans s ran.closed.compiled.plans) same run.by_plans;
      history = run.history;
      journal = run.journal;
      legal = subst (λ (s : Spec). IsLegal s run.history) same run.runs.legal;
      fit = subst (λ (o : Option (List Entry)). AllFit ran.closed.compiled.spec (entries_in o)) run.journal store.fit;
      passes = subst (λ (o : Option (List Entry)). (e : Entry) → In e (entries_in o) → e.pass < length ran.closed.made) run.journal
          store.passes;
      numbered = run.runs.numbered;
      single = λ nothing. single_turns_are_single_steps spec work run.history (single nothing) run.runs;
      satisfy = states_satisfy ran.closed.compiled.spec run.history;
      last = run.last ∙ ap (λ (s : Spec). replay s run.history) same;
    }

-- so one that was written is
pub written_is_one_history : (also : Also) (input : List ℕ) (old new : Option (List ℕ)) (ran : Ran) → HasRunText also input old new ran
    → IsOneHistory ArePlanned also ran
written_is_one_history also input old new ran h =
    is_one_history ArePlanned also h.spec h.work ran h.read.accepted
    (single_without_groups also h.spec (place_after input h.read.reading) h.work h.read.work_read) h.run h.store

-- and the run of a generated workload
pub summed_is_one_history : (seed calls : ℕ) (old new : Option (List ℕ)) (ran : Ran) → HasSummaryText seed calls old new ran
    → IsOneHistory ArePlanned Nothing ran
summed_is_one_history seed calls old new ran h =
    is_one_history ArePlanned Nothing sample_graph (generated seed calls) ran sample_is_accepted (λ nothing. generated_has_single_turns seed calls) h.run h.store

-- ---- hand

-- what the lines of a workload give first, which its crate keeps to itself
abbrev Target : {A B : Type 0} → (A → B) → Type 0
Target {A} {B} f = B

abbrev Draft : Type 0
Draft = Target draft_of

-- the workload that lines give has single calls
pub single_in_lines : (past_end : ℕ) (spec : Spec) (lines : List ContentLine) (work : Work) → work_in_lines past_end spec lines ≡ Ok work
    → HasSingleTurns work
single_in_lines past_end spec lines work e = by_draft (reading_all Nothing past_end spec lines) refl e
  where
    by_draft : (found : Result Draft Broken) → reading_all Nothing past_end spec lines ≡ found → work_by spec found ≡ Ok work → HasSingleTurns work
    by_draft (Err broken) is q = absurd cc
    by_draft (Ok draft) is q =
        let same : work_of spec draft ≡ work = cc in
        subst HasSingleTurns same (HasSingleTurns-work_with spec _ draft (IsOfAlso-reading_all Nothing past_end spec lines draft is))

-- a run by plans that were written is one by plans that keep K1 to K7, and of one history
pub hand_is_one_history : (input : List ℕ) (old new : Option (List ℕ)) (ran : Ran) → HasHandText input old new ran
    → IsOneHistory ArePlansOf Nothing ran
hand_is_one_history input old new ran h =
    is_one_history ArePlansOf Nothing h.spec h.work ran h.read.accepted
    (λ nothing. single_in_lines (past_end_of input) h.spec h.read.plans.others h.work h.read.work_read)
    (run_by (AreChosen h.spec h.hands) (ArePlansOf h.spec) h.spec h.spec h.work ran refl
    (λ chosen. subst (λ (s : Spec). ArePlansOf s ran.closed.compiled.plans) h.run.of_spec h.store.kept) h.run) h.store

-- a run of a workload whose calls bring their own operation is of one history, over the specification with these operations
pub open_is_one_history : (input : List ℕ) (old new : Option (List ℕ)) (ran : Ran) → HasOpenText input old new ran
    → IsOneHistory ArePlanned Nothing ran
open_is_one_history input old new ran h =
    is_one_history ArePlanned Nothing (with_operations h.spec h.work.shapes) h.work.work ran h.read.extended (λ nothing. h.read.single) h.run h.store

-- and of each command that makes a run
pub text_is_one_history : (command : TextCommand) (input : List ℕ) (old new : Option (List ℕ)) (ran : Ran) → HasTextOf command input old new ran
    → IsOneHistory (ArePlansFor command) (also_of command) ran
text_is_one_history commands.Check = written_is_one_history (also_of commands.Check)
text_is_one_history commands.Plan = written_is_one_history (also_of commands.Plan)
text_is_one_history commands.Run = written_is_one_history (also_of commands.Run)
text_is_one_history commands.Group = written_is_one_history (also_of commands.Group)
text_is_one_history commands.Audit = written_is_one_history (also_of commands.Audit)
text_is_one_history commands.AuditGroup = written_is_one_history (also_of commands.AuditGroup)
text_is_one_history commands.AuditJournal = written_is_one_history (also_of commands.AuditJournal)
text_is_one_history commands.Hand = hand_is_one_history
text_is_one_history commands.Open = open_is_one_history
text_is_one_history commands.Dot = written_is_one_history (also_of commands.Dot)
text_is_one_history (commands.DotPlan op) = written_is_one_history (also_of (commands.DotPlan op))

-- its summary is that of one thread
pub summary_is_one_threads : (seed calls : ℕ) (ran : Ran) → IsRunOf sample_graph (generated seed calls) ran → ran_text ran ≡ big_text seed calls
unfolding big_text ran_text
summary_is_one_threads seed calls ran run =
    ap summary_text
    ((λ i. summary (entries_in (run.journal i)) (run.last i)) ∙ generated_summary_is_one_threads seed calls run.history run.runs)
