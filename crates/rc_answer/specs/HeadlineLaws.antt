-- The headline holds of what `run`, `group`, `hand` and `check` answer with the status Done or Refused, and `audit` also with Bad.
use Rattle.std.proofs.Common.{◌≡◌, ◌↔◌, ℕ, suc, ◌+◌, List, [], ◌∷◌, ◌++◌, take, drop, Option, Some, None, Result, Ok, Err, refl, sym, ap, subst, ◌∙◌, inl, inr, arith}
use Rattle.rc_answer.specs.Imports.{IfSome, IsSome, slice_get, In, append_in_right, Pairs, ContentLine, TextPlace, bytes_of_content, past_end_of, printed_lines, Adds, Spec, refused_not_accepted, plain, op_at, SpecWithPlans, refused_law, PlanRefusal, Statement, AllKeepRules, AreChosen, IsFirstRefused, HandReading, hands_reading, plan_refusal_text, Hand, Entry, Step, AllFit, AreLegalFrom, IsLegal, after_steps, relation_at, replay, steps_of, states_satisfy, steps_of-append, legal_last, shapes_text, Broken, Reading, spec_of, spec_reading, version_number, Also, Nothing, OpenWork, Work, open_reading, IsDraft-reading_all, HasThreads, HasSingleTurns, WorkPart, part_reading, parts_are_works, work_by, work_of, work_reading, HasThreads-work_with, report, HasSingleSteps, Runs, runs_make_calls, runs_make_turns, single_turns_are_single_steps, with_operations, place_after, draft_of, reading_all, Form, Verdict, IsGoodReport, IsVerdict, one_verdict, Check}
use Rattle.std.proofs.lemmas.List.{append_assoc, take-append-drop, take_more}
use Rattle.std.proofs.lemmas.Option.{get_or_from_slice_get, slice_get_within}
use Rattle.rc_spec.specs.RefusalText as rules
use Rattle.rc_handplan.specs.HandGrammar as hand_lines
use Rattle.rc_audit.specs.declared.form.Form.TheVariants as forms
use Rattle.rc_audit.specs.declared.verdict.Verdict.TheVariants as verdicts
use Rattle.rc_answer.specs.declared.outcome.Outcome.{Outcome}
use Rattle.rc_answer.specs.declared.outcome.Ran.{Ran}
use Rattle.rc_answer.specs.declared.status.Status.{Status}
use Rattle.rc_answer.specs.declared.status.Status.TheVariants.{Done, Bad, Refused}
use Rattle.rc_answer.specs.Answers.{Answers, AnswersAlone, AnswersAudit, AnswersByHand, AnswersHands, AnswersOpen, AnswersOpenWork, AnswersPart, AnswersRules, AnswersRun, AnswersWork, AnswersWorkBy, IsAcceptedText, IsJudgement, also_in, audit_for, hand_refusal_text, line_refusal_text, verdict_status, work_in_lines}
use Rattle.rc_answer.specs.Plans.{ArePlanned, plans_text}
use Rattle.rc_answer.specs.Ran.{HasHandText, HasOpenText, HasRunText, IsRunBy, IsRunOf, entries_in, run_text}
use Rattle.rc_answer.specs.RanLaws.{single_in_lines, single_without_groups}
use Rattle.rc_answer.specs.Writes.{WritesWhole}
use Rattle.rc_answer.specs.Headline.{Accepts, AuditHeadline, CheckHeadline, HandHeadline, Headline, OpenHeadline, HasJudged, HasRunOnce, HasRunOnceBy, IsAnswered, IsOneLegalHistory, OfAlone, OfByHand, OfHands, OfJudged, OfOpen, OfOpenWork, HasRunOpen, OfPart, OfReading, OfSpec, OfWork, OfWorkBy, Refuses}

-- ---- one legal history

-- of legal steps the first ones are legal
legal_first : (spec : Spec) (r : List Pairs) (xs ys : List Step) → AreLegalFrom spec r (xs ++ ys) → AreLegalFrom spec r xs
legal_first spec r [] ys h = tt
legal_first spec r (x ∷ xs) ys h = (h.0, legal_first spec (plain spec r x.call).relation xs ys h.1)

-- in a legal history each entry is answered at its place
answered_there : (spec : Spec) (journal : List Entry) → IsLegal spec journal → (place : ℕ) (entry : Entry) → slice_get journal place ≡ Some entry
    → IsAnswered spec (relation_at spec journal place) (relation_at spec journal (suc place)) entry
answered_there spec journal legal place entry at = record {
  replies = last.0;
  relation = ap (replay spec) more ∙ last.1;
}
  where
    more : take (suc place) journal ≡ take place journal ++ entry ∷ []
    more =
        let next : place + 1 ≡ suc place = omega arith in
        ap (λ n. take n journal) (sym next) ∙ take_more journal place entry (slice_get_within journal place entry at)
        ∙ ap (λ e. take place journal ++ e ∷ []) (get_or_from_slice_get journal place entry entry at)

    all : take (suc place) journal ++ drop (suc place) journal ≡ journal
    all = take-append-drop (suc place) journal

    steps : steps_of journal ≡ steps_of (take (suc place) journal) ++ steps_of (drop (suc place) journal)
    steps = ap steps_of (sym all) ∙ steps_of-append (take (suc place) journal) (drop (suc place) journal)

    first : IsLegal spec (take (suc place) journal)
    first =
        legal_first spec [] (steps_of (take (suc place) journal)) (steps_of (drop (suc place) journal))
        (subst (λ (l : List Step). AreLegalFrom spec [] l) steps legal)

    last : AreLegalFrom spec (replay spec (take place journal)) entry.steps
        × (replay spec (take place journal ++ entry ∷ []) ≡ after_steps spec (replay spec (take place journal)) entry.steps)
    last = legal_last spec (take place journal) entry (subst (IsLegal spec) more first)

-- a run of calls that fit is one legal history
pub one_legal_history : (also : Also) (spec : Spec) (work : Work) (journal : List Entry) → Runs spec work journal → (also ≡ Nothing → HasSingleSteps journal)
    → AllFit spec journal → IsOneLegalHistory also spec work journal
one_legal_history also spec work journal run single fit = record {
  replies = answered_there spec journal run.legal;
  fit = fit;
  calls = λ thread. runs_make_calls spec work journal thread run;
  turns = λ thread. runs_make_turns spec work journal thread run;
  single = single;
  threads = run.threads;
  rounds = run.rounds;
  states = states_satisfy spec journal;
}

-- ---- what was read is one

reading_in : Reading → Result Reading Broken → Reading
reading_in reading (Ok x) = x
reading_in reading (Err e) = reading

work_in : Work → Result Work Broken → Work
work_in work (Ok x) = x
work_in work (Err e) = work

-- ---- refusals

module _ (old new : Option (List ℕ)) (outcome : Outcome) where
  -- an outcome without a run, whose text is this refusal
  refuses : (text out : List ℕ) → outcome.ran ≡ None → out ≡ text → outcome.status ≡ Refused → Adds old out new → Refuses text old new outcome
  refuses text out none is status adds = record {
    status = status;
    none = none;
    printed = subst (λ (l : List ℕ). Adds old l new) is adds;
  }

  -- what is answered of an accepted specification, and else its refusal
  of_rules : (spec : Spec) (Answered : List ℕ → Status → Type 0) (IfAccepted : Option (List ℕ) → Option (List ℕ) → Outcome → Type 0) (out : List ℕ)
      → (outcome.status ≡ Refused → outcome.ran ≡ None) → (Answered out outcome.status → IfAccepted old new outcome)
      → AnswersRules spec Answered out outcome.status → Adds old out new → OfSpec spec IfAccepted old new outcome
  of_rules spec Answered IfAccepted out none accepted (inl (is, answers)) adds = inl (is, accepted answers)
  of_rules spec Answered IfAccepted out none accepted (inr (refusal, first, is)) adds =
      inr (
        refused_not_accepted spec refusal first,
        refusal,
        first,
        refuses (printed_lines (rules.refusal_text spec refusal ∷ [])) out (none is.1) is.0 is.1 adds,
      )

-- ---- check

module _ (old new : Option (List ℕ)) (outcome : Outcome) (none : outcome.ran ≡ None) where
  of_alone : (read : Result Spec Broken) (out : List ℕ) → AnswersAlone (λ spec. IsAcceptedText) read out outcome.status → Adds old out new
      → OfAlone read old new outcome
  of_alone (Err broken) out (printed, refused) adds = refuses old new outcome (line_refusal_text broken) out none printed refused adds
  of_alone (Ok spec) out answers adds =
      of_rules old new outcome spec IsAcceptedText Accepts out (λ refused. none)
      (λ h. record { status = h.1; none = none; printed = subst (λ (l : List ℕ). Adds old l new) h.0 adds }) answers adds

  pub check_headline : (input : List ℕ) → WritesWhole (Answers Check input) old new outcome.status → CheckHeadline input old new outcome
  check_headline input (out, answers, adds) = of_alone (spec_of input) out answers adds

-- ---- audit

-- what the lines of a workload give first, which its crate keeps to itself
abbrev Target : {A B : Type 0} → (A → B) → Type 0
Target {A} {B} f = B

abbrev Draft : Type 0
Draft = Target draft_of

-- each thread of a workload that was read up to its `end` is one of it
threads_by : (also : Also) (spec : Spec) (past_end : ℕ) (lines : List ContentLine) (found : Result Draft Broken) (work : Work) → reading_all also past_end spec lines ≡ found
    → work_by spec found ≡ Ok work → HasThreads work
threads_by also spec past_end lines (Err broken) work is e = absurd cc
threads_by also spec past_end lines (Ok draft) work is e =
    let same : work_of spec draft ≡ work = cc in
    subst HasThreads same (HasThreads-work_with spec _ draft (IsDraft-reading_all also past_end spec lines draft is))

pub part_threads : (also : Also) (spec : Spec) (place : TextPlace) (part : WorkPart) → part_reading also spec place ≡ Ok part → HasThreads part.work
part_threads also spec place part e =
    let of = parts_are_works also spec place part e in
    threads_by also spec (past_end_of place.text) (of.front ++ part.last ∷ []) (reading_all also (past_end_of place.text) spec (of.front ++ part.last ∷ [])) part.work refl of.gives

bad_is_not_done : Bad ≡ Done → ⊥
bad_is_not_done e = cc

legal_is_not_bad : (entries line : ℕ) → verdicts.Legal entries ≡ verdicts.Bad line → ⊥
legal_is_not_bad entries line e = cc

module _ (form : Form) (compiled : SpecWithPlans) (work : Work) (past_end : ℕ) (lines : List ContentLine) (threads : HasThreads work) where
  -- the status is Done exactly where the lines are those of a good report
  good_exactly : (verdict : Verdict) → IsVerdict form compiled work past_end lines verdict → (status : Status) → status ≡ verdict_status verdict
      → (status ≡ Done) ↔ ((entries : ℕ) × IsGoodReport form compiled work (bytes_of_content lines) entries)
  good_exactly (verdicts.Legal entries) is status e = ((λ done. (entries, is)), (λ good. e))
  good_exactly (verdicts.Bad line) is status e = (
    (λ done. absurd (bad_is_not_done (sym e ∙ done))),
    (λ good. absurd (legal_is_not_bad good.0 line (one_verdict form compiled work past_end lines (verdicts.Legal good.0) (verdicts.Bad line) threads good.1 is))),
  )

module _ (old new : Option (List ℕ)) (outcome : Outcome) (none : outcome.ran ≡ None) where
  judged : (form : Form) (spec : Spec) (work : Work) (past_end : ℕ) (lines : List ContentLine) (out : List ℕ) → HasThreads work
      → IsJudgement form spec work past_end lines out outcome.status → Adds old out new → HasJudged form spec work past_end lines old new outcome
  judged form spec work past_end lines out threads h adds =
      let compiled : SpecWithPlans = record { spec = spec; plans = h.plans } in
      record {
        plans = h.plans;
        planned = h.planned;
        verdict = h.verdict;
        is = h.is;
        only = λ other is. one_verdict form compiled work past_end lines other h.verdict threads is h.is;
        good = good_exactly form compiled work past_end lines threads h.verdict h.is outcome.status h.written.1;
        status = h.written.1;
        none = none;
        printed = subst (λ (l : List ℕ). Adds old l new) h.written.0 adds;
      }

  of_part : (form : Form) (spec : Spec) (place : TextPlace) (past_end : ℕ) (found : Result WorkPart Broken) → part_reading (also_in form) spec place ≡ found
      → (out : List ℕ) → AnswersPart form spec past_end found out outcome.status → Adds old out new → OfPart form spec past_end found old new outcome
  of_part form spec place past_end (Err broken) is out (printed, refused) adds =
      refuses old new outcome (line_refusal_text broken) out none printed refused adds
  of_part form spec place past_end (Ok part) is out answers adds = judged form spec part.work past_end part.others out (part_threads (also_in form) spec place part is) answers adds

  of_judged : (form : Form) (input : List ℕ) (read : Result Reading Broken) (out : List ℕ) → AnswersAudit form input read out outcome.status → Adds old out new
      → OfJudged form input read old new outcome
  of_judged form input (Err broken) out (printed, refused) adds = refuses old new outcome (line_refusal_text broken) out none printed refused adds
  of_judged form input (Ok reading) out answers adds =
      let found = part_reading (also_in form) reading.spec (place_after input reading) in
      of_rules old new outcome reading.spec (AnswersPart form reading.spec (past_end_of input) found) (OfPart form reading.spec (past_end_of input) found) out (λ refused. none)
      (λ h. of_part form reading.spec (place_after input reading) (past_end_of input) found refl out h adds) answers adds

  pub audit_headline : (form : Form) (input : List ℕ) → WritesWhole (Answers (audit_for form) input) old new outcome.status
      → AuditHeadline form input old new outcome
  audit_headline forms.Run input (out, answers, adds) = of_judged forms.Run input (spec_reading input) out answers adds
  audit_headline forms.Group input (out, answers, adds) = of_judged forms.Group input (spec_reading input) out answers adds
  audit_headline forms.Journal input (out, answers, adds) = of_judged forms.Journal input (spec_reading input) out answers adds

-- ---- run, group and hand

done_not_refused : Done ≡ Refused → ⊥
done_not_refused e = cc

none_is_not_some : (o : Option Ran) → o ≡ None → IsSome o → ⊥
none_is_not_some None is some = cc
none_is_not_some (Some r) is some = cc

-- a run is left exactly where the status is Done
module _ (outcome : Outcome) (has : IsSome outcome.ran ↔ (outcome.status ≡ Done)) where
  none_of : (o : Option Ran) → outcome.ran ≡ o → outcome.status ≡ Refused → o ≡ None
  none_of None is refused = refl
  none_of (Some r) is refused = absurd (done_not_refused (sym (has.0 (subst (λ (o : Option Ran). IsSome o) (sym is) refl)) ∙ refused))

  some_of : (P : Ran → Type 0) → IfSome outcome.ran P → (o : Option Ran) → outcome.ran ≡ o → outcome.status ≡ Done
      → (r : Ran) × (outcome.ran ≡ Some r) × P r
  some_of P ran None is done = absurd (none_is_not_some outcome.ran is (has.1 done))
  some_of P ran (Some r) is done = (r, is, subst (λ (o : Option Ran). IfSome o P) is ran)

run_once : (ArePlans : List (List Statement) → Type 0) (also : Also) (spec : Spec) (work : Work) (old new : Option (List ℕ)) (outcome : Outcome) (r : Ran)
    → outcome.ran ≡ Some r → outcome.status ≡ Done → (also ≡ Nothing → HasSingleTurns work)
    → (run : IsRunBy ArePlans spec work r) → AllFit r.closed.compiled.spec (entries_in r.closed.journal)
    → Adds old (run_text work.ranks r) new → HasRunOnceBy ArePlans also spec work old new outcome
run_once ArePlans also spec work old new outcome r at done single run fit adds = record {
  status = done;
  ran = r;
  is = at;
  of_spec = run.of_spec;
  by_plans = run.by_plans;
  journal = run.history;
  closed = run.journal;
  history = one_legal_history also spec work run.history run.runs (λ nothing. single_turns_are_single_steps spec work run.history (single nothing) run.runs)
      (subst (λ (z : Spec × List Entry). AllFit z.0 z.1) (λ i. (run.of_spec i, entries_in (run.journal i))) fit);
  last = run.last;
  printed = subst (λ (l : List ℕ). Adds old l new)
      (λ i. plans_text (run.of_spec i) r.closed.compiled.plans ++ printed_lines (report (run.of_spec i) work.ranks (entries_in (run.journal i)) r.last))
      adds;
}

module _ (also : Also) (input : List ℕ) (old new : Option (List ℕ)) (outcome : Outcome)
    (has : IsSome outcome.ran ↔ (outcome.status ≡ Done)) (ran : IfSome outcome.ran (HasRunText also input old new)) where
  of_work : (reading : Reading) → spec_reading input ≡ Ok reading → (read : Result Work Broken)
      → work_reading also reading.spec (place_after input reading) ≡ read
      → (out : List ℕ) → AnswersWork reading.spec read out outcome.status → Adds old out new → OfWork also reading.spec read old new outcome
  unfolding reading_in work_in
  of_work reading is (Err broken) works out (printed, refused) adds =
      refuses old new outcome (line_refusal_text broken) out (none_of outcome has outcome.ran refl refused) printed refused adds
  of_work reading is (Ok work) works out answers adds = go (some_of outcome has (HasRunText also input old new) ran outcome.ran refl answers.done)
    where
      go : ((r : Ran) × (outcome.ran ≡ Some r) × HasRunText also input old new r) → HasRunOnce also reading.spec work old new outcome
      go (r, at, h) =
          let same : reading ≡ h.read.reading = ap (reading_in reading) (sym is ∙ h.read.read) in
          let spec_same : reading.spec ≡ h.spec = ap (λ (x : Reading). x.spec) same ∙ h.read.of_spec in
          let work_same : work ≡ h.work =
          ap (work_in work) (sym works ∙ (λ i. work_reading also (spec_same i) (place_after input (same i))) ∙ h.read.work_read) in
          run_once (ArePlanned reading.spec) also reading.spec work old new outcome r at answers.done
          (single_without_groups also reading.spec (place_after input reading) work works)
          (subst (λ (z : Spec × Work). IsRunOf z.0 z.1 r) (λ i. (sym spec_same i, sym work_same i)) h.run) h.store.fit
          (subst (λ (w : Work). Adds old (run_text w.ranks r) new) (sym work_same) h.written)

  of_reading : (read : Result Reading Broken) → spec_reading input ≡ read → (out : List ℕ)
      → AnswersRun also input read out outcome.status → Adds old out new → OfReading also input read old new outcome
  of_reading (Err broken) is out (printed, refused) adds =
      refuses old new outcome (line_refusal_text broken) out (none_of outcome has outcome.ran refl refused) printed refused adds
  of_reading (Ok reading) is out answers adds =
      let work = work_reading also reading.spec (place_after input reading) in
      of_rules old new outcome reading.spec (AnswersWork reading.spec work) (OfWork also reading.spec work) out (none_of outcome has outcome.ran refl)
      (λ h. of_work reading is work refl out h adds) answers adds

  pub headline : WritesWhole (AnswersRun also input (spec_reading input)) old new outcome.status → Headline also input old new outcome
  headline (out, answers, adds) = of_reading (spec_reading input) refl out answers adds

-- ---- open

open_in : OpenWork → Result OpenWork Broken → OpenWork
open_in read (Ok x) = x
open_in read (Err e) = read

-- bytes of two parts are added one after another
adds_apart : (old new : Option (List ℕ)) (xs ys : List ℕ) → Adds old (xs ++ ys) new
    → (between : Option (List ℕ)) × Adds old xs between × Adds between ys new
adds_apart None new xs ys adds = (None, refl, adds)
adds_apart (Some held) new xs ys adds = (Some (held ++ xs), refl, adds ∙ ap (λ (l : List ℕ). Some l) (sym (append_assoc held xs ys)))

module _ (input : List ℕ) (old new : Option (List ℕ)) (outcome : Outcome)
    (has : IsSome outcome.ran ↔ (outcome.status ≡ Done)) (ran : IfSome outcome.ran (HasOpenText input old new)) where
  of_open_work : (reading : Reading) → spec_reading input ≡ Ok reading → (read : Result OpenWork Broken)
      → open_reading (version_number reading.version) reading.spec (place_after input reading) ≡ read
      → (out : List ℕ) → AnswersOpenWork reading.spec read out outcome.status → Adds old out new → OfOpenWork reading.spec read old new outcome
  unfolding reading_in open_in
  of_open_work reading is (Err broken) works out (printed, refused) adds =
      refuses old new outcome (line_refusal_text broken) out (none_of outcome has outcome.ran refl refused) printed refused adds
  of_open_work reading is (Ok read) works out answers adds = go (some_of outcome has (HasOpenText input old new) ran outcome.ran refl answers.report.done)
    where
      go : ((r : Ran) × (outcome.ran ≡ Some r) × HasOpenText input old new r) → HasRunOpen reading.spec read old new outcome
      go (r, at, h) =
          let same : reading ≡ h.read.reading = ap (reading_in reading) (sym is ∙ h.read.read) in
          let spec_same : reading.spec ≡ h.spec = ap (λ (x : Reading). x.spec) same ∙ h.read.of_spec in
          let read_same : read ≡ h.work =
          ap (open_in read) (sym works ∙ (λ i. open_reading (version_number (same i).version) (spec_same i) (place_after input (same i))) ∙ h.read.work_read) in
          let apart = adds_apart old new (shapes_text reading.spec read.shapes) (run_text read.work.ranks r)
          (subst (λ (z : Spec × OpenWork). Adds old (shapes_text z.0 z.1.shapes ++ run_text z.1.work.ranks r) new) (λ i. (sym spec_same i, sym read_same i)) h.written) in
          record {
            between = apart.0;
            shapes = apart.1;
            run = run_once (ArePlanned (with_operations reading.spec read.shapes)) Nothing (with_operations reading.spec read.shapes) read.work apart.0 new outcome r at
                answers.report.done (λ nothing. subst (λ (w : OpenWork). HasSingleTurns w.work) (sym read_same) h.read.single)
                (subst (λ (z : Spec × OpenWork). IsRunOf (with_operations z.0 z.1.shapes) z.1.work r) (λ i. (sym spec_same i, sym read_same i)) h.run) h.store.fit
                apart.2;
          }

  of_open : (read : Result Reading Broken) → spec_reading input ≡ read → (out : List ℕ)
      → AnswersOpen input read out outcome.status → Adds old out new → OfOpen input read old new outcome
  of_open (Err broken) is out (printed, refused) adds =
      refuses old new outcome (line_refusal_text broken) out (none_of outcome has outcome.ran refl refused) printed refused adds
  of_open (Ok reading) is out answers adds =
      let found = open_reading (version_number reading.version) reading.spec (place_after input reading) in
      of_rules old new outcome reading.spec (AnswersOpenWork reading.spec found) (OfOpenWork reading.spec found) out
      (none_of outcome has outcome.ran refl) (λ h. of_open_work reading is found refl out h adds) answers adds

  pub open_headline : WritesWhole (AnswersOpen input (spec_reading input)) old new outcome.status → OpenHeadline input old new outcome
  open_headline (out, answers, adds) = of_open (spec_reading input) refl out answers adds

-- ---- hand

hands_in : HandReading → Result HandReading hand_lines.Broken → HandReading
hands_in read (Ok x) = x
hands_in read (Err e) = read

-- where a plan is refused, not all keep K1 to K7
pub refused_plans_fail : (spec : Spec) (hands : List Hand) (op : ℕ) (refusal : PlanRefusal) → IsFirstRefused spec hands op refusal → AllKeepRules spec hands → ⊥
refused_plans_fail spec hands op refusal first keep =
    refused_law spec (op_at spec first.hand.op) first.hand.plan refusal first.first
    (keep first.hand (subst (In first.hand) (sym first.whole) (append_in_right first.hand first.front (first.hand ∷ first.others) (inl refl))))

module _ (input : List ℕ) (old new : Option (List ℕ)) (outcome : Outcome)
    (has : IsSome outcome.ran ↔ (outcome.status ≡ Done)) (ran : IfSome outcome.ran (HasHandText input old new)) where
  of_chosen_work : (reading : Reading) → spec_reading input ≡ Ok reading → (plans : HandReading)
      → hands_reading reading.spec (place_after input reading) ≡ Ok plans → (read : Result Work Broken)
      → work_in_lines (past_end_of input) reading.spec plans.others ≡ read → (out : List ℕ)
      → AnswersWorkBy (AreChosen reading.spec plans.hands) reading.spec read out outcome.status → Adds old out new
      → OfWorkBy (AreChosen reading.spec plans.hands) Nothing reading.spec read old new outcome
  unfolding reading_in hands_in work_in
  of_chosen_work reading is plans are (Err broken) works out (printed, refused) adds =
      refuses old new outcome (line_refusal_text broken) out (none_of outcome has outcome.ran refl refused) printed refused adds
  of_chosen_work reading is plans are (Ok work) works out answers adds =
      go (some_of outcome has (HasHandText input old new) ran outcome.ran refl answers.done)
    where
      go : ((r : Ran) × (outcome.ran ≡ Some r) × HasHandText input old new r)
          → HasRunOnceBy (AreChosen reading.spec plans.hands) Nothing reading.spec work old new outcome
      go (r, at, h) =
          let same : reading ≡ h.read.reading = ap (reading_in reading) (sym is ∙ h.read.read) in
          let spec_same : reading.spec ≡ h.spec = ap (λ (x : Reading). x.spec) same ∙ h.read.of_spec in
          let plans_same : plans ≡ h.read.plans =
          ap (hands_in plans) (sym are ∙ (λ i. hands_reading (spec_same i) (place_after input (same i))) ∙ h.read.plans_read) in
          let hands_same : plans.hands ≡ h.hands = ap (λ (x : HandReading). x.hands) plans_same ∙ h.read.of_plans in
          let work_same : work ≡ h.work =
          ap (work_in work) (sym works ∙ (λ i. work_in_lines (past_end_of input) (spec_same i) (plans_same i).others) ∙ h.read.work_read) in
          run_once (AreChosen reading.spec plans.hands) Nothing reading.spec work old new outcome r at answers.done
          (λ nothing. single_in_lines (past_end_of input) reading.spec plans.others work works)
          (subst (λ (z : Spec × List Hand × Work). IsRunBy (AreChosen z.0 z.1) z.0 z.2 r)
          (λ i. (sym spec_same i, sym hands_same i, sym work_same i)) h.run) h.store.fit
          (subst (λ (w : Work). Adds old (run_text w.ranks r) new) (sym work_same) h.written)

  of_hands : (reading : Reading) → spec_reading input ≡ Ok reading → (found : Result HandReading hand_lines.Broken)
      → hands_reading reading.spec (place_after input reading) ≡ found → (out : List ℕ)
      → AnswersHands (past_end_of input) reading.spec found out outcome.status → Adds old out new
      → OfHands (past_end_of input) reading.spec found old new outcome
  of_hands reading is (Err broken) are out (printed, refused) adds =
      refuses old new outcome (hand_refusal_text broken) out (none_of outcome has outcome.ran refl refused) printed refused adds
  of_hands reading is (Ok plans) are out (inl (keep, answers)) adds =
      inl (keep, of_chosen_work reading is plans are (work_in_lines (past_end_of input) reading.spec plans.others) refl out answers adds)
  of_hands reading is (Ok plans) are out (inr (op, refusal, first, is_refusal)) adds =
      inr (
        refused_plans_fail reading.spec plans.hands op refusal first,
        op,
        refusal,
        first,
        refuses old new outcome (printed_lines (plan_refusal_text reading.spec op refusal ∷ [])) out (none_of outcome has outcome.ran refl is_refusal.1)
            is_refusal.0 is_refusal.1 adds,
      )

  of_by_hand : (read : Result Reading Broken) → spec_reading input ≡ read → (out : List ℕ)
      → AnswersByHand input read out outcome.status → Adds old out new → OfByHand input read old new outcome
  of_by_hand (Err broken) is out (printed, refused) adds =
      refuses old new outcome (line_refusal_text broken) out (none_of outcome has outcome.ran refl refused) printed refused adds
  of_by_hand (Ok reading) is out answers adds =
      let found = hands_reading reading.spec (place_after input reading) in
      of_rules old new outcome reading.spec (AnswersHands (past_end_of input) reading.spec found) (OfHands (past_end_of input) reading.spec found) out
      (none_of outcome has outcome.ran refl) (λ h. of_hands reading is found refl out h adds) answers adds

  pub hand_headline : WritesWhole (AnswersByHand input (spec_reading input)) old new outcome.status → HandHeadline input old new outcome
  hand_headline (out, answers, adds) = of_by_hand (spec_reading input) refl out answers adds
