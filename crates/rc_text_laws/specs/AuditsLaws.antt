-- What `run` or `group` may write for an input is legal behind it, and so is the journal of a run alone; and `audit` has one answer to an input.
use Rattle.std.proofs.Common.{◌≡◌, ℕ, suc, ◌<◌, List, [], ◌∷◌, ◌++◌, length, map, Result, Ok, Err, refl, sym, ap, ◌∙◌, subst, inl, inr, arith}
use Rattle.rc_text_laws.specs.Imports.{also_in, codes, AllByRecursion, flat_map, range_with_len, in_range_bounds, In, ContentLine, IsPrintable, TextPlace, bytes_of_content, past_end_of, printed_lines, content-printed, IsAccepted, IsSealed, one_first_broken, refused_not_accepted, op_at, refusal_text, Refusal, Spec, plan_at, Statement, one_planned, planned_accepted, replay, Entry, Broken, Reading, spec_reading, HasThreads, WorkPart, part_reading, row_text, work_reading, count_line, final_lines, journal_lines, Runs, place_after, Nothing, Work, Audit, AuditJournal, Run, IsVerdict, bare_lines, good_lines, op_lines, plans_in_lines, run_lines, plan_lines_are_written, one_verdict, Form, Legal, Answers, AnswersAudit, AnswersPart, AnswersRun, AnswersWork, IsJudgement, IsReport, audit_for, plans_and_report, verdict_status, verdict_text, part_threads, ArePlanned, op_text, IsReadAs, Status, Done, Refused, AuditGroup, Group, Also, Groups}
use Rattle.std.proofs.lemmas.Grind.{flat_map-append}
use Rattle.std.proofs.lemmas.List.{append_assoc}
use Rattle.rc_work.specs.Report.{report}
use Rattle.rc_audit.specs.declared.form.Form.TheVariants as forms
use Rattle.rc_text_laws.specs.BehindLaws.{IsEnded, content_behind, read_behind, with_more}
use Rattle.rc_text_laws.specs.LegalLaws.{journal_shown}
use Rattle.rc_text_laws.specs.PrintedRunLaws.{content_report, printable, printable_append, printable_plan}
use Rattle.rc_text_laws.specs.ReadLaws.{is_read_work}
use Rattle.rc_text_laws.specs.RunsLaws.{journal}
use Rattle.rc_text_laws.specs.SpecLaws.{reading_can_be_written}
use Rattle.rc_text_laws.specs.TextsLaws.{text_report}

-- ---- the lines that a judge wants are those that are printed

plans_written : (spec : Spec) (plans : List (List Statement)) (ops : List ℕ)
    → printed_lines (flat_map (op_lines spec plans) ops) ≡ flat_map (op_text spec plans) ops
plans_written spec plans [] = refl
plans_written spec plans (op ∷ ops) =
    flat_map-append (λ line. line ++ 10 ∷ []) (op_lines spec plans op) (flat_map (op_lines spec plans) ops)
    ∙ (λ i. plan_lines_are_written spec plans op i ++ plans_written spec plans ops i)

-- the lines of a run that a judge wants, each with a line feed behind it, are what `run` prints of it
abbrev pub RunLinesAreWritten : Type 0
RunLinesAreWritten = (spec : Spec) (plans : List (List Statement)) (work : Work) (history : List Entry)
    → printed_lines (run_lines (record { spec = spec; plans = plans }) work history) ≡ plans_and_report spec work plans history

pub run_lines_are_written : RunLinesAreWritten
run_lines_are_written spec plans work history =
    let lines = report spec work.ranks history (replay spec history) in
    flat_map-append (λ line. line ++ 10 ∷ []) (plans_in_lines (record { spec = spec; plans = plans })) lines
    ∙ ap (λ text. text ++ printed_lines lines) (plans_written spec plans (range_with_len 0 (length spec.ops)))

-- ---- they are read again

-- of printable lines the first and the last are printable
printable_first : (xs ys : List (List ℕ)) → AllByRecursion IsPrintable (xs ++ ys) → AllByRecursion IsPrintable xs
printable_first [] ys all = tt
printable_first (x ∷ xs) ys all = (all.0, printable_first xs ys all.1)

printable_last : (xs ys : List (List ℕ)) → AllByRecursion IsPrintable (xs ++ ys) → AllByRecursion IsPrintable ys
printable_last [] ys all = all
printable_last (x ∷ xs) ys all = printable_last xs ys all.1

plans_printable : (spec : Spec) (plans : List (List Statement)) (ops : List ℕ)
    → ((op : ℕ) → In op ops → AllByRecursion IsPrintable (op_lines spec plans op)) → AllByRecursion IsPrintable (flat_map (op_lines spec plans) ops)
plans_printable spec plans [] each = tt
plans_printable spec plans (op ∷ ops) each =
    printable_append (op_lines spec plans op) (flat_map (op_lines spec plans) ops) (each op (inl refl))
    (plans_printable spec plans ops (λ o m. each o (inr m)))

module _ (also : Also) (input : List ℕ) (reading : Reading) (work : Work) (read : spec_reading input ≡ Ok reading) (accepted : IsAccepted reading.spec)
    (works : work_reading also reading.spec (place_after input reading) ≡ Ok work) where
  abbrev given : Spec
  given = reading.spec

  -- the lines of a run's report are
  report_printable : (history : List Entry) → Runs given work history → AllByRecursion IsPrintable (report given work.ranks history (replay given history))
  report_printable history run =
      let is = reading_can_be_written input reading read in
      let of = is_read_work also given (place_after input reading) work is.well_named is.in_range works in
      let shown = journal_shown given work.ranks history is.in_range (journal given work history of.limits of.known of.fit run) in
      let rows = replay given history in
      printable (report given work.ranks history rows) (text_report given work.ranks of.texts history rows is.well_named shown.1 shown.0)
      (content_report given work.ranks history rows shown.0.count)

  -- and so are the plans before it
  run_printable : (plans : List (List Statement)) (history : List Entry) → ArePlanned given plans → Runs given work history
      → AllByRecursion IsPrintable (run_lines (record { spec = given; plans = plans }) work history)
  run_printable plans history planned run =
      let is = reading_can_be_written input reading read in
      let sealed : IsSealed given = record { in_range = is.in_range; populated = is.populated; accepted = accepted } in
      printable_append (plans_in_lines (record { spec = given; plans = plans })) (report given work.ranks history (replay given history))
      (plans_printable given plans (range_with_len 0 (length given.ops)) (λ op m.
      let below : op < length given.ops = omega (arith, (in_range_bounds 0 (length given.ops) op m).1) in
      printable_plan given is.well_named is.in_range op (plan_at plans op) (planned_accepted given sealed op below (plan_at plans op) (planned.each op below)).known))
      (report_printable history run)

  -- those of its journal alone are lines of the report
  journal_printable : (history : List Entry) → Runs given work history → AllByRecursion IsPrintable (bare_lines given work history)
  unfolding report
  journal_printable history run =
      let all = report_printable history run in
      let entries = journal_lines given work.ranks history in
      let rows = replay given history in
      let final = printable_last entries (final_lines given work.ranks rows) all.1 in (
        all.0,
        printable_append entries (codes "end" ∷ []) (printable_first entries (final_lines given work.ranks rows) all.1)
            (printable_last (map (row_text given work.ranks) rows) (codes "end" ∷ []) final.1),
      )

  -- what is printed of a run in a form is legal behind the input
  printed_legal : (form : Form) → also_in form ≡ also → (out : List ℕ) (plans : List (List Statement)) (history : List Entry) → ArePlanned given plans → Runs given work history → IsEnded input
      → out ≡ printed_lines (good_lines form (record { spec = given; plans = plans }) work history)
      → AllByRecursion IsPrintable (good_lines form (record { spec = given; plans = plans }) work history)
      → AnswersAudit form (input ++ out) (spec_reading (input ++ out)) (verdict_text (Legal (length history))) Done
  printed_legal form same out plans history planned run ended printed shown =
      let behind = read_behind also input out reading work ended read works in
      let lines = good_lines form (record { spec = given; plans = plans }) work history in
      let judged : IsJudgement form given work (past_end_of (input ++ out)) (content_behind input out) (verdict_text (Legal (length history))) Done = record {
        plans = plans;
        planned = planned;
        verdict = Legal (length history);
        is = record {
          history = history;
          run = run;
          printed = ap (λ (text : List ℕ). bytes_of_content (content_behind input text)) printed ∙ content-printed (length input) (past_end_of input) lines shown;
          count = refl;
        };
        written = (refl, refl);
      } in
      subst (λ (r : Result Reading Broken). AnswersAudit form (input ++ out) r (verdict_text (Legal (length history))) Done) (sym behind.read)
      (inl (
        accepted,
        subst (λ (x : Also). AnswersPart form given (past_end_of (input ++ out)) (part_reading x given (place_after (input ++ out) (with_more reading (content_behind input out))))
            (verdict_text (Legal (length history))) Done) (sym same)
            (subst (λ (r : Result WorkPart Broken). AnswersPart form given (past_end_of (input ++ out)) r (verdict_text (Legal (length history))) Done) (sym behind.part) judged),
      ))

  -- so is what is printed of all of it
  legal_behind : (form : Form) → also_in form ≡ also
      → ((plans : List (List Statement)) (history : List Entry) → good_lines form (record { spec = given; plans = plans }) work history ≡ run_lines (record { spec = given; plans = plans }) work history)
      → (out : List ℕ) → IsEnded input → IsReport given work out Done
      → (entries : ℕ) × AnswersAudit form (input ++ out) (spec_reading (input ++ out)) (verdict_text (Legal entries)) Done
  legal_behind form same lines out ended is =
      let whole = lines is.plans is.history in (
        length is.history,
        printed_legal form same out is.plans is.history is.by_plans is.runs ended
            (is.printed ∙ sym (run_lines_are_written given is.plans work is.history) ∙ ap printed_lines (sym whole))
            (subst (AllByRecursion IsPrintable) (sym whole) (run_printable is.plans is.history is.by_plans is.runs)),
      )

done_is_not_refused : Done ≡ Refused → ⊥
done_is_not_refused e = cc

-- what an input is read as, with the report of a run of it, where `run` or `group` wrote one
record HasWrittenRun (also : Also) (input out : List ℕ) : Type 0 where
  reading : Reading
  work : Work
  read : spec_reading input ≡ Ok reading
  accepted : IsAccepted reading.spec
  works : work_reading also reading.spec (place_after input reading) ≡ Ok work
  report_is : IsReport reading.spec work out Done

written_work : (also : Also) (input out : List ℕ) (reading : Reading) (found : Result Work Broken) → spec_reading input ≡ Ok reading → IsAccepted reading.spec
    → work_reading also reading.spec (place_after input reading) ≡ found → AnswersWork reading.spec found out Done → HasWrittenRun also input out
written_work also input out reading (Err broken) read accepted works is = absurd (done_is_not_refused is.1)
written_work also input out reading (Ok work) read accepted works is =
    record { reading = reading; work = work; read = read; accepted = accepted; works = works; report_is = is }

written_reading : (also : Also) (input out : List ℕ) (found : Result Reading Broken) → spec_reading input ≡ found → AnswersRun also input found out Done
    → HasWrittenRun also input out
written_reading also input out (Err broken) read is = absurd (done_is_not_refused is.1)
written_reading also input out (Ok reading) read (inl (accepted, is)) =
    written_work also input out reading (work_reading also reading.spec (place_after input reading)) read accepted refl is
written_reading also input out (Ok reading) read (inr (refusal, first, is)) = absurd (done_is_not_refused is.1)

-- Whatever `run` may write for an input that ends with a line feed is legal where it stands behind that input.
abbrev pub RunsAreLegal : Type 0
RunsAreLegal = (input out : List ℕ) → IsEnded input → Answers Run input out Done
    → (entries : ℕ) × Answers Audit (input ++ out) (verdict_text (Legal entries)) Done

pub runs_are_legal : RunsAreLegal
runs_are_legal input out ended answered =
    let run = written_reading Nothing input out (spec_reading input) refl answered in
    legal_behind Nothing input run.reading run.work run.read run.accepted run.works forms.Run refl (λ plans history. refl) out ended run.report_is

-- And so is what `group` may write.
abbrev pub GroupsAreLegal : Type 0
GroupsAreLegal = (input out : List ℕ) → IsEnded input → Answers Group input out Done
    → (entries : ℕ) × Answers AuditGroup (input ++ out) (verdict_text (Legal entries)) Done

pub groups_are_legal : GroupsAreLegal
groups_are_legal input out ended answered =
    let run = written_reading Groups input out (spec_reading input) refl answered in
    legal_behind Groups input run.reading run.work run.read run.accepted run.works forms.Group refl (λ plans history. refl) out ended run.report_is

-- What `run` wrote for an input, a run of what the input is read as, in three parts: the lines of the plans; those of
-- the journal, from the line with the number of its entries to its last entry; and those of the final relation. The
-- journal's, with `end` behind them, are legal where they stand behind the input.
pub record HasLegalJournal (input out : List ℕ) : Type 0 where
  pub spec : Spec
  pub work : Work
  pub read : IsReadAs Nothing input spec work
  pub is : IsReport spec work out Done
  pub plans : List (List ℕ)
  pub journal : List (List ℕ)
  pub final : List (List ℕ)
  pub printed : out ≡ printed_lines (plans ++ journal ++ final)
  pub plans_are : plans ≡ plans_in_lines (record { spec = spec; plans = is.plans })
  pub journal_is : journal
      ≡ count_line (codes "journal") (length is.history) ∷ journal_lines spec work.ranks is.history
  pub final_is : final ≡ final_lines spec work.ranks (replay spec is.history)
  pub legal : Answers AuditJournal (input ++ printed_lines (journal ++ codes "end" ∷ []))
      (verdict_text (Legal (length is.history))) Done

-- what is printed of a run is in three parts: the plans, the journal and the final relation
run_lines-parts : (spec : Spec) (plans : List (List Statement)) (work : Work) (history : List Entry)
    → run_lines (record { spec = spec; plans = plans }) work history
    ≡ plans_in_lines (record { spec = spec; plans = plans })
    ++ (count_line (codes "journal") (length history) ∷ journal_lines spec work.ranks history)
    ++ final_lines spec work.ranks (replay spec history)
unfolding report
run_lines-parts spec plans work history =
    sym (append_assoc (plans_in_lines (record { spec = spec; plans = plans }))
    (count_line (codes "journal") (length history) ∷ journal_lines spec work.ranks history)
    (final_lines spec work.ranks (replay spec history)))

legal_journal : (input out : List ℕ) → IsEnded input → HasWrittenRun Nothing input out → HasLegalJournal input out
legal_journal input out ended run =
    let spec = run.reading.spec in
    let is = run.report_is in
    record {
      spec = spec;
      work = run.work;
      read = record { reading = run.reading; read = run.read; of_spec = refl; accepted = run.accepted; work_read = run.works };
      is = is;
      plans = plans_in_lines (record { spec = spec; plans = is.plans });
      journal = count_line (codes "journal") (length is.history) ∷ journal_lines spec run.work.ranks is.history;
      final = final_lines spec run.work.ranks (replay spec is.history);
      printed = is.printed ∙ sym (run_lines_are_written spec is.plans run.work is.history)
          ∙ ap printed_lines (run_lines-parts spec is.plans run.work is.history);
      plans_are = refl;
      journal_is = refl;
      final_is = refl;
      legal = printed_legal Nothing input run.reading run.work run.read run.accepted run.works forms.Journal refl
          (printed_lines (bare_lines spec run.work is.history)) is.plans is.history is.by_plans is.runs ended refl
          (journal_printable Nothing input run.reading run.work run.read run.accepted run.works is.history is.runs);
    }

-- And so is the journal in what `run` may write for such an input, alone, with `end` behind it.
abbrev pub JournalsAreLegal : Type 0
JournalsAreLegal = (input out : List ℕ) → IsEnded input → Answers Run input out Done → HasLegalJournal input out

pub journals_are_legal : JournalsAreLegal
journals_are_legal input out ended answered =
    legal_journal input out ended (written_reading Nothing input out (spec_reading input) refl answered)

-- ---- one input has one answer

same_lists : (xs ys : List (List Statement)) → length xs ≡ length ys → ((op : ℕ) → op < length xs → plan_at xs op ≡ plan_at ys op) → xs ≡ ys
same_lists [] [] count each = refl
same_lists [] (y ∷ ys) count each = absurd (omega (arith, count))
same_lists (x ∷ xs) [] count each = absurd (omega (arith, count))
same_lists (x ∷ xs) (y ∷ ys) count each =
    let rest = same_lists xs ys (omega (arith, count)) (λ op below. each (suc op) (omega (arith, below))) in
    (λ i. each 0 (omega arith) i ∷ rest i)

-- the planned plans of a specification are one list
same_plans : (spec : Spec) (plans others : List (List Statement)) → IsSealed spec → ArePlanned spec plans → ArePlanned spec others → plans ≡ others
same_plans spec plans others sealed planned kept =
    same_lists plans others (planned.count ∙ sym kept.count) (λ op below.
    let known : op < length spec.ops = omega (arith, below, planned.count) in
    one_planned spec sealed (op_at spec op) (plan_at plans op) (plan_at others op) (planned.each op known) (kept.each op known))

-- two answers are the same text with the same status
abbrev AreOne : List ℕ → Status → List ℕ → Status → Type 0
AreOne text status other again = (text ≡ other) × (status ≡ again)

one_judgement : (form : Form) (spec : Spec) (work : Work) (past_end : ℕ) (lines : List ContentLine) (text other : List ℕ) (status again : Status) → IsSealed spec → HasThreads work
    → IsJudgement form spec work past_end lines text status → IsJudgement form spec work past_end lines other again → AreOne text status other again
one_judgement form spec work past_end lines text other status again sealed threads a b =
    let plans = same_plans spec a.plans b.plans sealed a.planned b.planned in
    let same : a.verdict ≡ b.verdict =
    one_verdict form (record { spec = spec; plans = b.plans }) work past_end lines a.verdict b.verdict threads
    (subst (λ (p : List (List Statement)). IsVerdict form (record { spec = spec; plans = p }) work past_end lines a.verdict) plans a.is) b.is in
    (a.written.0 ∙ ap verdict_text same ∙ sym b.written.0, a.written.1 ∙ ap verdict_status same ∙ sym b.written.1)

one_part : (form : Form) (spec : Spec) (place : TextPlace) (past_end : ℕ) (found : Result WorkPart Broken) (text other : List ℕ) (status again : Status) → IsSealed spec
    → part_reading (also_in form) spec place ≡ found → AnswersPart form spec past_end found text status → AnswersPart form spec past_end found other again
    → AreOne text status other again
one_part form spec place past_end (Err broken) text other status again sealed is a b = (a.0 ∙ sym b.0, a.1 ∙ sym b.1)
one_part form spec place past_end (Ok part) text other status again sealed is a b =
    one_judgement form spec part.work past_end part.others text other status again sealed (part_threads (also_in form) spec place part is) a b

one_audit : (form : Form) (input : List ℕ) (found : Result Reading Broken) (text other : List ℕ) (status again : Status) → spec_reading input ≡ found
    → AnswersAudit form input found text status → AnswersAudit form input found other again → AreOne text status other again
one_audit form input (Err broken) text other status again read a b = (a.0 ∙ sym b.0, a.1 ∙ sym b.1)
one_audit form input (Ok reading) text other status again read (inl a) (inl b) =
    let is = reading_can_be_written input reading read in
    let sealed : IsSealed reading.spec = record { in_range = is.in_range; populated = is.populated; accepted = a.0 } in
    one_part form reading.spec (place_after input reading) (past_end_of input) (part_reading (also_in form) reading.spec (place_after input reading)) text other status again
    sealed refl a.1 b.1
one_audit form input (Ok reading) text other status again read (inl a) (inr b) = absurd (refused_not_accepted reading.spec b.0 b.1 a.0)
one_audit form input (Ok reading) text other status again read (inr a) (inl b) = absurd (refused_not_accepted reading.spec a.0 a.1 b.0)
one_audit form input (Ok reading) text other status again read (inr a) (inr b) =
    let same = one_first_broken reading.spec a.0 b.0 a.1 b.1 in
    (a.2.0 ∙ ap (λ (r : Refusal). printed_lines (refusal_text reading.spec r ∷ [])) same ∙ sym b.2.0, a.2.1 ∙ sym b.2.1)

-- `audit` may write one text for an input, with one status: one verdict, or one refusal. So may `audit group` and `audit bare`.
abbrev pub AuditsAreOne : Type 0
AuditsAreOne = (form : Form) (input text other : List ℕ) (status again : Status) → Answers (audit_for form) input text status
    → Answers (audit_for form) input other again → (text ≡ other) × (status ≡ again)

pub audits_are_one : AuditsAreOne
audits_are_one forms.Run input text other status again a b = one_audit forms.Run input (spec_reading input) text other status again refl a b
audits_are_one forms.Group input text other status again a b = one_audit forms.Group input (spec_reading input) text other status again refl a b
audits_are_one forms.Journal input text other status again a b = one_audit forms.Journal input (spec_reading input) text other status again refl a b
