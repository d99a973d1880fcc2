-- What `run` or `group` prints for an input tells its run.
use Rattle.std.proofs.Common.{◌≡◌, ℕ, ◌<◌, List, [], ◌∷◌, ◌++◌, length, Some, inl, inr, refl, sym, ap, ◌∙◌, subst, arith}
use Rattle.rc_text_laws.specs.Imports.{flat_map, range_with_len, In, in_range_bounds, past_end_of, printed_lines, IsSealed, op_at, Spec, plan_at, plan_text, Statement, one_planned, AreChosen, one_chosen_plan, Hand, replay, Entry, report, Also, Nothing, Work, Runs, place_after, IsReport, IsReportBy, plans_and_report, ArePlanned, op_text, plans_text, IsReadAs, IsReadByHand, IsRunBy, IsRunOf, entries_in, run_text, Ran, Status}
use Rattle.std.proofs.lemmas.List.{append_cancel_left}
use Rattle.rc_text_laws.specs.SpecLaws.{reading_can_be_written}
use Rattle.rc_text_laws.specs.Written.{CanBeWritten}
use Rattle.rc_text_laws.specs.RunsLaws.{reports_tell_runs, reports_tell_runs_of_lines}

-- ---- one specification has one text of plans

same_texts : (spec : Spec) (plans others : List (List Statement)) (ops : List ℕ)
    → ((op : ℕ) → In op ops → plan_at plans op ≡ plan_at others op)
    → flat_map (op_text spec plans) ops ≡ flat_map (op_text spec others) ops
same_texts spec plans others [] same = refl
same_texts spec plans others (op ∷ ops) same =
    ap (λ plan. plan_text spec op plan ++ flat_map (op_text spec plans) ops) (same op (inl refl))
    ∙ ap (λ rest. op_text spec others op ++ rest)
    (same_texts spec plans others ops (λ o m. same o (inr m)))

-- plans that are the same for each operation are printed in one way
same_plans_text : (spec : Spec) (plans others : List (List Statement))
    → ((op : ℕ) → op < length spec.ops → plan_at plans op ≡ plan_at others op)
    → plans_text spec plans ≡ plans_text spec others
same_plans_text spec plans others same =
    same_texts spec plans others (range_with_len 0 (length spec.ops)) (λ op m.
    let below : op < length spec.ops =
    omega (arith, (in_range_bounds 0 (length spec.ops) op m).1) in
    same op below)

-- the planned plans of a specification are
pub one_plans_text : (spec : Spec) (plans others : List (List Statement)) → IsSealed spec
    → ArePlanned spec plans → ArePlanned spec others
    → plans_text spec plans ≡ plans_text spec others
one_plans_text spec plans others sealed planned kept =
    same_plans_text spec plans others (λ op below.
    one_planned spec sealed (op_at spec op) (plan_at plans op) (plan_at others op)
    (planned.each op below) (kept.each op below))

-- and so are the plans that are chosen, where some are written
pub one_chosen_text : (spec : Spec) (hands : List Hand) (plans others : List (List Statement)) → IsSealed spec
    → AreChosen spec hands plans → AreChosen spec hands others
    → plans_text spec plans ≡ plans_text spec others
one_chosen_text spec hands plans others sealed first second =
    same_plans_text spec plans others (one_chosen_plan spec sealed hands plans others first second)

-- ---- the plans, and then the report

-- where the plans are printed in one way, the report behind them is
same_reports : (spec : Spec) (work : Work) (plans others : List (List Statement)) (history other : List Entry)
    → plans_text spec plans ≡ plans_text spec others
    → plans_and_report spec work plans history ≡ plans_and_report spec work others other
    → printed_lines (report spec work.ranks history (replay spec history))
    ≡ printed_lines (report spec work.ranks other (replay spec other))
same_reports spec work plans others history other plans_are e =
    let right = printed_lines (report spec work.ranks other (replay spec other)) in
    append_cancel_left (plans_text spec plans) (printed_lines (report spec work.ranks history (replay spec history))) right
    (e ∙ ap (λ text. text ++ right) (sym plans_are))

-- of what was read, the plans and the report behind them have one history
one_run : (also : Also) (input : List ℕ) (spec : Spec) (work : Work) (plans others : List (List Statement))
    → (history other : List Entry)
    → IsReadAs also input spec work → ArePlanned spec plans → ArePlanned spec others
    → Runs spec work history → Runs spec work other
    → plans_and_report spec work plans history ≡ plans_and_report spec work others other
    → history ≡ other
one_run also input spec work plans others history other read planned kept run again e =
    let is : CanBeWritten spec =
    subst CanBeWritten read.of_spec (reading_can_be_written input read.reading read.read) in
    let sealed : IsSealed spec =
    record { in_range = is.in_range; populated = is.populated; accepted = read.accepted } in
    reports_tell_runs also spec (place_after input read.reading) work history other is.well_named is.in_range
    read.work_read run again
    (same_reports spec work plans others history other (one_plans_text spec plans others sealed planned kept) e)

-- so of what was read with plans
one_run_by_hand : (input : List ℕ) (spec : Spec) (hands : List Hand) (work : Work) (plans others : List (List Statement))
    → (history other : List Entry)
    → IsReadByHand input spec hands work → AreChosen spec hands plans → AreChosen spec hands others
    → Runs spec work history → Runs spec work other
    → plans_and_report spec work plans history ≡ plans_and_report spec work others other
    → history ≡ other
one_run_by_hand input spec hands work plans others history other read first second run again e =
    let is : CanBeWritten spec =
    subst CanBeWritten read.of_spec (reading_can_be_written input read.reading read.read) in
    let sealed : IsSealed spec =
    record { in_range = is.in_range; populated = is.populated; accepted = read.accepted } in
    reports_tell_runs_of_lines Nothing (past_end_of input) spec read.plans.others work history other is.well_named is.in_range
    read.work_read run again
    (same_reports spec work plans others history other (one_chosen_text spec hands plans others sealed first second) e)

-- Two runs of what an input is read as, of which the same text is printed, have the same journal and the same
-- rows.
abbrev pub PrintedTextsTellRuns : Type 0
PrintedTextsTellRuns =
    (also : Also) (input : List ℕ) (spec : Spec) (work : Work) (ran other : Ran) → IsReadAs also input spec work
    → IsRunOf spec work ran → IsRunOf spec work other
    → run_text work.ranks ran ≡ run_text work.ranks other
    → (ran.closed.journal ≡ other.closed.journal) × (ran.last ≡ other.last)

-- the text of a run is that of its plans, and then that of the report of its history
run_text-is : (ArePlans : List (List Statement) → Type 0) (spec : Spec) (work : Work) (ran : Ran)
    → (run : IsRunBy ArePlans spec work ran)
    → run_text work.ranks ran ≡ plans_and_report spec work ran.closed.compiled.plans run.history
run_text-is ArePlans spec work ran run i =
    plans_text (run.of_spec i) ran.closed.compiled.plans
    ++ printed_lines (report (run.of_spec i) work.ranks (entries_in (run.journal i)) (run.last i))

pub printed_texts_tell_runs : PrintedTextsTellRuns
printed_texts_tell_runs also input spec work ran other read run again e =
    let same : run.history ≡ again.history =
    one_run also input spec work ran.closed.compiled.plans other.closed.compiled.plans
    run.history again.history read run.by_plans again.by_plans
    run.runs again.runs
    (sym (run_text-is (ArePlanned spec) spec work ran run) ∙ e ∙ run_text-is (ArePlanned spec) spec work other again) in (
      run.journal ∙ ap (λ history. Some history) same ∙ sym again.journal,
      run.last ∙ ap (replay spec) same ∙ sym again.last,
    )

-- So have two runs by the plans that an input has, and else by the planned ones.
abbrev pub PrintedTextsTellRunsByHand : Type 0
PrintedTextsTellRunsByHand =
    (input : List ℕ) (spec : Spec) (hands : List Hand) (work : Work) (ran other : Ran)
    → IsReadByHand input spec hands work → IsRunBy (AreChosen spec hands) spec work ran
    → IsRunBy (AreChosen spec hands) spec work other
    → run_text work.ranks ran ≡ run_text work.ranks other
    → (ran.closed.journal ≡ other.closed.journal) × (ran.last ≡ other.last)

pub printed_texts_tell_runs_by_hand : PrintedTextsTellRunsByHand
printed_texts_tell_runs_by_hand input spec hands work ran other read run again e =
    let same : run.history ≡ again.history =
    one_run_by_hand input spec hands work ran.closed.compiled.plans other.closed.compiled.plans
    run.history again.history read run.by_plans again.by_plans
    run.runs again.runs
    (sym (run_text-is (AreChosen spec hands) spec work ran run) ∙ e ∙ run_text-is (AreChosen spec hands) spec work other again) in (
      run.journal ∙ ap (λ history. Some history) same ∙ sym again.journal,
      run.last ∙ ap (replay spec) same ∙ sym again.last,
    )

-- A text that `run` or `group` may print for an input is that of one history.
abbrev pub PrintedTextsHaveOneHistory : Type 0
PrintedTextsHaveOneHistory =
    (also : Also) (input : List ℕ) (spec : Spec) (work : Work) (text : List ℕ) (status : Status)
    → IsReadAs also input spec work
    → (some other : IsReport spec work text status) → some.history ≡ other.history

pub printed_texts_have_one_history : PrintedTextsHaveOneHistory
printed_texts_have_one_history also input spec work text status read some other =
    one_run also input spec work some.plans other.plans some.history other.history read
    some.by_plans other.by_plans
    some.runs other.runs
    (sym some.printed ∙ other.printed)

-- and a text that `hand` may print for an input.
abbrev pub PrintedTextsByHandHaveOneHistory : Type 0
PrintedTextsByHandHaveOneHistory =
    (input : List ℕ) (spec : Spec) (hands : List Hand) (work : Work) (text : List ℕ) (status : Status)
    → IsReadByHand input spec hands work
    → (some other : IsReportBy (AreChosen spec hands) spec work text status) → some.history ≡ other.history

pub printed_texts_by_hand_have_one_history : PrintedTextsByHandHaveOneHistory
printed_texts_by_hand_have_one_history input spec hands work text status read some other =
    one_run_by_hand input spec hands work some.plans other.plans some.history other.history read
    some.by_plans other.by_plans
    some.runs other.runs
    (sym some.printed ∙ other.printed)
