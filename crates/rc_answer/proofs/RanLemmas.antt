-- What is written of a run.
use Rattle.std.proofs.Common.{◌≡◌, ◌∙◌, ◌↔◌, ◌<◌, ◌++◌, ℕ, List, Option, Result, Ok, Err, ap, inr, length, refl, subst, sym}
use Rattle.rc_answer.proofs.Imports.{IfOk, IfSome, IsSome, OnErr, OnOk, result_and, printed_lines, adds_prefix_longer, adds_prefix_more, Adds, AddsPrefix, In, Pairs, Spec, op_at, ArePlansOf, SpecWithPlans, plan_at, Statement, IsPlanned, IsOfRelation, Entry, AllFit, replay, ClosedSeen, HasOneHistory, IsAccepted, Reading, spec_reading, IsRead, rest_place, Rest, work_reading, HasRun, Also, Work, report, Runs, Outcome, Ran, Status, Done, Stop, Memory, Sink, IsReportBy, ArePlanned, plans_text, HasRunText, IsOfItsStore, IsReadAs, IsRunBy, IsRunOf, done_in, entries_in, outcome_in, run_text, status_in, report_by, run_by, Writes, CountsFaults}
use Rattle.rc_answer.proofs.AnswerLemmas.{read_place, writes_wider}

-- ---- the run

module _ (made : SpecWithPlans) (work : Work) (closed : ClosedSeen) (last : List Pairs) (h : HasRun work closed) where
  -- a store that ran the workload by these plans, with the rows that it leaves
  pub run_of : closed.compiled ≡ made → ((r : List Pairs) → IsOfRelation closed.compiled.spec closed.instance r → last ≡ r)
      → IsRunBy (λ plans. plans ≡ made.plans) made.spec work (record { closed = closed; last = last })
  run_of is rows =
      let of : closed.compiled.spec ≡ made.spec = ap (λ (c : SpecWithPlans). c.spec) is in
      record {
        of_spec = of;
        by_plans = ap (λ (c : SpecWithPlans). c.plans) is;
        history = h.history;
        journal = h.journal;
        runs = subst (λ (s : Spec). Runs s work h.history) of h.runs;
        last = rows (replay closed.compiled.spec h.history) h.leaves.relation ∙ ap (λ (s : Spec). replay s h.history) of;
      }

  pub run_fits : AllFit closed.compiled.spec (entries_in closed.journal)
  run_fits = subst (λ (o : Option (List Entry)). AllFit closed.compiled.spec (entries_in o)) (sym h.journal) h.leaves.good.fit

  -- the store's own history is the one that ran
  pub run_is_of_store : closed.compiled ≡ made → ArePlansOf made.spec made.plans → HasOneHistory closed
      → IsOfItsStore (record { closed = closed; last = last })
  run_is_of_store is kept one =
      let same : h.history ≡ one.history = subst (λ (o : Option (List Entry)). IfSome o (λ journal. journal ≡ one.history)) h.journal one.journal in
      record {
        kept = subst (λ (c : SpecWithPlans). ArePlansOf c.spec c.plans) (sym is) kept;
        fit = run_fits;
        passes = subst (λ (o : Option (List Entry)). (e : Entry) → In e (entries_in o) → e.pass < length closed.made) (sym h.journal)
            (λ e m. (one.leaves.good.entries e (subst (In e) same m)).pass);
      }

-- the planned plans are as many as the operations
pub are_planned : (accepted : Spec) (made : SpecWithPlans) → made.spec ≡ accepted → ArePlansOf made.spec made.plans
    → ((op : ℕ) → op < length accepted.ops → IsPlanned accepted (op_at accepted op) (plan_at made.plans op)) → ArePlanned accepted made.plans
are_planned accepted made same plans each = record { count = plans.count ∙ ap (λ (s : Spec). length s.ops) same; each = each }

-- a run by the plans that a specification is compiled with, which are of some kind, is one by plans of the kind
module _ (ArePlans : List (List Statement) → Type 0) (accepted : Spec) (made : SpecWithPlans) (work : Work) (same : made.spec ≡ accepted) (are : ArePlans made.plans) where
  pub ran_by : (ran : Ran) → IsRunBy (λ plans. plans ≡ made.plans) made.spec work ran → IsRunBy ArePlans accepted work ran
  ran_by ran run =
      run_by (λ plans. plans ≡ made.plans) ArePlans made.spec accepted work ran same (λ is. subst ArePlans (sym is) are) run

  pub all_ran_by : (r : Result Ran Stop) → IfOk r (IsRunBy (λ plans. plans ≡ made.plans) made.spec work) → IfOk r (IsRunBy ArePlans accepted work)
  all_ran_by (Ok ran) run = ran_by ran run
  all_ran_by (Err stop) run = tt

  -- and so is what was written of it
  pub reported_by : (old new : Option (List ℕ)) (r : Result Status Stop) → Writes (IsReportBy (λ plans. plans ≡ made.plans) made.spec work) old new r
      → Writes (IsReportBy ArePlans accepted work) old new r
  reported_by old new r written =
      writes_wider (IsReportBy (λ plans. plans ≡ made.plans) made.spec work) (IsReportBy ArePlans accepted work) old new r
      (λ text status is. report_by (λ plans. plans ≡ made.plans) ArePlans made.spec accepted work text status same (λ plans e. subst ArePlans (sym e) are) is)
      written

-- so a run by the planned plans
pub planned_run : (accepted : Spec) (made : SpecWithPlans) (work : Work) (ran : Ran) → made.spec ≡ accepted → ArePlansOf made.spec made.plans
    → ((op : ℕ) → op < length accepted.ops → IsPlanned accepted (op_at accepted op) (plan_at made.plans op))
    → IsRunBy (λ plans. plans ≡ made.plans) made.spec work ran → IsRunOf accepted work ran
planned_run accepted made work ran same plans each run =
    ran_by (ArePlanned accepted) accepted made work same (are_planned accepted made same plans each) ran run

-- ---- its text

pub on_err_both : {X E : Type 0} {P Q : Type 0} (r : Result X E) → (P → Q) → OnErr r P → OnErr r Q
on_err_both (Ok x) f h = tt
on_err_both (Err e) f h = f h

module _ (made here : SpecWithPlans) (is : here ≡ made) (journal : Option (List Entry)) (ranks : List (List ℕ)) (rows : List Pairs) (old : Option (List ℕ)) where
  abbrev whole : List ℕ
  whole = plans_text made.spec made.plans ++ printed_lines (report made.spec ranks (entries_in journal) rows)

  -- a part of the plans is a part of the text
  pub plans_part : (new : Option (List ℕ)) → AddsPrefix old (plans_text here.spec here.plans) new → AddsPrefix old whole new
  plans_part new part =
      adds_prefix_longer old new (plans_text made.spec made.plans) (printed_lines (report made.spec ranks (entries_in journal) rows))
      (subst (λ (c : SpecWithPlans). AddsPrefix old (plans_text c.spec c.plans) new) is part)

  -- and so are the plans with a part of the report
  pub report_part : (mid new : Option (List ℕ)) (spec : Spec) (entries : List Entry) (given : List Pairs) → spec ≡ here.spec → entries ≡ entries_in journal → given ≡ rows
      → Adds old (plans_text here.spec here.plans) mid → AddsPrefix mid (printed_lines (report spec ranks entries given)) new → AddsPrefix old whole new
  report_part mid new spec entries given of all same first part =
      let of_made : spec ≡ made.spec = of ∙ ap (λ (c : SpecWithPlans). c.spec) is in
      adds_prefix_more old mid new (plans_text made.spec made.plans) (printed_lines (report made.spec ranks (entries_in journal) rows))
      (subst (λ (c : SpecWithPlans). Adds old (plans_text c.spec c.plans) mid) is first)
      (subst (λ (l : List ℕ). AddsPrefix mid l new) (λ i. printed_lines (report (of_made i) ranks (all i) (same i))) part)

-- a run that is handed on where its text was written
module _ {U : Type 0} (ran : Ran) where
  pub handed_on : (r : Result U Stop) (o : Result Ran Stop) → o ≡ result_and r (Ok ran) → (P : Ran → Type 0) → OnOk r (P ran) → IfOk o P
  handed_on (Ok u) o is P held = subst (λ (x : Result Ran Stop). IfOk x P) (sym is) held
  handed_on (Err stop) o is P held = subst (λ (x : Result Ran Stop). IfOk x P) (sym is) tt

  pub handed_whole : (r : Result U Stop) (o : Result Ran Stop) → o ≡ result_and r (Ok ran) → (P : Ran → Type 0) → P ran → IfOk o P
  handed_whole (Ok u) o is P held = handed_on (Ok u) o is P held
  handed_whole (Err stop) o is P held = handed_on (Err stop) o is P tt

  -- the whole text of it or a part
  pub handed_text : (r : Result U Stop) (o : Result Ran Stop) → o ≡ result_and r (Ok ran) → (A : List ℕ → Status → Type 0) (old new : Option (List ℕ)) (text : List ℕ)
      → A text Done → OnOk r (Adds old text new) → OnErr r (AddsPrefix old text new) → Writes A old new (done_in o)
  handed_text (Ok u) o is A old new text of all part = subst (λ (x : Result Ran Stop). Writes A old new (done_in x)) (sym is) (text, of, all)
  handed_text (Err Memory) o is A old new text of all part = subst (λ (x : Result Ran Stop). Writes A old new (done_in x)) (sym is) (inr (text, Done, of, part))
  handed_text (Err Sink) o is A old new text of all part = subst (λ (x : Result Ran Stop). Writes A old new (done_in x)) (sym is) (text, Done, of, part)

  pub handed_counts : (r : Result U Stop) (o : Result Ran Stop) → o ≡ result_and r (Ok ran) → (old new : ℕ) → CountsFaults old new r → CountsFaults old new o
  handed_counts (Ok u) o is old new counts =
      subst (λ (x : Result Ran Stop). CountsFaults old new x) (sym is)
      (record { failed = λ f. absurd (let g = f in cc); quiet = counts.quiet; memory = λ f. absurd (let g = f in cc); count = counts.count })
  handed_counts (Err Memory) o is old new counts =
      subst (λ (x : Result Ran Stop). CountsFaults old new x) (sym is)
      (record { failed = λ f. absurd (let g = f in cc); quiet = tt; memory = λ f. counts.memory refl; count = counts.count })
  handed_counts (Err Sink) o is old new counts =
      subst (λ (x : Result Ran Stop). CountsFaults old new x) (sym is)
      (record { failed = λ f. counts.failed refl; quiet = tt; memory = λ f. absurd (let g = f in cc); count = counts.count })

-- ---- outcomes

module _ (r : Result Ran Stop) (o : Result Outcome Stop) (is : o ≡ outcome_in r) where
  pub done_status : done_in r ≡ status_in o
  done_status = go r ∙ ap status_in (sym is)
    where
      go : (r : Result Ran Stop) → done_in r ≡ status_in (outcome_in r)
      go (Ok ran) = refl
      go (Err stop) = refl

  pub done_has_ran : IfOk o (λ x. IsSome x.ran ↔ (x.status ≡ Done))
  done_has_ran = subst (λ (x : Result Outcome Stop). IfOk x (λ x. IsSome x.ran ↔ (x.status ≡ Done))) (sym is) (go r)
    where
      go : (r : Result Ran Stop) → IfOk (outcome_in r) (λ x. IsSome x.ran ↔ (x.status ≡ Done))
      go (Ok ran) = (λ s. refl, λ e. refl)
      go (Err stop) = tt

-- what holds of a run that was made holds of the run of the outcome
pub done_each : (P : Ran → Type 0) (r : Result Ran Stop) (o : Result Outcome Stop) → o ≡ outcome_in r → IfOk r P → IfOk o (λ x. IfSome x.ran P)
done_each P r o is held = subst (λ (x : Result Outcome Stop). IfOk x (λ x. IfSome x.ran P)) (sym is) (go r held)
  where
    go : (r : Result Ran Stop) → IfOk r P → IfOk (outcome_in r) (λ x. IfSome x.ran P)
    go (Ok ran) held = held
    go (Err stop) held = tt

-- an input that was read as a specification and a workload
pub read_as : (also : Also) (input : List ℕ) (reading : Reading) (spec : Spec) (rest : Rest) (work : Work) → spec_reading input ≡ Ok reading → IsRead input spec rest reading → IsAccepted spec
    → work_reading also spec (rest_place input rest) ≡ Ok work → IsReadAs also input spec work
read_as also input reading spec rest work read is accepted made = record {
  reading = reading;
  read = read;
  of_spec = is.value;
  accepted = accepted;
  work_read = ap (work_reading also spec) (read_place input reading spec rest is) ∙ made;
}

module _ (also : Also) (input : List ℕ) (spec : Spec) (work : Work) (old new : Option (List ℕ)) (read : IsReadAs also input spec work) where
  pub done_ran : (r : Result Ran Stop) (o : Result Outcome Stop) → o ≡ outcome_in r → IfOk r (IsRunOf spec work) → IfOk r IsOfItsStore
      → IfOk r (λ ran. Adds old (run_text work.ranks ran) new)
      → IfOk o (λ x. IfSome x.ran (HasRunText also input old new))
  done_ran r o is run store written = subst (λ (x : Result Outcome Stop). IfOk x (λ x. IfSome x.ran (HasRunText also input old new))) (sym is) (go r run store written)
    where
      go : (r : Result Ran Stop) → IfOk r (IsRunOf spec work) → IfOk r IsOfItsStore → IfOk r (λ ran. Adds old (run_text work.ranks ran) new)
          → IfOk (outcome_in r) (λ x. IfSome x.ran (HasRunText also input old new))
      go (Ok ran) run store written = record { spec = spec; work = work; read = read; run = run; store = store; written = written }
      go (Err stop) run store written = tt
