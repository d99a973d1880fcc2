-- What is written of a run of a generated workload.
use Rattle.std.proofs.Common.{◌≡◌, ◌∙◌, ◌<◌, ◌≤◌, ◌^◌, ◌*◌, ℕ, List, Option, Result, Ok, Err, ap, arith, length, refl, subst, sym}
use Rattle.rc_answer.proofs.Imports.{IfOk, IfSome, IsSome, OnOk, HasSummaryText, IsOfItsStore, Adds, Pairs, Spec, Entry, steps_of, Work, Summary, counted, rows_in, summary, generated, generated_runs_are_small, sample_graph, summary_text, Outcome, Ran, Stop, Done, IsBigText, IsRunOf, entries_in, outcome_in, summary_is_one_threads}
use Rattle.rc_answer.specs.Big.{ran_text}

-- what is printed of a run's own journal and rows
pub printed_text : (ran : Ran) (s : Summary) (entries : List Entry) (rows : List Pairs) (text : List ℕ) → text ≡ summary_text s → s ≡ summary entries rows
    → entries ≡ entries_in ran.closed.journal → rows ≡ ran.last → text ≡ ran_text ran
unfolding ran_text
printed_text ran s entries rows text printed counted_is of last = printed ∙ ap summary_text (counted_is ∙ λ i. summary (of i) (last i))

-- a run of what was generated
pub run_of_generated : (seed calls : ℕ) (spec : Spec) (work : Work) (ran : Ran) → spec ≡ sample_graph → work ≡ generated seed calls → IsRunOf spec work ran
    → IsRunOf sample_graph (generated seed calls) ran
run_of_generated seed calls spec work ran is made run =
    subst (λ (w : Work). IsRunOf sample_graph w ran) made (subst (λ (s : Spec). IsRunOf s work ran) is run)

module _ (seed calls : ℕ) (ran : Ran) (run : IsRunOf sample_graph (generated seed calls) ran) where
  -- it is small enough to be counted
  pub steps_are_few : calls ≤ 20000 → length (steps_of (entries_in ran.closed.journal)) < 2 ^ 64
  steps_are_few few =
      let same : steps_of (entries_in ran.closed.journal) ≡ steps_of run.history = ap (λ o. steps_of (entries_in o)) run.journal in
      let small = (generated_runs_are_small seed calls run.history run.runs).0 in
      let count : length (steps_of (entries_in ran.closed.journal)) ≡ calls = ap length same ∙ small in
      omega (arith, count, few)

  pub rows_are_few : calls ≤ 20000 → counted rows_in (steps_of (entries_in ran.closed.journal)) < 2 ^ 64
  rows_are_few few =
      let same : counted rows_in (steps_of (entries_in ran.closed.journal)) ≡ counted rows_in (steps_of run.history) = ap (λ o. counted rows_in (steps_of (entries_in o))) run.journal in
      let small : counted rows_in (steps_of run.history) ≤ 256 * calls = (generated_runs_are_small seed calls run.history run.runs).1 in
      omega (arith, same, small, few)

  -- its summary is the one text
  pub is_big : IsBigText seed calls (ran_text ran) Done
  is_big = (summary_is_one_threads seed calls ran run, refl)

  pub has_summary : (old new : Option (List ℕ)) {U : Type 0} (r : Result U Stop) → IsOfItsStore ran → OnOk r (Adds old (ran_text ran) new)
      → OnOk r (HasSummaryText seed calls old new ran)
  has_summary old new (Ok u) store adds = record { run = run; store = store; written = adds }
  has_summary old new (Err stop) store adds = tt

-- ---- outcomes

module _ (P : Ran → Type 0) (r : Result Ran Stop) (o : Result Outcome Stop) (is : o ≡ outcome_in r) (each : IfOk r P) where
  pub outcome_has_ran : IfOk o (λ x. IsSome x.ran × (x.status ≡ Done))
  outcome_has_ran = subst (λ (x : Result Outcome Stop). IfOk x (λ x. IsSome x.ran × (x.status ≡ Done))) (sym is) (go r)
    where
      go : (r : Result Ran Stop) → IfOk (outcome_in r) (λ x. IsSome x.ran × (x.status ≡ Done))
      go (Ok ran) = (refl, refl)
      go (Err stop) = tt

  pub outcome_ran : IfOk o (λ x. IfSome x.ran P)
  outcome_ran = subst (λ (x : Result Outcome Stop). IfOk x (λ x. IfSome x.ran P)) (sym is) (go r each)
    where
      go : (r : Result Ran Stop) → IfOk r P → IfOk (outcome_in r) (λ x. IfSome x.ran P)
      go (Ok ran) h = h
      go (Err stop) h = tt
