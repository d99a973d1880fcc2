-- What runs of a row give: states stay good, and a run goes on step by step.
use Rattle.std.proofs.Common.{◌≡◌, ◌≢◌, ℕ, suc, ◌==◌, ◌++◌, Bool, true, false, List, [], ◌∷◌, length, Option, Some, None, refl, sym, ap, ◌∙◌, subst, inl, inr, arith}
use Rattle.std.proofs.lemmas.List.{append-nil, append_assoc, length-append}
use Rattle.std.proofs.lemmas.Bool.{eq-eqb, eqb-true, ne_eqb}
use Rattle.rc_row.specs.Imports.{In, in_append, SpecWithPlans, IsCompiled, IsPrefix, AreAllowed, after_all, CoreState, resumed, events_add, resumed_good, IsGood, events_keep, State}
use Rattle.rc_row.specs.declared.law.Key.{Key}
use Rattle.rc_row.specs.declared.law.Refusal.{Refusal}
use Rattle.rc_row.specs.declared.law.View.{View}
use Rattle.rc_row.specs.Law.{Slot, compiled_by, history_by, spec_by, at_first_by, IsKept}
use Rattle.rc_row.specs.Run.{RowState, RowStep, OfCore, TakeLatch, MissLatch, FreeLatch, CanStep, CanRun, HasMoment, after_step, after_run, events_of, last_of, pass_of, refusal_of, refusal_where, refusals_in, row_state}

-- ---- one step more

pub after_run-more : (compiled : SpecWithPlans) (s : RowState) (run : List RowStep) (x : RowStep) → after_run compiled s (run ++ x ∷ []) ≡ after_step compiled (after_run compiled s run) x
after_run-more compiled s [] x = refl
after_run-more compiled s (y ∷ run) x = after_run-more compiled (after_step compiled s y) run x

pub CanRun-more : (compiled : SpecWithPlans) (s : RowState) (run : List RowStep) (x : RowStep) → CanRun compiled s run → CanStep compiled (after_run compiled s run) x → CanRun compiled s (run ++ x ∷ [])
CanRun-more compiled s [] x can next = (next, tt)
CanRun-more compiled s (y ∷ run) x can next = (can.0, CanRun-more compiled (after_step compiled s y) run x can.1 next)

refusals-more : (compiled : SpecWithPlans) (s : RowState) (run : List RowStep) (x : RowStep) (k : ℕ)
    → refusals_in compiled s (run ++ x ∷ []) k ≡ refusals_in compiled s run k ++ refusal_where (pass_of x == k) (refusal_of (after_run compiled s run) x)
refusals-more compiled s [] x k = append-nil (refusal_where (pass_of x == k) (refusal_of s x))
refusals-more compiled s (y ∷ run) x k =
    ap (λ (l : List Refusal). refusal_where (pass_of y == k) (refusal_of s y) ++ l) (refusals-more compiled (after_step compiled s y) run x k)
    ∙ sym (append_assoc (refusal_where (pass_of y == k) (refusal_of s y)) (refusals_in compiled (after_step compiled s y) run k)
    (refusal_where (pass_of x == k) (refusal_of (after_run compiled (after_step compiled s y) run) x)))

last_of-more : (refusals : List Refusal) (r : Refusal) → last_of (refusals ++ r ∷ []) ≡ Some r
last_of-more [] r = refl
last_of-more (x ∷ []) r = refl
last_of-more (x ∷ (y ∷ refusals)) r = last_of-more (y ∷ refusals) r

-- ---- states stay good

step_keeps : (compiled : SpecWithPlans) → IsCompiled compiled.spec compiled.plans → (s : RowState) → IsGood compiled.spec s.core → (x : RowStep) → CanStep compiled s x
    → IsGood compiled.spec (after_step compiled s x).core
step_keeps compiled ok s good (OfCore x) can = events_keep compiled ok s.core good x can
step_keeps compiled ok s good (TakeLatch k p) can = good
step_keeps compiled ok s good (MissLatch k p) can = good
step_keeps compiled ok s good (FreeLatch k p) can = good

run_keeps : (compiled : SpecWithPlans) → IsCompiled compiled.spec compiled.plans → (s : RowState) → IsGood compiled.spec s.core → (run : List RowStep) → CanRun compiled s run
    → IsGood compiled.spec (after_run compiled s run).core
run_keeps compiled ok s good [] can = good
run_keeps compiled ok s good (x ∷ run) can = run_keeps compiled ok (after_step compiled s x) (step_keeps compiled ok s good x can.0) run can.1

-- ---- the events of a run

events_allowed : (compiled : SpecWithPlans) (s : RowState) (run : List RowStep) → CanRun compiled s run → AreAllowed compiled s.core (events_of run)
events_allowed compiled s [] can = tt
events_allowed compiled s (OfCore x ∷ run) can = (can.0, events_allowed compiled (after_step compiled s (OfCore x)) run can.1)
events_allowed compiled s (TakeLatch k p ∷ run) can = events_allowed compiled (after_step compiled s (TakeLatch k p)) run can.1
events_allowed compiled s (MissLatch k p ∷ run) can = events_allowed compiled s run can.1
events_allowed compiled s (FreeLatch k p ∷ run) can = events_allowed compiled (after_step compiled s (FreeLatch k p)) run can.1

events_lead : (compiled : SpecWithPlans) (s : RowState) (run : List RowStep) → after_all compiled s.core (events_of run) ≡ (after_run compiled s run).core
events_lead compiled s [] = refl
events_lead compiled s (OfCore x ∷ run) = events_lead compiled (after_step compiled s (OfCore x)) run
events_lead compiled s (TakeLatch k p ∷ run) = events_lead compiled (after_step compiled s (TakeLatch k p)) run
events_lead compiled s (MissLatch k p ∷ run) = events_lead compiled s run
events_lead compiled s (FreeLatch k p ∷ run) = events_lead compiled (after_step compiled s (FreeLatch k p)) run

-- ---- each refusal has its moment

its_refusal : (b : Bool) (o : Option Refusal) (r : Refusal) → In r (refusal_where b o) → (b ≡ true) × (o ≡ Some r)
its_refusal true (Some x) r (inl e) = (refl, ap (λ (y : Refusal). Some y) (sym e))
its_refusal true (Some x) r (inr m) = absurd m
its_refusal true None r m = absurd m
its_refusal false o r m = absurd m

moments : (compiled : SpecWithPlans) (s : RowState) (run : List RowStep) (k : ℕ) (r : Refusal) → CanRun compiled s run → In r (refusals_in compiled s run k) → HasMoment compiled s run k r
moments compiled s [] k r can m = absurd m
moments compiled s (x ∷ run) k r can m = elim (in_append r (refusal_where (pass_of x == k) (refusal_of s x)) (refusals_in compiled (after_step compiled s x) run k) m) [
  | inl here ↦
      (let its = its_refusal (pass_of x == k) (refusal_of s x) r here in
      record { before = []; step = x; later = run; is = refl; can = can.0; mine = eqb-true (pass_of x) k its.0; refusal = its.1 })
  | inr later ↦
      (let h = moments compiled (after_step compiled s x) run k r can.1 later in
      record { before = x ∷ h.before; step = h.step; later = h.later; is = ap (λ (l : List RowStep). x ∷ l) h.is; can = h.can; mine = h.mine; refusal = h.refusal })
]

-- ---- what the rule gives

module _ (key : Key) (s : State Slot View) (kept : IsKept key s) where
  abbrev pub state_of : RowState
  state_of = row_state kept.core kept.latches

  abbrev pub refusals_of : ℕ → List Refusal
  refusals_of k = refusals_in (compiled_by key) (at_first_by key) kept.run k

  -- the state is good
  pub good_of : IsGood (spec_by key) kept.core
  good_of = subst (λ (t : RowState). IsGood (spec_by key) t.core) kept.reached
      (run_keeps (compiled_by key) kept.compiled (at_first_by key) (resumed_good (compiled_by key) key.passes (history_by key) kept.before) kept.run kept.steps)

  -- each refused step of a pass has its moment in the run
  pub refusals_have_moments : (k : ℕ) (r : Refusal) → In r (refusals_of k) → HasMoment (compiled_by key) (at_first_by key) kept.run k r
  refusals_have_moments k r m = moments (compiled_by key) (at_first_by key) kept.run k r kept.steps m

  pub run_allowed : AreAllowed (compiled_by key) (resumed (compiled_by key) key.passes (history_by key)) (events_of kept.run)
  run_allowed = events_allowed (compiled_by key) (at_first_by key) kept.run kept.steps

  pub run_leads : kept.core ≡ after_all (compiled_by key) (resumed (compiled_by key) key.passes (history_by key)) (events_of kept.run)
  run_leads = sym (events_lead (compiled_by key) (at_first_by key) kept.run ∙ ap (λ (t : RowState). t.core) kept.reached)

  -- the history begins with that from which the row goes on
  pub begins_with : IsPrefix (history_by key) kept.core.history
  begins_with = subst (λ (c : CoreState). IsPrefix (history_by key) c.history) (sym run_leads)
      (events_add (compiled_by key) (resumed (compiled_by key) key.passes (history_by key)) (events_of kept.run))

  module _ (x : RowStep) where
    pub can_go_on : CanStep (compiled_by key) state_of x → CanRun (compiled_by key) (at_first_by key) (kept.run ++ x ∷ [])
    can_go_on can = CanRun-more (compiled_by key) (at_first_by key) kept.run x kept.steps (subst (λ (t : RowState). CanStep (compiled_by key) t x) (sym kept.reached) can)

    pub goes_on : after_run (compiled_by key) (at_first_by key) (kept.run ++ x ∷ []) ≡ after_step (compiled_by key) state_of x
    goes_on = after_run-more (compiled_by key) (at_first_by key) kept.run x ∙ ap (λ (t : RowState). after_step (compiled_by key) t x) kept.reached

    refusals_go_on : (k : ℕ) → refusals_in (compiled_by key) (at_first_by key) (kept.run ++ x ∷ []) k ≡ refusals_of k ++ refusal_where (pass_of x == k) (refusal_of state_of x)
    refusals_go_on k = refusals-more (compiled_by key) (at_first_by key) kept.run x k
        ∙ ap (λ (t : RowState). refusals_of k ++ refusal_where (pass_of x == k) (refusal_of t x)) kept.reached

    -- another pass has the same refusals
    pub others_refusals : (k : ℕ) → pass_of x ≢ k → refusals_in (compiled_by key) (at_first_by key) (kept.run ++ x ∷ []) k ≡ refusals_of k
    others_refusals k other = refusals_go_on k ∙ ap (λ b. refusals_of k ++ refusal_where b (refusal_of state_of x)) (ne_eqb (pass_of x) k other) ∙ append-nil (refusals_of k)

    -- its own pass has those of before, and the step's
    pub own_refusals : (r : Option Refusal) → refusal_of state_of x ≡ r
        → refusals_in (compiled_by key) (at_first_by key) (kept.run ++ x ∷ []) (pass_of x) ≡ refusals_of (pass_of x) ++ refusal_where true r
    own_refusals r is = refusals_go_on (pass_of x) ∙ (λ i. refusals_of (pass_of x) ++ refusal_where (eq-eqb (pass_of x) (pass_of x) refl i) (is i))

-- a refusal more
pub refusals_length : (refusals : List Refusal) (r : Refusal) → length (refusals ++ r ∷ []) ≡ suc (length refusals)
refusals_length refusals r = length-append refusals (r ∷ []) ∙ omega arith

pub refusals_last : (refusals : List Refusal) (r : Refusal) → last_of (refusals ++ r ∷ []) ≡ Some r
refusals_last refusals r = last_of-more refusals r
