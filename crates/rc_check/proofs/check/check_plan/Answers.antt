use Rattle.std.proofs.Common.{◌≡◌, ℕ, ◌<◌, ◌↔◌, true, List, length, Some, Result, Ok, Err, refl, sym, ap, subst, ◌∙◌, arith, below_more}
use Rattle.rc_check.proofs.Imports.{slice_get, IfErr, IsOk, false≢true, slice_get_read, err_from_is_err_and, Op, Spec, EachHolds, Judges, op_among, IsOpAmong, op_at, PlanRefusal, K1, Statement, IsComplete, IsKeptInPlan, IsKnown, after, at_start, check_at, checks_at, plan_checks, progress_at, progress_more, sets_of}
use Rattle.rc_check.proofs.JudgeLemmas.{err_judged, judged_end, known_at, ok_judged, refused_statement}
use Rattle.rc_check.proofs.check.check_plan.Goals.{After-is_complete}
use Rattle.rc_check.proofs.check.check_plan.Goals as goal

pub at_start-known-requires-clause-known : goal.at_start-known-requires-clause-known
at_start-known-requires-clause-known c =
    let spec : Spec = c.args.accepted.now in
    let same = sym (c.op.ensures.value ∙ ap (λ (s : Spec). op_at s c.args.op) c.spec-spec.ensures.value) in
    subst (λ (s : Spec). IsOpAmong (length s.columns) c.op.result.now) (sym c.spec-spec.ensures.value)
    (subst (IsOpAmong (length spec.columns)) same (op_among spec c.args.op c.spec-spec.ensures.sealed.in_range c.requires.operation))

pub returns-in_err-check_statement : goal.returns-in_err-check_statement
returns-in_err-check_statement c =
    let spec : Spec = c.args.accepted.now in
    let op : Op = op_at spec c.args.op in
    let plan : List Statement = c.args.plan.now in
    let n : ℕ = c.loop-at.at in
    let below : n < length plan = omega (arith, c.loop-at-test.true, ap (λ (l : List Statement). length l) c.list-statements.ensures) in
    let answer = err_from_is_err_and c.from_residual.result c.from_residual.ensures.1 in
    let judged : Judges (IsKeptInPlan spec op plan) (plan_checks plan) c.from_residual.result =
    refused_statement spec op plan n c.from_residual.result answer.0 below c.loop-at.invariant.kept answer.1
    (subst (λ (y : PlanRefusal). Judges {B = Unit {0}} (IsKeptInPlan spec op plan) (checks_at n) (Err y)) (sym answer.2) c.in_err-check_statement.ensures) in
    record { accepted = ok_judged spec op plan c.from_residual.result judged; first = err_judged spec op plan c.from_residual.result judged }

pub after-known-requires-clause-known : goal.after-known-requires-clause-known
after-known-requires-clause-known c =
    let plan : List Statement = c.args.plan.now in
    let n : ℕ = c.loop-at.at in
    let x : Statement = c.index-statements-at.result in
    let there : slice_get plan n ≡ Some x =
    ap (λ l. slice_get l n) (sym c.list-statements.ensures)
    ∙ slice_get_read c.list-statements.result.now (length c.list-statements.result.now) n x refl c.loop-at-test.true c.index-statements-at.is in
    subst (λ (s : Spec). IsKnown s x) (sym c.spec-spec.ensures.value) (known_at c.args.accepted.now plan n x c.requires.known there)

pub loop-at-preserved : goal.loop-at-preserved
loop-at-preserved c =
    let spec : Spec = c.args.accepted.now in
    let op : Op = op_at spec c.args.op in
    let plan : List Statement = c.args.plan.now in
    let n : ℕ = c.loop-at.at in
    let x : Statement = c.index-statements-at.result in
    let there : slice_get plan n ≡ Some x =
    ap (λ l. slice_get l n) (sym c.list-statements.ensures)
    ∙ slice_get_read c.list-statements.result.now (length c.list-statements.result.now) n x refl c.loop-at-test.true c.index-statements-at.is in
    record {
      known =
          c.after-known.ensures (progress_at spec op plan n) c.loop-at.invariant.known
          ∙ ap (λ (s : Spec). sets_of (after s (progress_at spec op plan n) x)) c.spec-spec.ensures.value
          ∙ ap sets_of (sym (progress_more spec (at_start spec op) plan n x there));
      kept = below_more (λ k. EachHolds (IsKeptInPlan spec op plan) (checks_at k)) n c.loop-at.invariant.kept c.in_ok-check_statement.ensures;
    }

-- the loop has gone over all statements, and the plan is judged by the test of its end
ended : (c : After-is_complete) → (answer : Result (Unit {0}) PlanRefusal) → IsOk answer ↔ (c.is_complete.result ≡ true)
    → IfErr answer (λ (y : PlanRefusal). y ≡ check_at (length c.list-statements.result.now) K1)
    → Judges (IsKeptInPlan c.args.accepted.now (op_at c.args.accepted.now c.args.op) c.args.plan.now) (plan_checks c.args.plan.now) answer
ended c answer ok refusal =
    let spec : Spec = c.args.accepted.now in
    let op : Op = op_at spec c.args.op in
    let plan : List Statement = c.args.plan.now in
    let n : ℕ = c.loop-at.at in
    let all : length c.list-statements.result.now ≡ length plan = ap (λ (l : List Statement). length l) c.list-statements.ensures in
    let end : n ≡ length plan = omega arith in
    let complete = subst (λ k. (c.is_complete.result ≡ true) ↔ IsComplete (progress_at spec op plan k)) end (c.is_complete.ensures (progress_at spec op plan n) c.loop-at.invariant.known) in
    judged_end spec op plan answer c.is_complete.result (λ k l. c.loop-at.invariant.kept k (omega arith)) complete ok
    (subst (λ k. IfErr answer (λ (y : PlanRefusal). y ≡ check_at k K1)) all refusal)

pub returns-then-not-is_complete : goal.returns-then-not-is_complete
returns-then-not-is_complete c =
    let spec : Spec = c.args.accepted.now in
    let op : Op = op_at spec c.args.op in
    let answer : Result (Unit {0}) PlanRefusal = Err (check_at (length c.list-statements.result.now) K1) in
    let judged = ended (goal.at.returns-then-not-is_complete c).After-is_complete answer
    (λ h. absurd (false≢true h), λ h. absurd (false≢true (sym c.if-not-is_complete.true ∙ h))) refl in
    record { accepted = ok_judged spec op c.args.plan.now answer judged; first = err_judged spec op c.args.plan.now answer judged }

pub returns : goal.returns
returns c =
    let spec : Spec = c.args.accepted.now in
    let op : Op = op_at spec c.args.op in
    let answer : Result (Unit {0}) PlanRefusal = Ok tt in
    let judged = ended (goal.at.returns c).After-is_complete answer (λ h. c.if-not-is_complete.false, λ h. refl) tt in
    record { accepted = ok_judged spec op c.args.plan.now answer judged; first = err_judged spec op c.args.plan.now answer judged }
