-- The answer to the checks of a plan.
use Rattle.std.proofs.Common.{◌≡◌, ℕ, ◌<◌, ◌↔◌, List, [], ◌∷◌, length, Bool, true, Option, None, Some, Result, Ok, Err, refl, sym, subst, arith}
use Rattle.rc_check.proofs.Imports.{flat_map, range_with_len, slice_get, IsOk, IfErr, false≢true, slice_get_past, slice_get_in, Op, Spec, EachHolds, IsFirstFailing, Judges, each_listed, first_listed, first_left, judged_append, judged_err, judged_one, PlanRefusal, PlanRule, K1, Statement, AreKnown, IsComplete, IsFirstBrokenPlanRule, IsKeptInPlan, IsKnown, StatementKeeps, KeepsPlanRules, KeepsThere, check_at, checks_at, plan_checks, progress_at, refused_law, rules_from_checks}

-- an answer to all checks says whether the plan keeps the rules
pub ok_judged : {B : Type 0} (spec : Spec) (op : Op) (plan : List Statement) (answer : Result B PlanRefusal) → Judges (IsKeptInPlan spec op plan) (plan_checks plan) answer
    → IsOk answer ↔ KeepsPlanRules spec op plan
ok_judged spec op plan (Ok value) j = ((λ h. rules_from_checks spec op plan j), λ k. refl)
ok_judged spec op plan (Err refusal) j = ((λ h. absurd (false≢true h)), λ k. absurd (refused_law spec op plan refusal j k))

pub err_judged : {B : Type 0} (spec : Spec) (op : Op) (plan : List Statement) (answer : Result B PlanRefusal) → Judges (IsKeptInPlan spec op plan) (plan_checks plan) answer
    → IfErr answer (IsFirstBrokenPlanRule spec op plan)
err_judged spec op plan (Ok value) j = tt
err_judged spec op plan (Err refusal) j = j

-- ---- the rules at a statement

-- a statement that was found keeps a rule exactly where the test for it says so
pub rule_kept : (spec : Spec) (op same : Op) (plan : List Statement) (n : ℕ) (x : Statement) (rule : PlanRule) (b : Bool)
    → same ≡ op → slice_get plan n ≡ Some x
    → (b ≡ true) ↔ StatementKeeps spec same rule (progress_at spec op plan n) x → (b ≡ true) ↔ IsKeptInPlan spec op plan (check_at n rule)
rule_kept spec op same plan n x rule b o there test =
    subst (λ (z : Option Statement). (b ≡ true) ↔ KeepsThere spec op rule (progress_at spec op plan n) z) (sym there)
    (subst (λ (z : Op). (b ≡ true) ↔ StatementKeeps spec z rule (progress_at spec op plan n) x) o test)

-- the statement that was found by its number
pub known_at : (spec : Spec) (plan : List Statement) (n : ℕ) (x : Statement) → AreKnown spec plan → slice_get plan n ≡ Some x → IsKnown spec x
known_at spec plan n x known there = known x (slice_get_in plan n x there)

-- ---- the statements in order

-- a statement is refused, and those before it keep all rules
pub refused_statement : {B : Type 0} (spec : Spec) (op : Op) (plan : List Statement) (n : ℕ) (answer : Result B PlanRefusal) (y : PlanRefusal) → n < length plan
    → ((k : ℕ) → k < n → EachHolds (IsKeptInPlan spec op plan) (checks_at k)) → answer ≡ Err y → IsFirstFailing (IsKeptInPlan spec op plan) (checks_at n) y
    → Judges (IsKeptInPlan spec op plan) (plan_checks plan) answer
refused_statement spec op plan n answer y l before e first =
    judged_err (IsKeptInPlan spec op plan) (plan_checks plan) answer y y e refl
    (first_left (IsKeptInPlan spec op plan) (flat_map checks_at (range_with_len 0 (length plan))) (check_at (length plan) K1 ∷ []) y
    (first_listed (IsKeptInPlan spec op plan) checks_at (length plan) n y l before first))

-- all statements keep all rules, and the end is tested
pub judged_end : {B : Type 0} (spec : Spec) (op : Op) (plan : List Statement) (answer : Result B PlanRefusal) (b : Bool) → ((k : ℕ) → k < length plan → EachHolds (IsKeptInPlan spec op plan) (checks_at k))
    → (b ≡ true) ↔ IsComplete (progress_at spec op plan (length plan)) → IsOk answer ↔ (b ≡ true) → IfErr answer (λ y. y ≡ check_at (length plan) K1)
    → Judges (IsKeptInPlan spec op plan) (plan_checks plan) answer
judged_end spec op plan answer b all test ok err =
    let there : slice_get plan (length plan) ≡ None = slice_get_past plan (length plan) (omega arith) in
    let kept : (b ≡ true) ↔ IsKeptInPlan spec op plan (check_at (length plan) K1) =
    subst (λ (z : Option Statement). (b ≡ true) ↔ KeepsThere spec op K1 (progress_at spec op plan (length plan)) z) (sym there) test in
    judged_append (IsKeptInPlan spec op plan) (flat_map checks_at (range_with_len 0 (length plan))) (check_at (length plan) K1 ∷ []) answer
    (each_listed (IsKeptInPlan spec op plan) checks_at (length plan) all) (judged_one (IsKeptInPlan spec op plan) (check_at (length plan) K1) answer b kept ok err)
