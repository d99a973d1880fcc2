-- Laws of the plans of a specification's own operations and of further ones.
use Rattle.std.specs.Prelude.{◌≡◌, ℕ, ◌+◌, ◌<◌, ◌≤◌, ◌⊎◌, ◌++◌, List, [], ◌∷◌, Some, length, get_or}
use Rattle.std.specs.List.{slice_get}
use Rattle.std.proofs.Common.{refl, sym, ap, subst, ◌∙◌, inl, inr, arith}
use Rattle.std.proofs.lemmas.Bool.{cases_lt}
use Rattle.std.proofs.lemmas.List.{get_or_append_left, get_or-append-add, get_or_push, length-append}
use Rattle.std.proofs.lemmas.Option.{get_or_from_slice_get, slice_get_read}
use Rattle.rc_spec.specs.declared.items.Op.{Op}
use Rattle.rc_spec.specs.declared.spec.Spec.{Spec}
use Rattle.rc_spec.specs.Placement.{no_op, op_at}
use Rattle.rc_plan.specs.declared.statement.Statement.{Statement}
use Rattle.rc_plan.specs.Compiled.{ArePlansOf, IsPlanOf, plan_at}
use Rattle.rc_query.specs.Planned.{IsPlanned}
use Rattle.rc_work.specs.Shapes.{with_operations}
use Rattle.rc_cache.specs.Apart.{IsPlannedFor}
use Rattle.rc_cache.specs.ApartLaws.{plans_are_apart}
use Rattle.rc_cache.specs.Extended.{HaveAllPlans, HavePlans}

-- the planned plan of an operation of the specification
own_plan : (spec : Spec) (n : ℕ) (plan : List Statement) → IsPlanned spec (op_at spec n) plan → IsPlanOf spec n plan → IsPlannedFor spec (op_at spec n) plan
own_plan spec n plan planned k = record { planned = planned; accepted = record { known = k.known; rules = k.rules } }

-- the own operations have theirs
pub own_plans : (spec : Spec) (ops : List Op) (plans : List (List Statement)) → ((n : ℕ) → n < length spec.ops → IsPlanned spec (op_at spec n) (plan_at plans n))
    → ArePlansOf spec plans → HavePlans spec (spec.ops ++ ops) (length spec.ops) plans
own_plans spec ops plans planned accepted = record {
  count = accepted.count;
  each = λ n l. subst (λ (op : Op). IsPlannedFor spec op (plan_at plans n)) (sym (get_or_append_left spec.ops ops no_op n l))
      (own_plan spec n (plan_at plans n) (planned n l) (accepted.each n l));
}

-- one more has its plan
plan_more : (spec : Spec) (all : List Op) (first : ℕ) (plans : List (List Statement)) (plan : List Statement) → HavePlans spec all first plans
    → IsPlannedFor spec (get_or all first no_op) plan → HavePlans spec all (first + 1) (plans ++ plan ∷ [])
plan_more spec all first plans plan have here = record {
  count = length-append plans (plan ∷ []) ∙ ap (λ (n : ℕ). n + 1) have.count;
  each = λ n l. each n l (cases_lt n first);
}
  where
    each : (n : ℕ) → n < first + 1 → (n < first) ⊎ (first ≤ n) → IsPlannedFor spec (get_or all n no_op) (plan_at (plans ++ plan ∷ []) n)
    each n l (inl before) =
        subst (IsPlannedFor spec (get_or all n no_op)) (sym (get_or_append_left plans (plan ∷ []) [] n (omega (arith, before, have.count)))) (have.each n before)
    each n l (inr after) =
        let at : first ≡ n = omega arith in
        subst (λ (m : ℕ). IsPlannedFor spec (get_or all m no_op) (plan_at (plans ++ plan ∷ []) m)) at
        (subst (IsPlannedFor spec (get_or all first no_op)) (sym (get_or_push plans plan [] first (omega (arith, have.count)))) here)

-- the further operation with a number
further : (spec : Spec) (ops : List Op) (n : ℕ) → get_or (spec.ops ++ ops) (length spec.ops + n) no_op ≡ get_or ops n no_op
further spec ops n = get_or-append-add spec.ops ops n no_op

-- one more of the further operations has its plan
pub further_more : (spec : Spec) (ops : List Op) (index : ℕ) (op : Op) (plans now : List (List Statement)) (plan : List Statement) → index < length ops → op ≡ get_or ops index op
    → IsPlannedFor spec op plan → now ≡ plans ++ plan ∷ [] → HavePlans spec (spec.ops ++ ops) (length spec.ops + index) plans
    → HavePlans spec (spec.ops ++ ops) (length spec.ops + (index + 1)) now
further_more spec ops index op plans now plan l is here all have =
    let found : slice_get ops index ≡ Some op = slice_get_read ops (length ops) index op refl l is in
    let at : get_or (spec.ops ++ ops) (length spec.ops + index) no_op ≡ op = further spec ops index ∙ get_or_from_slice_get ops index op no_op found in
    let next : length spec.ops + index + 1 ≡ length spec.ops + (index + 1) = omega arith in
    let more : HavePlans spec (spec.ops ++ ops) (length spec.ops + index + 1) (plans ++ plan ∷ []) =
    plan_more spec (spec.ops ++ ops) (length spec.ops + index) plans plan have (subst (λ (o : Op). IsPlannedFor spec o plan) (sym at) here) in
    subst (λ (ps : List (List Statement)). HavePlans spec (spec.ops ++ ops) (length spec.ops + (index + 1)) ps) (sym all)
    (subst (λ (n : ℕ). HavePlans spec (spec.ops ++ ops) n (plans ++ plan ∷ [])) next more)

-- all have their plans over the specification: so they have them over the one that has all these operations
pub all_plans : (spec : Spec) (ops : List Op) (plans : List (List Statement)) → HaveAllPlans spec ops plans
    → HavePlans (record spec { ops = spec.ops ++ ops }) (spec.ops ++ ops) (length (spec.ops ++ ops)) plans
all_plans spec ops plans have = record {
  count = have.count;
  each = λ n l. let op : Op = get_or (spec.ops ++ ops) n no_op in
      plans_are_apart spec (spec.ops ++ ops) op op (plan_at plans n) (record { pattern = λ i. op.pattern; kind = λ i. op.kind }) (have.each n l);
}

-- so each plan is accepted, and planned
pub plans_are_accepted : (spec : Spec) (ops : List Op) (plans : List (List Statement)) → HaveAllPlans spec ops plans → ArePlansOf (with_operations spec ops) plans
plans_are_accepted spec ops plans have = record {
  count = have.count;
  each = λ n l. let k : IsPlannedFor (with_operations spec ops) (op_at (with_operations spec ops) n) (plan_at plans n) = (all_plans spec ops plans have).each n l in
      record { known = k.accepted.known; rules = k.accepted.rules };
}

pub plans_are_planned : (spec : Spec) (ops : List Op) (plans : List (List Statement)) → HaveAllPlans spec ops plans
    → (n : ℕ) → n < length (spec.ops ++ ops) → IsPlanned (with_operations spec ops) (op_at (with_operations spec ops) n) (plan_at plans n)
plans_are_planned spec ops plans have n l = ((all_plans spec ops plans have).each n l).planned
