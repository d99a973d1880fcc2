-- Laws of the rules of plans: the checks are the rules, and one broken rule at most is the first.
use Rattle.std.specs.Prelude.{◌≡◌, ℕ, zero, suc, ◌+◌, ◌<◌, ◌≤◌, drop, List, [], ◌∷◌, Option, None, Some, length, take, fold}
use Rattle.rc_plan.specs.Imports.{slice_get, flat_map, range_with_len, In, in_map, map_in, slice_get_there, Op, Spec, EachHolds, each_append, each_one, each_left, each_right, each_listed, listed_each, one_first, first_not_each}
use Rattle.std.proofs.Common.{inl, inr, refl, sym, ap, subst, ◌∙◌, arith}
use Rattle.std.proofs.lemmas.Option.{slice_get_past}
use Rattle.rc_plan.specs.declared.refusal.PlanRefusal.{PlanRefusal}
use Rattle.rc_plan.specs.declared.refusal.PlanRule.{PlanRule}
use Rattle.rc_plan.specs.declared.refusal.PlanRule.TheVariants.{K1, K2, K3, K4, K5, K6, K7}
use Rattle.rc_plan.specs.declared.statement.Statement.{Statement}
use Rattle.rc_plan.specs.Laws.{PlanChecksAreRules, RefusedPlansBreakRules, OneFirstBrokenPlanRule}
use Rattle.rc_plan.specs.PlanRules.{Progress, at_start, after, KeepsAll, KeepsFrom, KeepsPlanRules, IsComplete, KeepsThere, IsKeptInPlan, plan_rules, check_at, checks_at, plan_checks}

-- ---- by number, from some progress on

-- what is known before a statement, from p on
abbrev pub progress_from : Spec → Progress → List Statement → ℕ → Progress
progress_from spec p plan n = fold (after spec) p (take n plan)

progress_next : (spec : Spec) (p : Progress) (plan : List Statement) (n : ℕ) (x : Statement) → slice_get plan n ≡ Some x → progress_from spec p plan (suc n) ≡ after spec (progress_from spec p plan n) x
progress_next spec p [] n x e = cc
progress_next spec p (y ∷ plan) zero x e = let same : y ≡ x = cc in ap (after spec p) same
progress_next spec p (y ∷ plan) (suc n) x e = progress_next spec (after spec p y) plan n x e

-- with one more statement
pub progress_more : (spec : Spec) (p : Progress) (plan : List Statement) (n : ℕ) (x : Statement) → slice_get plan n ≡ Some x → progress_from spec p plan (n + 1) ≡ after spec (progress_from spec p plan n) x
progress_more spec p plan n x e = ap (progress_from spec p plan) (let k : n + 1 ≡ suc n = omega arith in k) ∙ progress_next spec p plan n x e

-- what the plan keeps from a statement on
pub keeps_drop : (spec : Spec) (op : Op) (p : Progress) (plan : List Statement) (n : ℕ) → KeepsFrom spec op p plan → n ≤ length plan → KeepsFrom spec op (progress_from spec p plan n) (drop n plan)
keeps_drop spec op p plan zero keeps l = keeps
keeps_drop spec op p [] (suc n) keeps l = absurd (omega arith)
keeps_drop spec op p (x ∷ plan) (suc n) keeps l = keeps_drop spec op (after spec p x) plan n keeps.1 (omega arith)

-- the statement with this number, if there is one, keeps all rules
abbrev pub KeepsAllThere : Spec → Op → Progress → Option Statement → Type 0
KeepsAllThere spec op p (Some x) = KeepsAll spec op p x
KeepsAllThere spec op p None = Unit {0}

-- each statement by its number, and then the end
pub record KeepsByNumber (spec : Spec) (op : Op) (p : Progress) (plan : List Statement) : Type 0 where
  pub each : (n : ℕ) → n < length plan → KeepsAllThere spec op (progress_from spec p plan n) (slice_get plan n)
  pub complete : IsComplete (progress_from spec p plan (length plan))

pub by_number : (spec : Spec) (op : Op) (p : Progress) (plan : List Statement) → KeepsFrom spec op p plan → KeepsByNumber spec op p plan
by_number spec op p [] keeps = record { each = λ n l. absurd (omega arith); complete = keeps }
by_number spec op p (x ∷ plan) keeps =
    let rest : KeepsByNumber spec op (after spec p x) plan = by_number spec op (after spec p x) plan keeps.1 in
    record { each = λ n l. go n l rest; complete = rest.complete }
  where
    go : (n : ℕ) → n < length (x ∷ plan) → KeepsByNumber spec op (after spec p x) plan → KeepsAllThere spec op (progress_from spec p (x ∷ plan) n) (slice_get (x ∷ plan) n)
    go zero l rest = keeps.0
    go (suc n) l rest = rest.each n (omega arith)

pub from_number : (spec : Spec) (op : Op) (p : Progress) (plan : List Statement) → KeepsByNumber spec op p plan → KeepsFrom spec op p plan
from_number spec op p [] k = k.complete
from_number spec op p (x ∷ plan) k =
    (k.each 0 (omega arith), from_number spec op (after spec p x) plan (record { each = λ n l. k.each (suc n) (omega arith); complete = k.complete }))

-- ---- the checks at a statement

rule_in : (rule : PlanRule) → In rule plan_rules
rule_in K1 = inl refl
rule_in K2 = inr (inl refl)
rule_in K3 = inr (inr (inl refl))
rule_in K4 = inr (inr (inr (inl refl)))
rule_in K5 = inr (inr (inr (inr (inl refl))))
rule_in K6 = inr (inr (inr (inr (inr (inl refl)))))
rule_in K7 = inr (inr (inr (inr (inr (inr (inl refl))))))

module _ (spec : Spec) (op : Op) (plan : List Statement) where
  abbrev K : PlanRefusal → Type 0
  K = IsKeptInPlan spec op plan

  rules_there : (n : ℕ) (p : Progress) (x : Option Statement) → n < length plan → KeepsAllThere spec op p x → (slice_get plan n ≡ None → ⊥) → x ≡ slice_get plan n
      → (rule : PlanRule) → KeepsThere spec op rule p x
  rules_there n p (Some x) l all some e K1 = all.k1
  rules_there n p (Some x) l all some e K2 = all.k2
  rules_there n p (Some x) l all some e K3 = all.k3
  rules_there n p (Some x) l all some e K4 = all.k4
  rules_there n p (Some x) l all some e K5 = all.k5
  rules_there n p (Some x) l all some e K6 = all.k6
  rules_there n p (Some x) l all some e K7 = all.k7
  rules_there n p None l all some e rule = absurd (some (sym e))

  all_there : (p : Progress) (x : Option Statement) → ((rule : PlanRule) → KeepsThere spec op rule p x) → KeepsAllThere spec op p x
  all_there p (Some x) f = record { k1 = f K1; k2 = f K2; k3 = f K3; k4 = f K4; k5 = f K5; k6 = f K6; k7 = f K7 }
  all_there p None f = tt

  -- the checks at a statement are for every rule
  each_rule : (n : ℕ) → ((rule : PlanRule) → K (check_at n rule)) → EachHolds K (checks_at n)
  each_rule n f check m = let q : (rule : PlanRule) × In rule plan_rules × (check ≡ check_at n rule) = in_map (check_at n) check plan_rules m in subst K (sym q.2) (f q.0)

  rule_each : (n : ℕ) → EachHolds K (checks_at n) → (rule : PlanRule) → K (check_at n rule)
  rule_each n h rule = h (check_at n rule) (map_in (check_at n) rule plan_rules (rule_in rule))

  past_end : slice_get plan (length plan) ≡ None
  past_end = slice_get_past plan (length plan) (omega arith)

  at_end : K (check_at (length plan) K1) → IsComplete (progress_from spec (at_start spec op) plan (length plan))
  at_end k = subst (KeepsThere spec op K1 (progress_from spec (at_start spec op) plan (length plan))) past_end k

  end_at : IsComplete (progress_from spec (at_start spec op) plan (length plan)) → K (check_at (length plan) K1)
  end_at k = subst (KeepsThere spec op K1 (progress_from spec (at_start spec op) plan (length plan))) (sym past_end) k

  pub rules_from_checks : EachHolds K (plan_checks plan) → KeepsPlanRules spec op plan
  rules_from_checks h =
      let statements : List PlanRefusal = flat_map checks_at (range_with_len 0 (length plan)) in
      let ends : List PlanRefusal = check_at (length plan) K1 ∷ [] in
      from_number spec op (at_start spec op) plan (record {
        each = λ n l. all_there (progress_from spec (at_start spec op) plan n) (slice_get plan n)
            (rule_each n (listed_each K checks_at (length plan) (each_left K statements ends h) n l));
        complete = at_end (each_right K statements ends h (check_at (length plan) K1) (inl refl));
      })

  pub checks_from_rules : KeepsPlanRules spec op plan → EachHolds K (plan_checks plan)
  checks_from_rules keeps =
      let k : KeepsByNumber spec op (at_start spec op) plan = by_number spec op (at_start spec op) plan keeps in
      each_append K (flat_map checks_at (range_with_len 0 (length plan))) (check_at (length plan) K1 ∷ [])
      (each_listed K checks_at (length plan) (λ n l.
      each_rule n (rules_there n (progress_from spec (at_start spec op) plan n) (slice_get plan n) l (k.each n l) (slice_get_there plan n l) refl)))
      (each_one K (check_at (length plan) K1) (end_at k.complete))

-- ---- the laws

pub checks_law : PlanChecksAreRules
checks_law spec op plan = (rules_from_checks spec op plan, checks_from_rules spec op plan)

pub refused_law : RefusedPlansBreakRules
refused_law spec op plan refusal f keeps = first_not_each (IsKeptInPlan spec op plan) (plan_checks plan) refusal f (checks_from_rules spec op plan keeps)

pub one_first_law : OneFirstBrokenPlanRule
one_first_law spec op plan a b f g = one_first (IsKeptInPlan spec op plan) (plan_checks plan) a b f g
