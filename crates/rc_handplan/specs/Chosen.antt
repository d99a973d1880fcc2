-- The plans of operations, of which some are written.
use Rattle.std.specs.Prelude.{◌≡◌, ℕ, ◌<◌, ◌==◌, if◌then◌else◌, List, [], ◌∷◌, ◌++◌, length, Option, Some, None}
use Rattle.rc_handplan.specs.Imports.{In, IsSealed, op_at, Spec, plan_at, KeepsPlanRules, IsFirstBrokenPlanRule, PlanRefusal, Statement, IsPlanned}
use Rattle.rc_handplan.specs.declared.compiling.HandFault.{HandFault}
use Rattle.rc_handplan.specs.declared.compiling.HandFault.TheVariants as faults
use Rattle.rc_handplan.specs.declared.hand.Hand.{Hand}

-- the plan that is written for an operation, if one is
abbrev pub plan_for : List Hand → ℕ → Option (List Statement)
plan_for [] op = None
plan_for (hand ∷ hands) op = if hand.op == op then Some hand.plan else plan_for hands op

-- the plan of an operation: the one that is written, or else a planned one
abbrev pub IsChosenBy : Spec → ℕ → Option (List Statement) → List Statement → Type 0
IsChosenBy spec op (Some written) plan = plan ≡ written
IsChosenBy spec op None plan = IsPlanned spec (op_at spec op) plan

-- a plan for each operation, by its number
pub record AreChosen (spec : Spec) (hands : List Hand) (plans : List (List Statement)) : Type 0 where
  pub count : length plans ≡ length spec.ops
  pub each : (op : ℕ) → op < length spec.ops → IsChosenBy spec op (plan_for hands op) (plan_at plans op)

-- each plan keeps K1 to K7 for its operation
abbrev pub AllKeepRules : Spec → List Hand → Type 0
AllKeepRules spec hands = (hand : Hand) → In hand hands → KeepsPlanRules spec (op_at spec hand.op) hand.plan

-- the first of the plans, in written order, that breaks a rule, and its first broken rule
pub record IsFirstRefused (spec : Spec) (hands : List Hand) (op : ℕ) (refusal : PlanRefusal) : Type 0 where
  pub front : List Hand
  pub hand : Hand
  pub others : List Hand
  pub whole : hands ≡ front ++ hand ∷ others
  pub before : AllKeepRules spec front
  pub first : IsFirstBrokenPlanRule spec (op_at spec hand.op) hand.plan refusal
  pub op_is : hand.op ≡ op

-- want of memory, or the first broken rule of the first plan that breaks one, with the specification
abbrev pub IsRefusedFor : Spec → List Hand → HandFault → Type 0
IsRefusedFor spec hands faults.Memory = Unit {0}
IsRefusedFor spec hands (faults.Refused accepted op refusal) = (accepted ≡ spec) × IsFirstRefused spec hands op refusal

-- ---- what choice means

-- each operation has one chosen plan
abbrev pub OneChosenPlan : Type 0
OneChosenPlan = (spec : Spec) → IsSealed spec → (hands : List Hand) (plans others : List (List Statement))
    → AreChosen spec hands plans → AreChosen spec hands others
    → (op : ℕ) → op < length spec.ops → plan_at plans op ≡ plan_at others op

-- where each plan that is written is the planned one, as where none is, the chosen plans are the planned ones
abbrev pub PlannedPlansMayBeWritten : Type 0
PlannedPlansMayBeWritten = (spec : Spec) (hands : List Hand) (plans : List (List Statement))
    → ((hand : Hand) → In hand hands → IsPlanned spec (op_at spec hand.op) hand.plan) → AreChosen spec hands plans
    → (op : ℕ) → op < length spec.ops → IsPlanned spec (op_at spec op) (plan_at plans op)
