-- The plan that is written for an operation.
use Rattle.std.proofs.Common.{◌≡◌, ℕ, true, false, cond, eqb, List, [], ◌∷◌, Option, Some, None, refl, sym, ◌∙◌, subst, inl, inr}
use Rattle.std.proofs.lemmas.Bool.{eqb-true}
use Rattle.std.proofs.lemmas.Option.{same_Some}
use Rattle.rc_handplan.specs.Imports.{In, op_at, Spec, IsPlanOf, plan_at, AreKnown, KeepsPlanRules, Statement, IsPlanned, one_planned, IsSealed}
use Rattle.rc_handplan.specs.Chosen.{plan_for, IsChosenBy, AllKeepRules, OneChosenPlan, PlannedPlansMayBeWritten}
use Rattle.rc_handplan.specs.Hands.{AreHands}
use Rattle.rc_handplan.specs.declared.hand.Hand.{Hand}

-- a plan that is written for an operation is that of one of the plans
pub record IsWritten (hands : List Hand) (op : ℕ) (plan : List Statement) : Type 0 where
  pub hand : Hand
  pub member : In hand hands
  pub op_is : hand.op ≡ op
  pub plan_is : hand.plan ≡ plan

pub written : (hands : List Hand) (op : ℕ) (plan : List Statement) → plan_for hands op ≡ Some plan → IsWritten hands op plan
written [] op plan e = absurd cc
written (hand ∷ hands) op plan e =
    elim (eqb hand.op op) as (λ v. eqb hand.op op ≡ v → cond v (Some hand.plan) (plan_for hands op) ≡ Some plan → IsWritten (hand ∷ hands) op plan) [
      | true ↦ λ same h. record {
        hand = hand;
        member = inl refl;
        op_is = eqb-true hand.op op same;
        plan_is = same_Some hand.plan plan h;
      }
      | false ↦ λ _ h. (let later = written hands op plan h in
          record { hand = later.hand; member = inr later.member; op_is = later.op_is; plan_is = later.plan_is })
    ] refl e

-- it is known and keeps K1 to K7, where all do
pub written_is_plan : (spec : Spec) (hands : List Hand) (op : ℕ) (plan : List Statement) → AreHands spec hands
    → AllKeepRules spec hands → plan_for hands op ≡ Some plan → IsPlanOf spec op plan
written_is_plan spec hands op plan are keep e =
    let one = written hands op plan e in
    record {
      known = subst (AreKnown spec) one.plan_is (are.known one.hand one.member);
      rules = subst (λ (p : List Statement). KeepsPlanRules spec (op_at spec op) p) one.plan_is
          (subst (λ (n : ℕ). KeepsPlanRules spec (op_at spec n) one.hand.plan) one.op_is (keep one.hand one.member));
    }

-- ---- what choice means

module _ (spec : Spec) where
  same_chosen : IsSealed spec → (op : ℕ) (found : Option (List Statement)) (plan other : List Statement)
      → IsChosenBy spec op found plan → IsChosenBy spec op found other → plan ≡ other
  same_chosen sealed op (Some text) plan other e f = e ∙ sym f
  same_chosen sealed op None plan other p q = one_planned spec sealed (op_at spec op) plan other p q

  planned_by_choice : (hands : List Hand) (op : ℕ) (found : Option (List Statement)) (plan : List Statement)
      → ((hand : Hand) → In hand hands → IsPlanned spec (op_at spec hand.op) hand.plan) → plan_for hands op ≡ found
      → IsChosenBy spec op found plan → IsPlanned spec (op_at spec op) plan
  planned_by_choice hands op None plan all e chosen = chosen
  planned_by_choice hands op (Some text) plan all e chosen =
      let one = written hands op text e in
      subst (IsPlanned spec (op_at spec op)) (one.plan_is ∙ sym chosen)
      (subst (λ (n : ℕ). IsPlanned spec (op_at spec n) one.hand.plan) one.op_is (all one.hand one.member))

pub one_chosen_plan : OneChosenPlan
one_chosen_plan spec sealed hands plans others first second op below =
    same_chosen spec sealed op (plan_for hands op) (plan_at plans op) (plan_at others op) (first.each op below)
    (second.each op below)

pub planned_plans_may_be_written : PlannedPlansMayBeWritten
planned_plans_may_be_written spec hands plans all chosen op below =
    planned_by_choice spec hands op (plan_for hands op) (plan_at plans op) all refl (chosen.each op below)
