-- The rules of the lines of plans, and refused plans, as they are printed.
use Rattle.std.specs.Prelude.{ℕ, List, ◌++◌, decimal, codes}
use Rattle.rc_handplan.specs.Imports.{op_at, Spec, plan_rule_text, PlanRefusal}
use Rattle.rc_handplan.specs.declared.refusal.HandRule.{HandRule}
use Rattle.rc_handplan.specs.declared.refusal.HandRule.TheVariants.{H1, H2, H3, H4, S8}

abbrev pub hand_rule_text : HandRule → List ℕ
hand_rule_text H1 = codes "H1"
hand_rule_text H2 = codes "H2"
hand_rule_text H3 = codes "H3"
hand_rule_text H4 = codes "H4"
hand_rule_text S8 = codes "S8"

-- the line that refuses the plan of an operation, without a line feed
abbrev pub plan_refusal_text : Spec → ℕ → PlanRefusal → List ℕ
plan_refusal_text spec op refusal =
    codes "refused " ++ plan_rule_text refusal.rule ++ codes " plan " ++ (op_at spec op).name ++ codes " statement "
    ++ decimal refusal.at
