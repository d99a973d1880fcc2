-- Laws of planned plans: they are accepted, and each operation has one.
use Rattle.std.specs.Prelude.{◌≡◌, ℕ, ◌<◌, List, length}
use Rattle.rc_query.specs.Imports.{nat_cmp, gather, nat_order, in_gather, get_or_in, Within, union, union_within, in_range_below, Op, OpKind, Query, Insert, Remove, Update, Spec, IsSealed, IsAdequate, all_columns, IsInRange, AreBelow, HasOutsAmong, IsPlaced, op_at, no_op, range_columns, Statement, IsPlanOf, at_start, chosen_routes_are_good, one_chosen_route, has_chosen_route, IsChosenRoute}
use Rattle.std.proofs.Common.{refl, sym, ap, subst, ◌∙◌}
use Rattle.rc_query.specs.InsertPlanLaws.{insert_fits}
use Rattle.rc_query.specs.Laws.{GivesGoodRoutes, IsAcceptedFor, PlansOverGoodRoutesAreAccepted, PlannedPlansAreAccepted, HasPlannedPlan, OnePlannedPlan}
use Rattle.rc_query.specs.Planned.{Routing, asked_columns, plan_for, planned_by, ChoosesRoutes, IsPlanned}
use Rattle.rc_query.specs.ProgressLaws.{AreAcceptedFrom, known_of_fit, rules_of_fit}
use Rattle.rc_query.specs.SearchPlanLaws.{query_fits, remove_fits}
use Rattle.rc_query.specs.UpdatePlanLaws.{update_fits}

-- ---- over any good routes

set_known : (spec : Spec) (cols : List ℕ) → AreBelow (length spec.columns) cols → Within (gather nat_cmp cols) (all_columns spec)
set_known spec cols b c m = in_range_below (length spec.columns) c (b c (in_gather nat_cmp nat_order c cols m))

plan_fits : (spec : Spec) → IsInRange spec → IsAdequate spec → IsPlaced spec → (route : Routing) → GivesGoodRoutes spec route
    → (name pattern : List ℕ) (kind : OpKind) → AreBelow (length spec.columns) pattern → HasOutsAmong (length spec.columns) kind → AreBelow (length spec.columns) (range_columns kind)
    → (let op : Op = record { name = name; pattern = pattern; kind = kind } in AreAcceptedFrom spec op (at_start spec op) (plan_for spec route (gather nat_cmp pattern) kind))
plan_fits spec i a pl route good name pattern (Query outs ranges) below outs_below ranges_below =
    let xs : List ℕ = gather nat_cmp pattern in
    let ys : List ℕ = asked_columns ranges outs in
    query_fits spec i pl name pattern outs ranges (route xs (union xs ys))
    (good xs (union xs ys) (union_within xs ys (all_columns spec) (set_known spec pattern below)
    (union_within (gather nat_cmp ranges) (gather nat_cmp outs) (all_columns spec) (set_known spec ranges ranges_below) (set_known spec outs outs_below))))
plan_fits spec i a pl route good name pattern Insert below outs_below ranges_below = insert_fits spec i a pl route good name pattern (λ c m. in_range_below (length spec.columns) c (below c m))
plan_fits spec i a pl route good name pattern Remove below outs_below ranges_below =
    remove_fits spec i a pl name pattern (route (gather nat_cmp pattern) (all_columns spec)) (good (gather nat_cmp pattern) (all_columns spec) (λ c h. h))
plan_fits spec i a pl route good name pattern Update below outs_below ranges_below = update_fits spec i a pl route good name pattern (λ c m. in_range_below (length spec.columns) c (below c m))

pub accepted_over_good_routes : PlansOverGoodRoutesAreAccepted
accepted_over_good_routes spec i a pl route good op among =
    let fits : AreAcceptedFrom spec op (at_start spec op) (planned_by spec route op) = plan_fits spec i a pl route good op.name op.pattern op.kind among.pattern among.outs among.ranges in
    record { known = known_of_fit spec op (at_start spec op) (planned_by spec route op) fits; rules = rules_of_fit spec op (at_start spec op) (planned_by spec route op) fits }

-- ---- over the chosen routes

pub chosen_good : (spec : Spec) → IsSealed spec → (route : Routing) → ChoosesRoutes spec route → GivesGoodRoutes spec route
chosen_good spec s route chosen pattern need w = chosen_routes_are_good spec s.populated s.accepted.adequate pattern need (route pattern need) w (chosen pattern need)

pub accepted_if_planned : PlannedPlansAreAccepted
accepted_if_planned spec s op among plan planned =
    subst (IsAcceptedFor spec op) (sym planned.value)
    (accepted_over_good_routes spec s.in_range s.accepted.adequate s.accepted.placed planned.route (chosen_good spec s planned.route planned.chosen) op among)

-- a plan that is accepted for an operation of the specification is one of its number
pub plan_of_number : (spec : Spec) (number : ℕ) (plan : List Statement) → IsAcceptedFor spec (op_at spec number) plan → IsPlanOf spec number plan
plan_of_number spec number plan k = record { known = k.known; rules = k.rules }

pub planned_accepted : (spec : Spec) → IsSealed spec → (op : ℕ) → op < length spec.ops → (plan : List Statement) → IsPlanned spec (op_at spec op) plan → IsPlanOf spec op plan
planned_accepted spec s op l plan planned =
    plan_of_number spec op plan (accepted_if_planned spec s (op_at spec op) (s.in_range.known_ops (op_at spec op) (get_or_in spec.ops op no_op l)) plan planned)

-- the one way to choose routes
pub chosen_routing : (spec : Spec) → IsSealed spec → Routing
chosen_routing spec s pattern need = (has_chosen_route spec s.in_range s.populated s.accepted.adequate pattern need).0

pub routing_chooses : (spec : Spec) → (s : IsSealed spec) → ChoosesRoutes spec (chosen_routing spec s)
unfolding chosen_routing
routing_chooses spec s pattern need = (has_chosen_route spec s.in_range s.populated s.accepted.adequate pattern need).1

-- what is chosen is what a chosen routing gives
pub route_is_chosen : (spec : Spec) → IsSealed spec → (route : Routing) → ChoosesRoutes spec route → (pattern need es : List ℕ) → IsChosenRoute spec pattern need es → es ≡ route pattern need
route_is_chosen spec s route chosen pattern need es c = one_chosen_route spec s.in_range s.populated pattern need es (route pattern need) c (chosen pattern need)

same_routing : (spec : Spec) → IsSealed spec → (a b : Routing) → ChoosesRoutes spec a → ChoosesRoutes spec b → a ≡ b
same_routing spec s a b f g = λ i pattern need. route_is_chosen spec s b g pattern need (a pattern need) (f pattern need) i

pub has_planned : HasPlannedPlan
has_planned spec s op = (planned_by spec (chosen_routing spec s) op, record { route = chosen_routing spec s; chosen = routing_chooses spec s; value = refl })

pub one_planned : OnePlannedPlan
one_planned spec s op a b p q = p.value ∙ ap (λ (route : Routing). planned_by spec route op) (same_routing spec s p.route q.route p.chosen q.chosen) ∙ sym q.value
