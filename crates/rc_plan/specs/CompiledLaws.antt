-- The laws of accepted plans, over an accepted specification with its plans.
use Rattle.std.specs.Prelude.{◌≡◌, ◌<◌, List, length}
use Rattle.std.proofs.Common.{sym, subst}
use Rattle.std.proofs.lemmas.Option.{slice_get_within}
use Rattle.rc_plan.specs.Imports.{IsRelation, Satisfies, In, in_map, each_in, Pairs, Call, Spec, IsSealed, Fits, all_columns, fits_at_op, rows_on, op_at, StripeLock}
use Rattle.rc_plan.specs.declared.statement.Statement.{Statement}
use Rattle.rc_plan.specs.Compiled.{IsPlanOf, SpecWithPlans, IsCompiled, plan_at}
use Rattle.rc_plan.specs.Evaluation.{eval}
use Rattle.rc_plan.specs.Laws.{CompiledPlansServe, CompiledPlansServeInTurn, Serves}
use Rattle.rc_plan.specs.ServeLaws.{plans_law, plans_in_turn_law}
use Rattle.rc_plan.specs.StripeLocks.{AreHeld, stripes_of}
use Rattle.rc_plan.specs.Turns.{HasAcceptedPlan, with_plan, with_plans}

known_op : (spec : Spec) (call : Call) → Fits spec call → call.op < length spec.ops
known_op spec call fits = slice_get_within spec.ops call.op fits.0 fits.1.known

-- a call that fits, with a plan of its operation
pub plan_accepted : (spec : Spec) → IsSealed spec → (call : Call) → Fits spec call → (plan : List Statement) → IsPlanOf spec call.op plan
    → HasAcceptedPlan spec (record { call = call; plan = plan })
plan_accepted spec sealed call fits plan is = record {
  op = op_at spec call.op;
  fits = fits_at_op spec call fits;
  keeps = sealed.accepted.ops call.op (known_op spec call fits);
  known = is.known;
  rules = is.rules;
}

-- with the operation's own
pub own_plan_accepted : (c : SpecWithPlans) → IsCompiled c.spec c.plans → (call : Call) → Fits c.spec call → HasAcceptedPlan c.spec (with_plan c.plans call)
own_plan_accepted c ok call fits =
    plan_accepted c.spec ok.sealed call fits (plan_at c.plans call.op) (ok.planned.each call.op (known_op c.spec call fits))

-- it serves the call
pub plan_serves : (spec : Spec) → IsSealed spec → (call : Call) → Fits spec call → (plan : List Statement) → IsPlanOf spec call.op plan
    → (r : List Pairs) → IsRelation (all_columns spec) r → Satisfies r spec.deps
    → (held : List StripeLock) → AreHeld (eval spec plan call (rows_on spec r (stripes_of held))).named held → Serves spec plan call r held
plan_serves spec sealed call fits plan is =
    let p : HasAcceptedPlan spec (record { call = call; plan = plan }) = plan_accepted spec sealed call fits plan is in
    plans_law spec sealed.in_range sealed.populated sealed.accepted.adequate sealed.accepted.placed call p.op p.fits p.keeps plan p.known p.rules

pub compiled_law : CompiledPlansServe
compiled_law c ok call fits = plan_serves c.spec ok.sealed call fits (plan_at c.plans call.op) (ok.planned.each call.op (known_op c.spec call fits))

pub compiled_in_turn_law : CompiledPlansServeInTurn
compiled_in_turn_law c ok calls fit =
    plans_in_turn_law c.spec ok.sealed.in_range ok.sealed.populated ok.sealed.accepted.adequate ok.sealed.accepted.placed (with_plans c.plans calls)
    (λ x m. let q : (call : Call) × In call calls × (x ≡ with_plan c.plans call) = in_map (with_plan c.plans) x calls m in
    subst (HasAcceptedPlan c.spec) (sym q.2) (own_plan_accepted c ok q.0 (each_in (Fits c.spec) calls fit q.0 q.1)))
