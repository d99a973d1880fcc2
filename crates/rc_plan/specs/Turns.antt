-- Calls with their plans, evaluated one after another.
use Rattle.std.specs.Prelude.{List, [], ◌∷◌, Option, Some, map}
use Rattle.rc_plan.specs.Imports.{Pairs, Call, Reply, Op, Spec, FitsAt, EdgeRow, KeepsO, plain, StripeLock}
use Rattle.rc_plan.specs.declared.statement.Statement.{Statement}
use Rattle.rc_plan.specs.Compiled.{plan_at}
use Rattle.rc_plan.specs.Evaluation.{eval}
use Rattle.rc_plan.specs.PlanRules.{AreKnown, KeepsPlanRules}
use Rattle.rc_plan.specs.StripeLocks.{AreHeld}

-- a call, and the plan of its operation
pub record CallWithPlan : Type 0 where
  pub call : Call
  pub plan : List Statement

-- the call, with the plan of its operation among these
abbrev pub with_plan : List (List Statement) → Call → CallWithPlan
with_plan plans call = record { call = call; plan = plan_at plans call.op }

abbrev pub with_plans : List (List Statement) → List Call → List CallWithPlan
with_plans plans calls = map (with_plan plans) calls

-- ---- evaluation

-- the replies, where each call is evaluated on the rows that the one before leaves
abbrev pub eval_replies : Spec → List CallWithPlan → List EdgeRow → List (Option Reply)
eval_replies spec [] rows = []
eval_replies spec (x ∷ calls) rows = (eval spec x.plan x.call rows).reply ∷ eval_replies spec calls (eval spec x.plan x.call rows).rows

-- the rows that the last leaves
abbrev pub rows_after : Spec → List CallWithPlan → List EdgeRow → List EdgeRow
rows_after spec [] rows = rows
rows_after spec (x ∷ calls) rows = rows_after spec calls (eval spec x.plan x.call rows).rows

-- each stripe that an evaluation names is held
abbrev pub AllAreHeld : Spec → List CallWithPlan → List EdgeRow → List StripeLock → Type 0
AllAreHeld spec [] rows held = Unit {0}
AllAreHeld spec (x ∷ calls) rows held = AreHeld (eval spec x.plan x.call rows).named held × AllAreHeld spec calls (eval spec x.plan x.call rows).rows held

-- ---- on a relation

-- the replies of the plain relation, where each call steps from the relation that the one before leaves
abbrev pub plain_replies : Spec → List CallWithPlan → List Pairs → List (Option Reply)
plain_replies spec [] r = []
plain_replies spec (x ∷ calls) r = Some (plain spec r x.call).reply ∷ plain_replies spec calls (plain spec r x.call).relation

-- the relation that the last leaves
abbrev pub relation_after : Spec → List CallWithPlan → List Pairs → List Pairs
relation_after spec [] r = r
relation_after spec (x ∷ calls) r = relation_after spec calls (plain spec r x.call).relation

-- ---- accepted plans

-- the call fits an operation that keeps its rules, and the plan keeps K1 to K7 for it
pub record HasAcceptedPlan (spec : Spec) (x : CallWithPlan) : Type 0 where
  pub op : Op
  pub fits : FitsAt spec x.call op
  pub keeps : KeepsO spec op
  pub known : AreKnown spec x.plan
  pub rules : KeepsPlanRules spec op x.plan
