-- The law of accepted plans, and the law of their rules, each named by the contract of a function.
use Rattle.std.specs.Prelude.{◌≡◌, ℕ, ◌<◌, ◌↔◌, List, Some, take}
use Rattle.rc_plan.specs.Imports.{slice_get, AllByRecursion, IsRelation, Satisfies, In, Pairs, Call, Op, Mode, Exclusive, Spec, IsAdequate, all_columns, FitsAt, Fits, EachHolds, EdgeRow, tuples_of_edge, row_stripe, on_stripes, rows_on, fragment_of, IsInRange, HasColumnAndNode, IsPlaced, KeepsO, plain, StripeLock}
use Rattle.rc_plan.specs.declared.refusal.PlanRefusal.{PlanRefusal}
use Rattle.rc_plan.specs.declared.statement.ReadMode.{ReadMode}
use Rattle.rc_plan.specs.declared.statement.Statement.{Statement}
use Rattle.rc_plan.specs.declared.statement.Statement.TheVariants.{Lock, Read}
use Rattle.rc_plan.specs.declared.statement.Which.{Which}
use Rattle.rc_plan.specs.Compiled.{SpecWithPlans, IsCompiled, plan_at}
use Rattle.rc_plan.specs.Evaluation.{stripes_locked, begun, run, eval, touched, rows_as_taken}
use Rattle.rc_plan.specs.NamedStripes.{IsNamedBy}
use Rattle.rc_plan.specs.PlanRules.{AreKnown, KeepsPlanRules, IsKeptInPlan, plan_checks, IsFirstBrokenPlanRule}
use Rattle.rc_plan.specs.StripeLocks.{stripes_of, AreHeld}
use Rattle.rc_plan.specs.Turns.{AllAreHeld, CallWithPlan, HasAcceptedPlan, eval_replies, plain_replies, relation_after, rows_after, with_plans}

-- ---- one call

-- Evaluation of the plan on the rows of the held stripes does what the plain step does to the relation, and touches what it touches on all rows. The reply taken back gives the rows before. A stripe that isn't named Exclusive keeps its rows.
pub record Serves (spec : Spec) (plan : List Statement) (call : Call) (r : List Pairs) (held : List StripeLock) : Type 0 where
  pub reply : (eval spec plan call (rows_on spec r (stripes_of held))).reply ≡ Some (plain spec r call).reply
  pub named : (eval spec plan call (rows_on spec r (stripes_of held))).named ≡ touched spec plan call r
  pub rows : (eval spec plan call (rows_on spec r (stripes_of held))).rows ≡ rows_on spec (plain spec r call).relation (stripes_of held)
  pub taken : rows_as_taken spec call.args (plain spec r call).reply (rows_on spec (plain spec r call).relation (stripes_of held)) ≡ rows_on spec r (stripes_of held)
  pub others : (stripe : ℕ) → (In (stripe, Exclusive) (eval spec plan call (rows_on spec r (stripes_of held))).named → ⊥) → fragment_of spec (plain spec r call).relation stripe ≡ fragment_of spec r stripe

-- The law of accepted plans: over an adequate and well placed specification, a plan that keeps its rules serves each call that fits, on each relation that satisfies the dependencies, and with each set of held stripes among which are those that it names.
abbrev pub AcceptedPlansServe : Type 0
AcceptedPlansServe = (spec : Spec) → IsInRange spec → HasColumnAndNode spec → IsAdequate spec → IsPlaced spec
    → (call : Call) (op : Op) → FitsAt spec call op → KeepsO spec op
    → (plan : List Statement) → AreKnown spec plan → KeepsPlanRules spec op plan
    → (r : List Pairs) → IsRelation (all_columns spec) r → Satisfies r spec.deps
    → (held : List StripeLock) → AreHeld (eval spec plan call (rows_on spec r (stripes_of held))).named held
    → Serves spec plan call r held

-- ---- calls one after another

pub record AllServe (spec : Spec) (calls : List CallWithPlan) (r : List Pairs) (held : List StripeLock) : Type 0 where
  pub replies : eval_replies spec calls (rows_on spec r (stripes_of held)) ≡ plain_replies spec calls r
  pub rows : rows_after spec calls (rows_on spec r (stripes_of held)) ≡ rows_on spec (relation_after spec calls r) (stripes_of held)
  pub relation : IsRelation (all_columns spec) (relation_after spec calls r)
  pub satisfies : Satisfies (relation_after spec calls r) spec.deps
  pub others : (stripe : ℕ) → (In (stripe, Exclusive) held → ⊥) → fragment_of spec (relation_after spec calls r) stripe ≡ fragment_of spec r stripe

-- Calls evaluated one after another over one set of held stripes reply as the plain relation does, and leave its rows; a stripe that isn't held Exclusive keeps its rows.
abbrev pub AcceptedPlansServeInTurn : Type 0
AcceptedPlansServeInTurn = (spec : Spec) → IsInRange spec → HasColumnAndNode spec → IsAdequate spec → IsPlaced spec
    → (calls : List CallWithPlan) → ((x : CallWithPlan) → In x calls → HasAcceptedPlan spec x)
    → (r : List Pairs) → IsRelation (all_columns spec) r → Satisfies r spec.deps
    → (held : List StripeLock) → AllAreHeld spec calls (rows_on spec r (stripes_of held)) held
    → AllServe spec calls r held

-- ---- over a specification with its plans

-- The law of accepted plans, where the specification is accepted and the plan is the operation's own.
abbrev pub CompiledPlansServe : Type 0
CompiledPlansServe = (c : SpecWithPlans) → IsCompiled c.spec c.plans → (call : Call) → Fits c.spec call
    → (r : List Pairs) → IsRelation (all_columns c.spec) r → Satisfies r c.spec.deps
    → (held : List StripeLock) → AreHeld (eval c.spec (plan_at c.plans call.op) call (rows_on c.spec r (stripes_of held))).named held
    → Serves c.spec (plan_at c.plans call.op) call r held

-- The same for calls one after another.
abbrev pub CompiledPlansServeInTurn : Type 0
CompiledPlansServeInTurn = (c : SpecWithPlans) → IsCompiled c.spec c.plans → (calls : List Call) → AllByRecursion (Fits c.spec) calls
    → (r : List Pairs) → IsRelation (all_columns c.spec) r → Satisfies r c.spec.deps
    → (held : List StripeLock) → AllAreHeld c.spec (with_plans c.plans calls) (rows_on c.spec r (stripes_of held)) held
    → AllServe c.spec (with_plans c.plans calls) r held

-- ---- the order of locks

-- Locks rise: each stripe that a Lock takes is above those named before it.
abbrev pub LocksRise : Type 0
LocksRise = (spec : Spec) → IsPlaced spec → (op : Op) (plan : List Statement) → AreKnown spec plan → KeepsPlanRules spec op plan
    → (n c : ℕ) (choice : Which) (mode : Mode) → slice_get plan n ≡ Some (Lock c choice mode)
    → (call : Call) (taken : List EdgeRow) (before stripe : ℕ)
    → In before (stripes_of (run spec op call (take n plan) (begun call taken)).named)
    → In stripe (stripes_locked spec c choice (run spec op call (take n plan) (begun call taken)).bindings)
    → before < stripe

-- Reads are early: of rows that all fall on stripes that a run names in the end, those of an edge fall on stripes named before the edge is read.
abbrev pub ReadsAreEarly : Type 0
ReadsAreEarly = (spec : Spec) → IsInRange spec → IsPlaced spec → (op : Op) (plan : List Statement) → AreKnown spec plan → KeepsPlanRules spec op plan
    → (n e : ℕ) (mode : ReadMode) → slice_get plan n ≡ Some (Read e mode)
    → (call : Call) (taken rows : List EdgeRow)
    → ((row : EdgeRow) → In row rows → In (row_stripe spec row) (stripes_of (run spec op call plan (begun call taken)).named))
    → tuples_of_edge e (on_stripes spec (stripes_of (run spec op call (take n plan) (begun call taken)).named) rows) ≡ tuples_of_edge e rows

-- ---- the stripes that are named

-- Each stripe that evaluation names, on any rows, is of a class that the plan locks, in that Lock's mode. It is the arguments' stripe where the
-- Lock takes those of the bindings and the arguments have the columns that choose one.
abbrev pub NamedStripesAreLocked : Type 0
NamedStripesAreLocked = (spec : Spec) → IsPlaced spec → (call : Call) (op : Op) → FitsAt spec call op
    → (plan : List Statement) → AreKnown spec plan → KeepsPlanRules spec op plan
    → (rows : List EdgeRow) (lock : StripeLock) → In lock (eval spec plan call rows).named → IsNamedBy spec call.args plan lock

-- ---- rules

-- each check of the list holds exactly where the plan keeps the rules
abbrev pub PlanChecksAreRules : Type 0
PlanChecksAreRules = (spec : Spec) (op : Op) (plan : List Statement) → EachHolds (IsKeptInPlan spec op plan) (plan_checks plan) ↔ KeepsPlanRules spec op plan

abbrev pub RefusedPlansBreakRules : Type 0
RefusedPlansBreakRules = (spec : Spec) (op : Op) (plan : List Statement) (refusal : PlanRefusal) → IsFirstBrokenPlanRule spec op plan refusal → KeepsPlanRules spec op plan → ⊥

-- one refusal at most is the first
abbrev pub OneFirstBrokenPlanRule : Type 0
OneFirstBrokenPlanRule = (spec : Spec) (op : Op) (plan : List Statement) (a b : PlanRefusal) → IsFirstBrokenPlanRule spec op plan a → IsFirstBrokenPlanRule spec op plan b → a ≡ b
