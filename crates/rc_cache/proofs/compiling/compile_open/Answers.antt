use Rattle.std.proofs.Common.{◌<◌, ℕ, List, length, ap, subst, sym}
use Rattle.rc_spec.specs.declared.items.Op.{Op}
use Rattle.rc_spec.specs.declared.spec.Spec.{Spec}
use Rattle.rc_spec.specs.Placement.{op_at}
use Rattle.rc_plan.specs.declared.statement.Statement.{Statement}
use Rattle.rc_plan.specs.Compiled.{ArePlansOf, SpecWithPlans, plan_at}
use Rattle.rc_query.specs.Planned.{IsPlanned}
use Rattle.rc_work.specs.Shapes.{with_operations}
use Rattle.rc_cache.specs.Extended.{HaveAllPlans}
use Rattle.rc_cache.specs.ExtendedLaws.{plans_are_accepted, plans_are_planned}
use Rattle.rc_cache.proofs.compiling.compile_open.Goals as goal

pub seal-requires : goal.seal-requires
seal-requires g c =
    let have : HaveAllPlans c.args.base c.args.ops c.in_ok-plans.plans.items =
    subst (λ (ops : List Op). HaveAllPlans c.args.base ops c.in_ok-plans.plans.items) c.list.ensures c.in_ok-plans.ensures in
    subst (λ (s : Spec). ArePlansOf s c.in_ok-plans.plans.items) (sym c.in_ok-accepted.ensures)
    (plans_are_accepted c.args.base c.args.ops c.in_ok-plans.plans.items have)

pub returns-clause-planned : goal.returns-clause-planned
returns-clause-planned g c =
    let have : HaveAllPlans c.args.base c.args.ops c.in_ok-plans.plans.items =
    subst (λ (ops : List Op). HaveAllPlans c.args.base ops c.in_ok-plans.plans.items) c.list.ensures c.in_ok-plans.ensures in
    subst (λ (plans : List (List Statement)). (op : ℕ) → op < length (with_operations c.args.base c.args.ops).ops
    → IsPlanned (with_operations c.args.base c.args.ops) (op_at (with_operations c.args.base c.args.ops) op) (plan_at plans op))
    (sym (ap (λ (x : SpecWithPlans). x.plans) c.seal.ensures))
    (plans_are_planned c.args.base c.args.ops c.in_ok-plans.plans.items have)
