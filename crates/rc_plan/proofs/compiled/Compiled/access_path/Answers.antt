use Rattle.std.proofs.Common.{◌<◌, None, length, subst, sym}
use Rattle.rc_plan.proofs.Imports.{op_at, HasNoPath, IsPathOf, SpecWithPlans, plan_at}
use Rattle.rc_plan.proofs.ResolvedLemmas.{at_number}
use Rattle.rc_plan.proofs.compiled.Compiled.access_path.Goals as goal

pub returns-clause-none : goal.returns-clause-none
returns-clause-none c =
    let op = c.args.op in
    let spec = c.self.inside.accepted in
    let plans = c.self.inside.plans.items in
    let below = subst (λ (z : SpecWithPlans). op < length z.spec.ops) (sym c.self.view_is) c.requires in
    let path = at_number (λ n path. IsPathOf spec (op_at spec n) (plan_at plans n) path) c.self.inside.paths (length spec.ops) op None c.self.invariant.answered below in
    λ e. subst (λ (z : SpecWithPlans). HasNoPath z.spec (op_at z.spec op) (plan_at z.plans op)) c.self.view_is (path.none e)
