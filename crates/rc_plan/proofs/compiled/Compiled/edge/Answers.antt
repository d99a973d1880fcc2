use Rattle.std.proofs.Common.{◌<◌, get_or, length, subst, sym, arith}
use Rattle.rc_plan.proofs.Imports.{slice_get-get_or, SpecWithPlans, IsResolvedEdge}
use Rattle.rc_plan.proofs.compiled.Compiled.edge.Goals as goal

pub returns : goal.returns
returns c =
    let count = c.self.invariant.resolved.count in
    let below = subst (λ (z : SpecWithPlans). c.args.number < length z.spec.edges) (sym c.self.view_is) c.requires in
    let there = get_or c.self.inside.edges c.args.number c.index-self-number.result in
    subst (λ (z : SpecWithPlans). IsResolvedEdge z.spec c.args.number there) c.self.view_is
    (c.self.invariant.resolved.each c.args.number there below (slice_get-get_or c.self.inside.edges c.args.number c.index-self-number.result (omega (arith, count, below))))
