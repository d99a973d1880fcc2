use Rattle.rc_route.proofs.Imports.{ℕ, suc, List, sym, subst, Spec, IsGoodRoute, all_edges, IsPass, IsPrunedWalk, passes_more, walks_are_good}
use Rattle.rc_route.proofs.walk.pruned_walk.Goals as goal

pub loop-fewer-preserved : goal.loop-fewer-preserved
loop-fewer-preserved c =
    let spec = c.spec-spec.result.now in
    let old : List ℕ = c.loop-fewer.walk.items in
    let new : List ℕ = c.leave_out-fewer.new.edges.items in
    let passes = c.loop-fewer.invariant.passes in
    record {
      passes = (suc passes.0, passes_more (IsGoodRoute spec c.args.need) passes.0 (all_edges spec) old new passes.1 c.leave_out-fewer.ensures.pass);
      last = λ e. subst (λ z. IsPass (IsGoodRoute spec c.args.need) z new) (sym (c.leave_out-fewer.ensures.same e)) c.leave_out-fewer.ensures.pass;
    }

pub returns-clause-good : goal.returns-clause-good
returns-clause-good c =
    let walk : List ℕ = c.loop-fewer.walk.items in
    let here : IsPrunedWalk c.spec-spec.result.now c.args.need walk = record { passes = c.loop-fewer.invariant.passes; last = c.loop-fewer.invariant.last c.loop-fewer-test.false } in
    let pruned : IsPrunedWalk c.args.accepted.now c.args.need walk = subst (λ (s : Spec). IsPrunedWalk s c.args.need walk) c.spec-spec.ensures.value here in
    subst (IsGoodRoute c.args.accepted.now c.args.need) (sym c.from_vec.ensures)
    (walks_are_good c.args.accepted.now c.spec-spec.ensures.sealed.accepted.adequate c.args.need walk c.requires.known pruned)
