use Rattle.std.proofs.Common.{◌≡◌, length, ap, subst, ◌∙◌, arith}
use Rattle.rc_plan.proofs.Imports.{length-set, Spec, IsResolvedEdge, AllBelow}
use Rattle.rc_plan.proofs.ResolvedLemmas.{one_more}
use Rattle.rc_plan.proofs.resolved.resolve_edges.Goals as goal

pub loop-edge-preserved : goal.loop-edge-preserved
loop-edge-preserved c =
    let edges = c.loop-edge.edges in
    let edge = c.loop-edge.edge in
    let room = c.loop-edge.invariant.room in
    let test = c.loop-edge-test.true in
    let few = c.spec-spec.ensures.sealed.in_range.edges in
    let all = ap length c.list.ensures ∙ ap (λ (s : Spec). length s.edges) c.spec-spec.ensures.value in
    record {
      room = length-set edges edge c.of.result ∙ room;
      stand = one_more (IsResolvedEdge c.args.accepted.now) edges edge c.of.result (omega (arith, test, all, few, room)) c.loop-edge.invariant.stand
          (subst (λ (s : Spec). IsResolvedEdge s edge c.of.result) c.spec-spec.ensures.value c.of.ensures);
    }

pub returns : goal.returns
returns c =
    let all : length c.list.result.now ≡ length c.args.accepted.now.edges = ap length c.list.ensures ∙ ap (λ (s : Spec). length s.edges) c.spec-spec.ensures.value in
    let end = c.loop-edge.auto.edge-end in
    let test = c.loop-edge-test.false in
    subst (λ n. AllBelow (IsResolvedEdge c.args.accepted.now) n c.loop-edge.edges) (omega (arith, all, end, test)) c.loop-edge.invariant.stand
