use Rattle.std.proofs.Common.{◌<◌, length, subst, sym, ap, ◌∙◌, arith}
use Rattle.rc_plan.proofs.Imports.{minus, union, Edge, bound, edge_among, class_of_known, placed_total, band_start}
use Rattle.rc_plan.proofs.resolved.ResolvedEdge.of.Goals as goal

pub bound-source-requires : goal.bound-source-requires
bound-source-requires c = subst (λ (z : Edge). z.from < length c.args.spec.now.nodes) (sym c.edge-found.ensures.value) (edge_among c.args.spec.now c.args.edge c.requires.sealed.in_range c.requires.known).from

pub bound-target-requires : goal.bound-target-requires
bound-target-requires c = subst (λ (z : Edge). z.to < length c.args.spec.now.nodes) (sym c.edge-found.ensures.value) (edge_among c.args.spec.now c.args.edge c.requires.sealed.in_range c.requires.known).to

pub band_start-requires-clause-known : goal.band_start-requires-clause-known
band_start-requires-clause-known c =
    subst (λ z. z < length c.args.spec.now.classes) (sym c.class_of-class.ensures)
    (class_of_known c.args.spec.now c.args.edge c.requires.sealed.in_range (c.requires.sealed.accepted.placed.p1 c.args.edge c.requires.known))

pub band_start-requires-clause-few : goal.band_start-requires-clause-few
band_start-requires-clause-few c = placed_total c.args.spec.now c.requires.sealed.accepted.placed

pub returns : goal.returns
returns c = record {
  class = c.class_of-class.ensures;
  start = c.band_start.ensures ∙ ap (band_start c.args.spec.now) c.class_of-class.ensures;
  source = c.bound-source.ensures ∙ ap (λ (z : Edge). bound c.args.spec.now z.from) c.edge-found.ensures.value;
  key = ap (λ (z : Edge). z.key) c.edge-found.ensures.value;
  target = c.bound-target.ensures ∙ ap (λ (z : Edge). bound c.args.spec.now z.to) c.edge-found.ensures.value;
  extra = c.minus-extra.ensures.value ∙ ap (λ z. minus z c.union.result) c.bound-target.ensures
      ∙ ap (minus (bound c.args.spec.now c.edge-found.result.now.to)) (c.union.ensures.value ∙ ap (λ z. union z c.edge-found.result.now.key) c.bound-source.ensures)
      ∙ ap (λ (z : Edge). minus (bound c.args.spec.now z.to) (union (bound c.args.spec.now z.from) z.key)) c.edge-found.ensures.value;
  keys = c.len.ensures.value;
  extras = c.len-2.ensures.value;
  few = let k = c.len.ensures.bound in let x = c.len-2.ensures.bound in omega (arith, k, x);
}
