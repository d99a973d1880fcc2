use Rattle.rc_spec.proofs.Imports.{length, subst, Edge, no_edge, at_found, edge_among, IsEdgeAmong}
use Rattle.rc_spec.proofs.spec.Spec.edge.Goals as goal

pub returns-clause-known : goal.returns-clause-known
returns-clause-known c = λ range.
    subst (λ (x : Edge). IsEdgeAmong (length c.args.self.now.nodes) (length c.args.self.now.columns) x)
    (at_found c.list.result.now c.args.self.now.edges c.args.number no_edge c.index-list-number.result c.list.ensures c.requires c.index-list-number.is)
    (edge_among c.args.self.now c.args.number range c.requires)
