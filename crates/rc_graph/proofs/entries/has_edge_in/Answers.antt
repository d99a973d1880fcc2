use Rattle.std.proofs.Common.{◌==◌, rules, tests}
use Rattle.rc_graph.proofs.Imports.{YieldsList-from_slice, any_from_yields_List, Edge}
use Rattle.rc_graph.proofs.EdgeLemmas.{some_has}
use Rattle.rc_graph.proofs.entries.has_edge_in.Goals as goal

pub returns : goal.returns
returns c =
    some_has (λ (e : Edge). e.to) c.args.spec.now.edges c.args.node c.any.result
    (any_from_yields_List (λ (e : Edge). e.to == c.args.node) _ _ _ c.any.ensures.ran (YieldsList-from_slice c.args.spec.now.edges cc) (λ x b q k. search (rules, tests)))
