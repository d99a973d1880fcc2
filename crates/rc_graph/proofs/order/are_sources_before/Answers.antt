use Rattle.std.proofs.Common.{◌==◌, ◌||◌, not, rules, tests}
use Rattle.rc_graph.proofs.Imports.{YieldsList-from_slice, all_from_yields_List, has, Edge}
use Rattle.rc_graph.proofs.EdgeLemmas.{all_begin_in}
use Rattle.rc_graph.proofs.order.are_sources_before.Goals as goal

pub returns : goal.returns
returns c =
    all_begin_in c.args.spec.now.edges c.args.before c.args.node c.all.result
    (all_from_yields_List (λ (e : Edge). not (e.to == c.args.node) || has c.args.before e.from) _ _ _ c.all.ensures.ran (YieldsList-from_slice c.args.spec.now.edges cc) (λ x b q k. search (rules, tests)))
