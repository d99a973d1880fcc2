use Rattle.std.proofs.Common.{◌==◌, rules, tests}
use Rattle.rc_place.proofs.Imports.{YieldsList-from_slice, any_from_yields_List, Edge}
use Rattle.rc_place.proofs.AdequacyLemmas.{reached_test}
use Rattle.rc_place.proofs.adequacy.is_reached.Goals as goal

pub returns-else-node-eq0 : goal.returns-else-node-eq0
returns-else-node-eq0 c =
    reached_test c.args.edges.now c.args.node c.any.result c.if-node-eq0.false
    (any_from_yields_List (λ (e : Edge). e.to == c.args.node) _ _ _ c.any.ensures.ran (YieldsList-from_slice c.args.edges.now cc) (λ x b q k. search (rules, tests)))
