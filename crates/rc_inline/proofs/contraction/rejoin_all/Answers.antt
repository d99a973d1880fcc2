use Rattle.std.proofs.Common.{◌∙◌, ap, set, sym}
use Rattle.rc_inline.proofs.Imports.{map_over_more, rejoined}
use Rattle.rc_inline.proofs.contraction.rejoin_all.Goals as goal

pub loop-edge-preserved : goal.loop-edge-preserved
loop-edge-preserved c =
    let all = c.loop-edge.edges in
    let at = c.loop-edge.edge-index in
    ap (set all at) (c.rejoin.ensures ∙ ap (rejoined c.args.gone.now) (sym c.edge-item.is))
    ∙ map_over_more (rejoined c.args.gone.now) c.args.edges.now all at c.edge-item.result c.loop-edge-test.true c.loop-edge.invariant c.edge-item.is
