use Rattle.std.proofs.Common.{◌≡◌, length, slice_index_or, slice_set, ap, ◌∙◌, arith}
use Rattle.rc_tuple.specs.Tuple.{Pairs}
use Rattle.rc_embed.proofs.CopyLemmas.{one_more}
use Rattle.rc_embed.proofs.replies.copy_tuple.Goals as goal

pub loop-at-preserved : goal.loop-at-preserved
loop-at-preserved c =
    let t = c.args.tuple.now in
    let same : length c.pairs-pairs.result.now ≡ length t = ap (λ (ps : Pairs). length ps) c.pairs-pairs.ensures.pairs in
    let fits = c.if-pairs-out.false in
    let below = c.loop-at-test.true in
    ap (λ (ps : Pairs). slice_set c.loop-at.out c.loop-at.at (slice_index_or ps c.loop-at.at (0, 0)).1) c.pairs-pairs.ensures.pairs
    ∙ one_more t c.args.out.now c.loop-at.out c.loop-at.at (omega arith) (omega arith) c.loop-at.invariant
