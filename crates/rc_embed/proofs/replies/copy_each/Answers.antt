use Rattle.std.proofs.Common.{◌<◌, length, arith}
use Rattle.rc_embed.proofs.RowsLemmas.{one_row_more}
use Rattle.rc_embed.proofs.replies.copy_each.Goals as goal

pub loop-at-preserved : goal.loop-at-preserved
loop-at-preserved c =
    let is = c.loop-at.invariant in
    let copied = c.in-Some.ensures in
    let below : c.loop-at.at < length c.args.rows.now = omega arith in
    one_row_more c.args.rows.now c.args.from c.loop-at.at c.loop-at.count c.loop-at.filled c.in-Some.end c.row.result.now c.args.out.now c.loop-at.out c.copy_at.new.out
    is.place below c.row.ensures is.so_far is.within is.values copied.0 copied.1 copied.2 is.left
