use Rattle.rc_embed.proofs.RowsLemmas.{AreCopiedSo}
use Rattle.rc_embed.proofs.replies.copy_each.Given as goal

abbrev pub invariant-loop-at : goal.invariant-loop-at
invariant-loop-at l = AreCopiedSo l.rows l.from l.fn.out l.at l.count l.filled l.out
