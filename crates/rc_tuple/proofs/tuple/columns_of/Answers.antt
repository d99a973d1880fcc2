use Rattle.std.proofs.Common.{arith, get_or, ap, ◌∙◌, sym}
use Rattle.rc_tuple.proofs.Imports.{nat_cmp, put, get_or_in, columns_more}
use Rattle.rc_tuple.proofs.tuple.columns_of.Goals as goal

pub with-cols-requires : goal.with-cols-requires
with-cols-requires c = c.requires (get_or c.args.pairs.now c.loop-pair.pair-index (0, 0)) (get_or_in c.args.pairs.now c.loop-pair.pair-index (0, 0) (omega arith))

pub loop-pair-preserved : goal.loop-pair-preserved
loop-pair-preserved c =
    c.with-cols.ensures.value ∙ ap (put nat_cmp (get_or c.args.pairs.now c.loop-pair.pair-index (0, 0)).0) c.loop-pair.invariant
    ∙ sym (columns_more c.args.pairs.now c.loop-pair.pair-index (0, 0) (omega arith))
