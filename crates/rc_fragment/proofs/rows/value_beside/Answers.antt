use Rattle.std.proofs.Common.{◌<◌, length, ap, slice_index_or, ◌∙◌, arith}
use Rattle.rc_tuple.specs.ColSet.{rank}
use Rattle.rc_fragment.proofs.BesideLemmas.{at_rank, rank_less}
use Rattle.rc_fragment.proofs.rows.value_beside.Goals as goal

pub rank-requires : goal.rank-requires
rank-requires c = let b : c.args.col < 32 = c.requires.set.below c.args.col c.requires.there in omega arith

pub bounds-values-rank : goal.bounds-values-rank
bounds-values-rank c =
    let b : rank c.args.cols c.args.col < length c.args.cols = rank_less c.args.cols c.args.col c.requires.set c.requires.there in
    omega (arith, b, c.rank.ensures.value, c.requires.fits)

pub returns : goal.returns
returns c =
    ap (λ n. slice_index_or c.args.values.now n 0) c.rank.ensures.value
    ∙ at_rank c.args.cols c.args.values.now c.args.col c.requires.set c.requires.there c.requires.fits
