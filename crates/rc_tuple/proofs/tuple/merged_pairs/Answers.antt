use Rattle.std.proofs.Common.{sym, ◌∙◌, ◌++◌, ap, arith, subst, take}
use Rattle.rc_tuple.proofs.Imports.{IsRising, put, rising_gather, pair_cmp, merge_more, merge_none, pair_order}
use Rattle.rc_tuple.proofs.tuple.merged_pairs.Goals as goal

pub loop-pair-init : goal.loop-pair-init
loop-pair-init c = c.in_ok-all.ensures.items ∙ sym (merge_none c.args.pairs.now c.requires)

pub loop-pair-preserved : goal.loop-pair-preserved
loop-pair-preserved c =
    c.in_ok-put_pair.ensures.ok ∙ ap (put pair_cmp _) c.loop-pair.invariant
    ∙ sym (merge_more c.args.pairs.now c.args.others.now c.loop-pair.pair-index (0, 0) (omega arith))

pub put_pair-requires : goal.put_pair-requires
put_pair-requires c =
    subst (IsRising pair_cmp) (sym c.loop-pair.invariant)
    (rising_gather pair_cmp pair_order (c.args.pairs.now ++ take c.loop-pair.pair-index c.args.others.now))
