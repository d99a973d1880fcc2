use Rattle.std.proofs.Common.{take, ◌++◌, ◌∷◌, [], arith, sym, ap, ◌∙◌}
use Rattle.std.proofs.lemmas.List.{take_all, take_more}
use Rattle.rc_maps.proofs.blocks.copies.Goals as goal

pub loop-block-preserved : goal.loop-block-preserved
loop-block-preserved g c =
    let blocks = c.args.blocks.now in
    let n = c.loop-block.block-index in
    let copy = c.in_ok-copy.field-0 in
    c.in_ok-push.ensures.items ∙ ap (λ z. z ++ copy ∷ []) c.loop-block.invariant
    ∙ ap (λ z. take n blocks ++ z ∷ []) (c.in_ok-copy.ensures ∙ c.block-item.is)
    ∙ sym (take_more blocks n c.block-item.result c.loop-block-test.true)

pub returns : goal.returns
returns g c =
    let last = c.loop-block-test.false in
    c.loop-block.invariant ∙ take_all c.loop-block.block-index c.args.blocks.now (omega (arith, last))
