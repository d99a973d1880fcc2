use Rattle.std.proofs.Common.{◌++◌, arith, sym, ap, ◌∙◌, subst}
use Rattle.std.specs.FinMap as fin
use Rattle.rc_maps.proofs.Imports.{IsKeyed, first_items, joined_all, next_block}
use Rattle.rc_maps.proofs.blocks.joined.Goals as goal

pub loop-block-init : goal.loop-block-init
loop-block-init g c =
    ap fin.entries c.in_ok-joined.ensures ∙ first_items c.args.blocks.now c.index-blocks-0.result c.requires.some c.index-blocks-0.is

pub append-requires : goal.append-requires
append-requires g c = (
  omega arith,
  subst (λ z. IsKeyed (z ++ fin.entries c.block-item.result)) (sym c.loop-block.invariant)
      (next_block c.args.blocks.now c.loop-block.block-index c.block-item.result c.requires.keyed c.loop-block-test.true c.block-item.is).keyed,
)

pub loop-block-preserved : goal.loop-block-preserved
loop-block-preserved g c =
    c.in_ok-append.ensures.ok ∙ ap (λ z. z ++ fin.entries c.block-item.result) c.loop-block.invariant
    ∙ sym (next_block c.args.blocks.now c.loop-block.block-index c.block-item.result c.requires.keyed c.loop-block-test.true c.block-item.is).items

pub returns : goal.returns
returns g c =
    let last = c.loop-block-test.false in
    joined_all c.args.blocks.now c.loop-block.block-index c.loop-block.joined (omega (arith, last)) c.loop-block.invariant
