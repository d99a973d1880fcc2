use Rattle.std.proofs.Common.{take, arith, ◌∙◌}
use Rattle.rc_maps.proofs.Imports.{values_in, items_in, pushed_all, pushed_next, kept_before, on_err}
use Rattle.rc_maps.proofs.blocks.push_blocks.Goals as goal

pub loop-block-preserved : goal.loop-block-preserved
loop-block-preserved g c =
    pushed_next c.args.out.now.items c.loop-block.out.items c.scan.new.out.items c.args.blocks.now c.loop-block.block-index c.block-item.result
    c.loop-block.invariant c.in_ok-scan.ensures.ok c.loop-block-test.true c.block-item.is

pub returns-clause-ok : goal.returns-clause-ok
returns-clause-ok g c =
    let last = c.loop-block-test.false in
    pushed_all c.args.out.now.items c.loop-block.out.items c.args.blocks.now c.loop-block.block-index c.loop-block.invariant
    (omega (arith, last)) c.requires

pub returns-in_err-scan-clause-err : goal.returns-in_err-scan-clause-err
returns-in_err-scan-clause-err g c =
    on_err c.from_residual.result
    (kept_before c.args.out.now.items (values_in (items_in (take c.loop-block.block-index c.args.blocks.now))) c.scan.new.out.items
    (c.in_err-scan.ensures.err ∙ c.loop-block.invariant))
