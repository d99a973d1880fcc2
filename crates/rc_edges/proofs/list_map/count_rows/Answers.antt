use Rattle.std.proofs.Common.{◌+◌, ◌≡◌, Some, None, take, arith}
use Rattle.rc_edges.proofs.Imports.{count_in, count_next}
use Rattle.rc_edges.proofs.list_map.count_rows.Goals as goal

pub loop-item-preserved-in_default : goal.loop-item-preserved-in_default
loop-item-preserved-in_default c =
    let so_far = count_in (take c.loop-item.item-index c.args.items.now) in
    let e : count_in (take (c.loop-item.item-index + 1) c.args.items.now) ≡ so_far + 0 =
    count_next c.args.items.now c.loop-item.item-index c.item-item.result None c.loop-item-test.true c.item-item.is c.in_default.ensures in
    let h : c.loop-item.count ≡ so_far = c.loop-item.invariant.0 in
    (omega arith, omega arith)

pub loop-item-preserved : goal.loop-item-preserved
loop-item-preserved c =
    let so_far = count_in (take c.loop-item.item-index c.args.items.now) in
    let e : count_in (take (c.loop-item.item-index + 1) c.args.items.now) ≡ so_far + 1 =
    count_next c.args.items.now c.loop-item.item-index c.item-item.result (Some c.in-Some.field-0.now) c.loop-item-test.true
    c.item-item.is c.in-Some.ensures in
    let h : c.loop-item.count ≡ so_far = c.loop-item.invariant.0 in
    (omega arith, omega arith)
