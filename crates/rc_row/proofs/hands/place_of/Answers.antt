use Rattle.std.proofs.Common.{◌-◌, arith}
use Rattle.rc_row.proofs.TurnLemmas.{is_held_at, not_before}
use Rattle.rc_row.proofs.hands.place_of.Goals as goal

pub returns-then-index-stripe : goal.returns-then-index-stripe
returns-then-index-stripe c =
    let held = c.args.held.now.items in
    let n = c.len-i.ensures in
    let m = c.args.held.now.ok.0 in
    let some = c.loop-i-test.true in
    let within = c.loop-i.auto.i in
    let found = c.if-index-stripe.true in
    is_held_at held c.args.stripe (c.loop-i.i - 1) c.index.result.now (omega arith)
    (not_before held c.args.stripe (c.loop-i.i - 1) c.index.result.now (omega arith) c.requires.rising found c.index.ensures) found c.index.ensures
