use Rattle.std.proofs.Common.{length, ap, ◌∙◌, arith}
use Rattle.rc_row.proofs.Imports.{Mode, hand_out}
use Rattle.rc_row.proofs.TurnLemmas.{hands_more, length-written}
use Rattle.rc_row.proofs.hands.slots_out.Goals as goal
use Rattle.rc_row.proofs.hands.slots_out.Goals.{in-Exclusive, in-Shared}

pub loop-one-preserved : goal.loop-one-preserved
loop-one-preserved c =
    let inv = c.loop-one.invariant in
    let few = inv.1 in
    let passes = c.requires.1 in
    let p = c.one-item.result.stripe in (
      (λ k.
          let so_far = inv.0 k in
          let more = hands_more c.args.passes k c.args.held.now c.loop-one.one-index c.one-item.result c.loop-one-test.true c.one-item.is in
          elim c.match-one.branch [
            | in-Exclusive w ↦ (let a = w.count-is in let b = ap (λ (m : Mode). length (hand_out c.args.passes k m p)) w.in-Exclusive.is ∙ length-written c.args.passes k p in omega arith)
            | in-Shared w ↦ (let a = w.count-is in let b = ap (λ (m : Mode). length (hand_out c.args.passes k m p)) w.in-Shared.is in omega arith)
          ]),
      elim c.match-one.branch [
        | in-Exclusive w ↦ (let a = w.count-is in omega arith)
        | in-Shared w ↦ (let a = w.count-is in omega arith)
      ],
    )
