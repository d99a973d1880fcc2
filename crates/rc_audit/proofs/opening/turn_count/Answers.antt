use Rattle.std.proofs.Common.{◌∙◌, length, take, ap, arith}
use Rattle.rc_audit.proofs.Imports.{sum_by_more_le, few_turns, Turn, List, sum_by}
use Rattle.rc_audit.proofs.opening.turn_count.Goals as goal

pub overflow_add-count : goal.overflow_add-count
overflow_add-count c =
    let most = few_turns c.args.work.now c.requires in
    let within = sum_by_more_le (length {A = Turn}) c.list-round-items.result.now c.loop-round.round-index c.round-item.result c.loop-round-test.true in
    let rounds = ap (λ (rounds : List (List Turn)). sum_by length rounds) c.list-round-items.ensures in
    let before = ap (λ (rounds : List (List Turn)). sum_by length (take c.loop-round.round-index rounds)) c.list-round-items.ensures in
    let here = ap (length {A = Turn}) (c.list.ensures ∙ c.round-item.is) in
    let so_far = c.loop-round.invariant in
    omega (arith, most, within, rounds, before, here, so_far)
