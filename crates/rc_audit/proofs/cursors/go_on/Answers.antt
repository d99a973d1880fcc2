use Rattle.std.proofs.Common.{◌+◌, ap, sym, ◌∙◌, length}
use Rattle.rc_audit.proofs.Imports.{get_or_default, turns_from, gone_on}
use Rattle.rc_audit.proofs.cursors.go_on.Goals as goal

pub returns : goal.returns
returns c =
    let at = get_or_default c.args.cursors.now c.args.thread 0 (length c.args.round.now) c.requires.left.0 in
    gone_on c.args.round.now c.args.cursors.now c.args.thread c.first_turn.result c.requires.cursors c.first_turn.ensures.turn
    (ap (λ p. turns_from c.args.round.now c.args.thread (p + 1)) (sym at) ∙ c.first_turn.ensures.turns)
