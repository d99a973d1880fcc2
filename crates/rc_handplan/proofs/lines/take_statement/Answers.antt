use Rattle.std.proofs.Common.{sym, ◌∙◌, arith}
use Rattle.rc_handplan.proofs.LastLemmas.{last_is_full, last_takes}
use Rattle.rc_handplan.proofs.lines.take_statement.Goals as goal

pub returns-then-is_full : goal.returns-then-is_full
returns-then-is_full c =
    last_is_full c.args.spec.now c.args.hands.now.items c.args.bytes.now _ c.index.result.now c.in_ok-statement.statement
    (omega (arith, c.requires.begun, c.len-last.ensures)) c.index.ensures c.in_ok-statement.ensures
    (sym c.is_full.ensures ∙ c.if-is_full.true)

pub returns : goal.returns
returns c =
    last_takes c.args.spec.now c.args.hands.now.items c.args.bytes.now _ c.index.result.now c.index_mut.result.now
    c.push.new.self c.in_ok-statement.statement (omega (arith, c.requires.begun, c.len-last.ensures)) c.index.ensures
    c.index_mut.ensures.value c.in_ok-statement.ensures (sym c.is_full.ensures ∙ c.if-is_full.false)
    c.in_ok-push.ensures
