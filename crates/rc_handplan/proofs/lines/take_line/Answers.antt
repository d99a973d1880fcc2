use Rattle.std.proofs.Common.{sym, ap, ◌∙◌, subst}
use Rattle.rc_handplan.proofs.Imports.{TakesLine, after_start, by_start, of_statement}
use Rattle.rc_handplan.proofs.lines.take_line.Goals as goal

pub returns-in-Plan : goal.returns-in-Plan
returns-in-Plan c =
    let spec = c.args.spec.now in
    let hands = c.args.hands.now.items in
    let bytes = c.args.bytes.now in
    subst (TakesLine c.take_head.result c.take_head.new.hands.items)
    (sym (by_start spec hands bytes c.args.start c.requires.start ∙ ap (λ start. after_start spec hands start bytes) c.in-Plan.is))
    c.take_head.ensures

pub returns-in_default : goal.returns-in_default
returns-in_default c =
    let spec = c.args.spec.now in
    let hands = c.args.hands.now.items in
    let bytes = c.args.bytes.now in
    subst (TakesLine c.take_statement.result c.take_statement.new.hands.items)
    (sym (by_start spec hands bytes c.args.start c.requires.start
    ∙ of_statement spec hands bytes c.args.start c.in_default.not-Plan))
    c.take_statement.ensures
