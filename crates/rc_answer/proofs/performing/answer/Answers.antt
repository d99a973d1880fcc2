use Rattle.rc_answer.proofs.Imports.{subst, sym, IfOk, IfSome, TextCommand, HasTextOf}
use Rattle.rc_answer.proofs.performing.answer.Goals as goal

pub returns-in-Run-clause-ran : goal.returns-in-Run-clause-ran
returns-in-Run-clause-ran g c =
    subst (λ (k : TextCommand). IfOk c.run.result (λ outcome. IfSome outcome.ran (HasTextOf k c.args.text.now (g.K.Sink.held c.args.sink.now) (g.K.Sink.held c.run.new.sink))))
    (sym c.in-Run.is) c.run.ensures.ran

pub returns-in-Group-clause-ran : goal.returns-in-Group-clause-ran
returns-in-Group-clause-ran g c =
    subst (λ (k : TextCommand). IfOk c.run-in-Group.result (λ outcome. IfSome outcome.ran (HasTextOf k c.args.text.now (g.K.Sink.held c.args.sink.now) (g.K.Sink.held c.run-in-Group.new.sink))))
    (sym c.in-Group.is) c.run-in-Group.ensures.ran

pub returns-in-Open-clause-ran : goal.returns-in-Open-clause-ran
returns-in-Open-clause-ran g c =
    subst (λ (k : TextCommand). IfOk c.answer_open.result (λ outcome. IfSome outcome.ran (HasTextOf k c.args.text.now (g.K.Sink.held c.args.sink.now) (g.K.Sink.held c.answer_open.new.sink))))
    (sym c.in-Open.is) c.answer_open.ensures.ran

pub returns-in-Hand-clause-ran : goal.returns-in-Hand-clause-ran
returns-in-Hand-clause-ran g c =
    subst (λ (k : TextCommand). IfOk c.answer_by_hand.result (λ outcome. IfSome outcome.ran (HasTextOf k c.args.text.now (g.K.Sink.held c.args.sink.now) (g.K.Sink.held c.answer_by_hand.new.sink))))
    (sym c.in-Hand.is) c.answer_by_hand.ensures.ran
