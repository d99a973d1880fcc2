use Rattle.rc_answer.proofs.Imports.{refl, spec_of, AnswersAlone, IsAskedText}
use Rattle.rc_answer.proofs.AnswerLemmas.{writes_wider, alone_answers}
use Rattle.rc_answer.proofs.performing.answer_alone.Goals as goal

pub returns-in-Ok-accept-clause-written : goal.returns-in-Ok-accept-clause-written
returns-in-Ok-accept-clause-written g c =
    let reading = spec_of c.args.text.now in
    writes_wider (IsAskedText c.args.asked c.in-Ok-accept.accepted) (AnswersAlone (IsAskedText c.args.asked) reading) (g.K.Sink.held c.args.sink.now) (g.K.Sink.held c.write_asked.new.sink) c.write_asked.result
    (alone_answers (IsAskedText c.args.asked) reading c.in-Ok.spec c.in-Ok-accept.accepted c.in-Ok.ensures.exact c.in-Ok-accept.ensures.value (c.in-Ok-accept.ensures.accepted refl)) c.write_asked.ensures.written
