use Rattle.rc_answer.specs.Ran.{status_in}
use Rattle.rc_answer.proofs.ByHandLemmas.{hands_answers}
use Rattle.rc_answer.proofs.by_hand.run_by_hand.Goals as goal

pub returns-in-Ok-clause-written : goal.returns-in-Ok-clause-written
returns-in-Ok-clause-written g c =
    hands_answers c.args.accepted c.args.text.now c.args.rest c.in-Ok.behind c.in-Ok.hands.items c.in-Ok.ensures.read
    (g.K.Sink.held c.args.sink.now) (g.K.Sink.held c.run_by_plans.new.sink) (status_in c.run_by_plans.result) c.run_by_plans.ensures.written
