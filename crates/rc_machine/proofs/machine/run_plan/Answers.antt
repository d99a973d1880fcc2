use Rattle.std.proofs.Common.{◌≡◌, ◌∙◌, ap, subst, Err, Result}
use Rattle.rc_machine.proofs.Imports.{HasRunCall, told_answer, Stop}
use Rattle.rc_machine.proofs.BackLemmas.{back_as_taken, run_back}
use Rattle.rc_machine.proofs.machine.run_plan.Given.{Over}
use Rattle.rc_machine.proofs.machine.run_plan.Goals.{After-run_statements}
use Rattle.rc_machine.proofs.machine.run_plan.Goals as goal

-- what the run of the statements left, once its result is known
run : (g : Over) (c : After-run_statements g) (result : Result (Unit {0}) Stop) → c.run_statements.result ≡ result
    → HasRunCall c.args.compiled.now c.args.call.now (g.H.Holder.seen c.args.holder.now) (g.H.Holder.seen c.run_statements.new.holder) (told_answer result c.run_statements.new.reply)
run g c result is =
    subst (λ r. HasRunCall c.args.compiled.now c.args.call.now (g.H.Holder.seen c.args.holder.now) (g.H.Holder.seen c.run_statements.new.holder) (told_answer r c.run_statements.new.reply))
    is c.run_statements.ensures.run

pub returns-in-Ok-clause-run : goal.returns-in-Ok-clause-run
returns-in-Ok-clause-run g c = run g (goal.at.returns-in-Ok-clause-run g c).After-run_statements _ c.in-Ok.is

pub returns-in-Err-Held-clause-run : goal.returns-in-Err-Held-clause-run
returns-in-Err-Held-clause-run g c =
    run g (goal.at.returns-in-Err-Held-clause-run g c).After-run_statements _ (c.in-Err-Held.is ∙ ap Err c.in-Err-Held.field-0-is)

pub returns-in-Err-Held-clause-reverted : goal.returns-in-Err-Held-clause-reverted
returns-in-Err-Held-clause-reverted g c = c.run_statements.ensures.run.stopped c.in-Err-Held.held (ap (λ r. told_answer r c.run_statements.new.reply) (c.in-Err-Held.is ∙ ap Err c.in-Err-Held.field-0-is))

pub returns-clause-run : goal.returns-clause-run
returns-clause-run g c =
    run_back c.args.compiled.now c.args.call.now _ _ _ c.revert.ensures.value
    (run g (goal.at.returns-clause-run g c).After-run_statements _ (c.in-Err-Memory.is ∙ ap Err c.in-Err-Memory.field-0-is))

pub returns-clause-reverted : goal.returns-clause-reverted
returns-clause-reverted g c = back_as_taken _ _ c.revert.ensures.value
