use Rattle.rc_handplan.specs.Hands.{HasSet}
use Rattle.rc_handplan.proofs.CompilingLemmas.{next_too}
use Rattle.rc_handplan.proofs.printing.have_sets.Goals as goal

pub loop-statement-preserved : goal.loop-statement-preserved
loop-statement-preserved c =
    next_too HasSet c.args.plan.now c.loop-statement.statement-index c.statement-item.result c.loop-statement-test.true
    c.statement-item.is c.loop-statement.invariant c.has_set.ensures
