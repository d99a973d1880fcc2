use Rattle.std.proofs.Common.{subst, sym, arith}
use Rattle.rc_tuple.specs.RisingSet.{In}
use Rattle.rc_tuple.specs.RisingSetLaws.{get_or_in}
use Rattle.rc_handplan.specs.declared.hand.Hand.{Hand}
use Rattle.rc_middle.proofs.checks.push_verdicts.Goals as goal
use Rattle.rc_middle.proofs.checks.push_verdicts.Goals.{After-hand-item}

-- the plan at hand is one of those that were read
member : (c : After-hand-item) → In c.hand-item.result c.args.hands.now
member c =
    subst (λ (x : Hand). In x c.args.hands.now) (sym c.hand-item.is)
    (get_or_in c.args.hands.now c.loop-hand.hand-index c.hand-item.result c.loop-hand-test.true)

pub check_plan-requires-clause-short : goal.check_plan-requires-clause-short
check_plan-requires-clause-short c =
    omega (arith, c.requires.short c.hand-item.result (member (goal.at.check_plan-requires-clause-short c).After-hand-item))

pub check_plan-requires-clause-operation : goal.check_plan-requires-clause-operation
check_plan-requires-clause-operation c =
    c.requires.ops c.hand-item.result (member (goal.at.check_plan-requires-clause-operation c).After-hand-item)

pub check_plan-requires-clause-known : goal.check_plan-requires-clause-known
check_plan-requires-clause-known c =
    c.requires.known c.hand-item.result (member (goal.at.check_plan-requires-clause-known c).After-hand-item)
