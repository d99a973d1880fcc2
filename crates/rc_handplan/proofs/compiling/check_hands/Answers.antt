use Rattle.rc_handplan.proofs.Imports.{suc, take, drop, sym, refl, subst, arith, In, get_or_in, Hand, op_at, KeepsPlanRules}
use Rattle.rc_handplan.proofs.CompilingLemmas.{parted, next_too}
use Rattle.rc_handplan.proofs.compiling.check_hands.Goals.{After-hand-item}
use Rattle.rc_handplan.proofs.compiling.check_hands.Goals as goal

member : (c : After-hand-item) → In c.hand-item.result c.args.hands.now
member c =
    subst (λ (h : Hand). In h c.args.hands.now) (sym c.hand-item.is)
    (get_or_in c.args.hands.now c.loop-hand.hand-index c.hand-item.result c.loop-hand-test.true)

pub check_plan-requires-clause-short : goal.check_plan-requires-clause-short
check_plan-requires-clause-short c =
    omega (arith, c.requires.short c.hand-item.result (member (goal.at.check_plan-requires-clause-short c).After-hand-item))

pub check_plan-requires-clause-operation : goal.check_plan-requires-clause-operation
check_plan-requires-clause-operation c =
    c.requires.ops c.hand-item.result (member (goal.at.check_plan-requires-clause-operation c).After-hand-item)

pub check_plan-requires-clause-known : goal.check_plan-requires-clause-known
check_plan-requires-clause-known c =
    c.requires.known c.hand-item.result (member (goal.at.check_plan-requires-clause-known c).After-hand-item)

pub returns-in-Err-clause-refused : goal.returns-in-Err-clause-refused
returns-in-Err-clause-refused c = record {
  front = take c.loop-hand.hand-index c.args.hands.now;
  hand = c.hand-item.result;
  others = drop (suc c.loop-hand.hand-index) c.args.hands.now;
  whole = parted c.args.hands.now c.loop-hand.hand-index c.hand-item.result c.loop-hand-test.true c.hand-item.is;
  before = c.loop-hand.invariant;
  first = c.in-Err.ensures.first;
  op_is = refl;
}

pub loop-hand-preserved : goal.loop-hand-preserved
loop-hand-preserved c =
    next_too (λ (h : Hand). KeepsPlanRules c.args.accepted.now (op_at c.args.accepted.now h.op) h.plan) c.args.hands.now
    c.loop-hand.hand-index c.hand-item.result c.loop-hand-test.true c.hand-item.is c.loop-hand.invariant
    (c.in_default.ensures.accepted.0 refl)
