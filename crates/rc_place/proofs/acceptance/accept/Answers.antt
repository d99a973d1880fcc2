use Rattle.rc_place.proofs.Imports.{sym, subst, IsAccepted, accepted_from_checks}
use Rattle.rc_place.proofs.acceptance.accept.Goals.{In_default}
use Rattle.rc_place.proofs.acceptance.accept.Goals as goal

-- what the judge found no fault of is accepted
accepted : (c : In_default) → IsAccepted c.args.spec
accepted c = subst IsAccepted c.deref.ensures.value (accepted_from_checks c.deref.result.now c.in_default.ensures)

pub order_nodes-requires-clause-no_circle : goal.order_nodes-requires-clause-no_circle
order_nodes-requires-clause-no_circle c =
    (subst IsAccepted (sym c.deref-2.ensures.value) (accepted (goal.at.order_nodes-requires-clause-no_circle c).In_default)).adequate.a2

pub seal-requires-clause-accepted : goal.seal-requires-clause-accepted
seal-requires-clause-accepted c = accepted (goal.at.seal-requires-clause-accepted c).In_default
