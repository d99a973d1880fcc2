use Rattle.std.proofs.Common.{List, sym, ◌∙◌, subst}
use Rattle.rc_spec.specs.Acceptance.{IsAccepted, IsSealed}
use Rattle.rc_spec.specs.Order.{IsTopologicalOrder}
use Rattle.rc_spec.specs.declared.spec.Spec.{Spec}
use Rattle.rc_work.specs.Shapes.{with_operations}
use Rattle.rc_open.specs.ExtendedLaws.{extended_by, order_over, sealed_over}
use Rattle.rc_open.proofs.extending.with_operations.Goals.{After-push_all}
use Rattle.rc_open.proofs.extending.with_operations.Goals as goal

sealed : (c : After-push_all) → IsSealed (with_operations c.args.accepted c.args.shapes)
sealed c = sealed_over c.args.accepted c.args.shapes c.requires.shapes c.requires.few (subst IsSealed c.accepted.view_is c.accepted.invariant.sealed)

pub new-requires : goal.new-requires
new-requires c =
    let same = extended_by c.args.accepted c.into_spec-spec.result c.args.shapes c.push_all.new.ops c.into_spec-spec.ensures c.in_ok-push_all.ensures in
    let whole = subst (λ (s : Spec). IsSealed s) (sym same) (sealed (goal.at.new-requires c).After-push_all) in
    record { in_range = whole.in_range; populated = whole.populated }

pub seal-requires-clause-accepted : goal.seal-requires-clause-accepted
seal-requires-clause-accepted c =
    let same = extended_by c.args.accepted c.into_spec-spec.result c.args.shapes c.push_all.new.ops c.into_spec-spec.ensures c.in_ok-push_all.ensures in
    subst (λ (s : Spec). IsAccepted s) (sym (c.new.ensures ∙ same)) (sealed (goal.at.seal-requires-clause-accepted c).After-push_all).accepted

pub seal-requires-clause-order : goal.seal-requires-clause-order
seal-requires-clause-order c =
    let same = extended_by c.args.accepted c.into_spec-spec.result c.args.shapes c.push_all.new.ops c.into_spec-spec.ensures c.in_ok-push_all.ensures in
    subst (λ (s : Spec). IsTopologicalOrder s c.in_ok-order.order) (sym (c.new.ensures ∙ same))
    (order_over c.args.accepted c.args.shapes c.in_ok-order.order
    (subst (λ (order : List _). IsTopologicalOrder c.args.accepted order) (sym c.in_ok-order.ensures) c.order.ensures))
