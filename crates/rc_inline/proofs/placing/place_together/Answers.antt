use Rattle.std.proofs.Common.{◌≡◌, ◌∙◌, ap, subst, sym}
use Rattle.rc_inline.proofs.Imports.{iff_false, Spec, IsAccepted, IsSealed, IsWellFormed, IsTopologicalOrder, co_placed, AreOrdered, order_tested, together_moved, unordered_stay}
use Rattle.rc_inline.proofs.CoPlacedLemmas.{co_accepted, co_formed, order_same}
use Rattle.rc_inline.proofs.placing.place_together.Goals.{After-co_placed}
use Rattle.rc_inline.proofs.placing.place_together.Goals as goal

is_moved : (c : After-co_placed) → c.co_placed.result ≡ co_placed c.args.accepted
is_moved c = c.co_placed.ensures ∙ ap co_placed c.into_spec.ensures

sealed : (c : After-co_placed) → IsSealed c.args.accepted
sealed c = subst IsSealed c.accepted.view_is c.accepted.invariant.sealed

ordered : (c : After-co_placed) → AreOrdered (co_placed c.args.accepted)
ordered c = c.are_ordered_then.ensures.0 c.if-not-are_ordered_then.false

pub returns-then-not-are_ordered_then : goal.returns-then-not-are_ordered_then
returns-then-not-are_ordered_then c =
    sym (unordered_stay c.args.accepted (iff_false c.are_ordered_then.ensures c.if-not-are_ordered_then.true))

pub new-spec-requires : goal.new-spec-requires
new-spec-requires c = subst IsWellFormed (sym (is_moved c)) (co_formed c.args.accepted (sealed c))

pub seal-requires-clause-accepted : goal.seal-requires-clause-accepted
seal-requires-clause-accepted c =
    let at = (goal.at.seal-requires-clause-accepted c).After-co_placed in
    subst IsAccepted (sym (c.new-spec.ensures ∙ is_moved at)) (co_accepted c.args.accepted (sealed at) (ordered at))

pub seal-requires-clause-order : goal.seal-requires-clause-order
seal-requires-clause-order c =
    let at = (goal.at.seal-requires-clause-order c).After-co_placed in
    let order = c.in_ok-order.order in
    subst (λ (spec : Spec). IsTopologicalOrder spec order) (sym (c.new-spec.ensures ∙ is_moved at))
    (order_same c.args.accepted order (subst (IsTopologicalOrder c.args.accepted) (sym c.in_ok-order.ensures) c.order.ensures))

pub returns : goal.returns
returns c =
    let at = (goal.at.returns c).After-co_placed in
    let spec = c.args.accepted in
    c.seal.ensures ∙ c.new-spec.ensures ∙ is_moved at ∙ sym (together_moved spec ((order_tested (co_placed spec)).1 (ordered at)))
