use Rattle.std.proofs.Common.{◌≡◌, ◌∙◌, Some, ap, arith, length, subst, sym}
use Rattle.rc_inline.proofs.Imports.{Spec, IsAccepted, IsSealed, IsWellNamed, contracted, first_inlinable, inlined, contracted_shorter, inlined_more, inlined_named, inlined_rest}
use Rattle.rc_inline.proofs.AcceptedLemmas.{contracted_sealed}
use Rattle.rc_inline.proofs.inlining.inline.Goals.{After-contracted}
use Rattle.rc_inline.proofs.inlining.inline.Goals as goal

-- the edge at hand is the first that can go
found : (c : After-contracted) → first_inlinable c.loop-edge.inlined ≡ Some c.in-Some.edge
found c = ap first_inlinable (sym c.spec.ensures.value) ∙ sym c.first_inlinable.ensures ∙ c.in-Some.is

is_contracted : (c : After-contracted) → c.contracted.result ≡ contracted c.loop-edge.inlined c.in-Some.edge
is_contracted c = c.contracted.ensures ∙ ap (λ s. contracted s c.in-Some.edge) c.into_spec.ensures

-- what is left meets all rules
sealed : (c : After-contracted) → IsSealed c.contracted.result
sealed c = subst IsSealed (sym (is_contracted c)) (contracted_sealed c.loop-edge.inlined c.in-Some.edge c.spec.ensures.sealed (found c))

accepted : (c : After-contracted) (spec : Spec) → spec ≡ c.contracted.result → IsAccepted spec
accepted c spec same = subst IsAccepted (sym same) (sealed c).accepted

pub new-spec-requires : goal.new-spec-requires
new-spec-requires c =
    let whole = sealed c in
    record { in_range = whole.in_range; populated = whole.populated }

pub order_nodes-requires-clause-no_circle : goal.order_nodes-requires-clause-no_circle
order_nodes-requires-clause-no_circle c =
    let at = (goal.at.order_nodes-requires-clause-no_circle c).After-contracted in
    (accepted at c.deref.result.now (c.deref.ensures.value ∙ c.new-spec.ensures)).adequate.a2

pub seal-inlined-requires-clause-accepted : goal.seal-inlined-requires-clause-accepted
seal-inlined-requires-clause-accepted c =
    accepted (goal.at.seal-inlined-requires-clause-accepted c).After-contracted c.new-spec.result c.new-spec.ensures

pub loop-edge-smaller : goal.loop-edge-smaller
loop-edge-smaller c =
    let at = (goal.at.loop-edge-smaller c).After-contracted in
    let same = ap (λ s. length s.edges) (c.seal-inlined.ensures ∙ c.new-spec.ensures ∙ is_contracted at) in
    let shorter = contracted_shorter c.loop-edge.inlined c.in-Some.edge (found at) in
    omega (arith, same, shorter)

pub loop-edge-preserved : goal.loop-edge-preserved
loop-edge-preserved c =
    let at = (goal.at.loop-edge-preserved c).After-contracted in
    ap inlined (c.seal-inlined.ensures ∙ c.new-spec.ensures ∙ is_contracted at) ∙ inlined_more c.loop-edge.inlined c.in-Some.edge (found at) ∙ c.loop-edge.invariant

pub returns-clause-value : goal.returns-clause-value
returns-clause-value c =
    let none = ap first_inlinable (sym c.spec.ensures.value) ∙ sym c.first_inlinable.ensures ∙ c.in_default.is in
    sym (inlined_rest c.loop-edge.inlined none) ∙ c.loop-edge.invariant

pub returns-clause-named : goal.returns-clause-named
returns-clause-named c named =
    let none = ap first_inlinable (sym c.spec.ensures.value) ∙ sym c.first_inlinable.ensures ∙ c.in_default.is in
    subst IsWellNamed (sym c.loop-edge.invariant ∙ inlined_rest c.loop-edge.inlined none) (inlined_named c.args.accepted named)
