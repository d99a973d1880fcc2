use Rattle.std.proofs.Common.{◌≡◌, Ok, refl, ◌∙◌, ap, subst}
use Rattle.rc_embed.proofs.Imports.{Spec, IsSealed, plans_of, embedded, with_operations}
use Rattle.rc_handplan.specs.Chosen.{IsRefusedFor}
use Rattle.rc_embed.proofs.ExtendingLemmas.{embedded_columns, embedded_few, embedded_over, embedded_shapes, hands_over}
use Rattle.rc_embed.proofs.PlanningLemmas.{planned_with, refused_plan}
use Rattle.rc_embed.proofs.planning.plan_embedded.Goals.{In_ok-extended}
use Rattle.rc_embed.proofs.planning.plan_embedded.Goals as goal

-- what is planned is the embedding of the longer specification
whole : (c : In_ok-extended) → c.in_ok-extended.extended ≡ embedded (with_operations c.args.accepted c.args.further)
whole c =
    c.in_ok-extended.ensures
    ∙ ap (λ (s : Spec). with_operations s c.args.further) c.in_ok-embedded.ensures.value
    ∙ embedded_over c.args.accepted c.args.further

pub with_operations-requires-clause-shapes : goal.with_operations-requires-clause-shapes
with_operations-requires-clause-shapes c =
    embedded_shapes c.args.accepted c.args.further c.in_ok-embedded.embedded c.in_ok-embedded.ensures.value c.requires.shapes

pub with_operations-requires-clause-few : goal.with_operations-requires-clause-few
with_operations-requires-clause-few c =
    embedded_few c.args.accepted c.args.further c.in_ok-embedded.embedded c.in_ok-embedded.ensures.value c.requires.own c.requires.few

pub compile_with-requires : goal.compile_with-requires
compile_with-requires c = record {
  hands = hands_over c.args.accepted c.args.further c.in_ok-embedded.embedded c.in_ok-extended.extended c.in_ok-hands.hands.items
      c.in_ok-extended.ensures c.in_ok-hands.ensures.hands;
}

pub returns-in-Ok-clause-planned : goal.returns-in-Ok-clause-planned
returns-in-Ok-clause-planned c =
    planned_with c.args.accepted (with_operations c.args.accepted c.args.further) c.in_ok-extended.extended c.args.plans.now
    c.in_ok-hands.hands.items c.in-Ok.compiled (whole (goal.at.returns-in-Ok-clause-planned c).In_ok-extended)
    (subst (λ (s : Spec). plans_of s c.args.plans.now ≡ Ok c.in_ok-hands.hands.items) c.in_ok-embedded.ensures.value c.in_ok-hands.ensures.read) c.in-Ok.ensures.same (c.in-Ok.ensures.kept refl)
    c.in-Ok.ensures.chosen

pub returns-in-Ok-clause-columns : goal.returns-in-Ok-clause-columns
returns-in-Ok-clause-columns c =
    embedded_columns c.args.accepted c.args.further c.in_ok-embedded.embedded c.in-Ok.compiled.spec c.in_ok-embedded.ensures.value
    (c.in-Ok.ensures.same ∙ c.in_ok-extended.ensures) (subst IsSealed c.embedded.view_is c.embedded.invariant.sealed).in_range
    c.requires.named c.requires.shapes

pub returns-in-Err-Refused-clause-refused : goal.returns-in-Err-Refused-clause-refused
returns-in-Err-Refused-clause-refused c =
    let refused = subst (IsRefusedFor c.in_ok-extended.extended c.in_ok-hands.hands.items) c.in-Err-Refused.field-0-is
    c.in-Err-Refused.ensures.refused in
    refused_plan c.args.accepted (with_operations c.args.accepted c.args.further) c.in_ok-extended.extended c.into_spec.result
    c.args.plans.now c.in_ok-hands.hands.items c.in-Err-Refused.op c.in-Err-Refused.refusal
    (whole (goal.at.returns-in-Err-Refused-clause-refused c).In_ok-extended)
    (subst (λ (s : Spec). plans_of s c.args.plans.now ≡ Ok c.in_ok-hands.hands.items) c.in_ok-embedded.ensures.value c.in_ok-hands.ensures.read)
    (hands_over c.args.accepted c.args.further c.in_ok-embedded.embedded c.in_ok-extended.extended c.in_ok-hands.hands.items
    c.in_ok-extended.ensures c.in_ok-hands.ensures.hands) (c.into_spec.ensures ∙ refused.0) refused.1
