use Rattle.std.proofs.Common.{◌∙◌, ap, sym}
use Rattle.rc_inline.proofs.Imports.{Spec, widest, co_class}
use Rattle.rc_inline.proofs.placing.class_then.Goals as goal

pub returns : goal.returns
returns c =
    let classes = c.list.ensures ∙ ap (λ (spec : Spec). spec.classes) c.spec.ensures.value in
    let once = c.spec.ensures.sealed.accepted.placed.p1 c.args.edge c.requires in
    c.widest.ensures ∙ (λ i. widest (classes i) (c.class_of.ensures.value i)) ∙ sym (co_class c.args.accepted.now c.args.edge once)
