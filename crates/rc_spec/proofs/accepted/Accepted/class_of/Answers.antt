use Rattle.std.proofs.Common.{◌<◌, ◌∙◌, ap, length, sym, subst}
use Rattle.rc_spec.proofs.Imports.{Spec, class_of, class_of_known}
use Rattle.rc_spec.proofs.accepted.Accepted.class_of.Goals as goal

pub returns-clause-known : goal.returns-clause-known
returns-clause-known c =
    let spec : Spec = c.self.inside.spec in
    let once = c.self.invariant.sealed.accepted.placed.p1 c.args.edge (subst (λ (s : Spec). c.args.edge < length s.edges) (sym c.self.view_is) c.requires) in
    let known = class_of_known spec c.args.edge c.self.invariant.sealed.in_range once in
    let found = c.class_of.ensures ∙ ap (λ (s : Spec). class_of s c.args.edge) c.deref.ensures.value in
    subst (λ (s : Spec). c.class_of.result < length s.classes) c.self.view_is (subst (λ k. k < length spec.classes) (sym found) known)
