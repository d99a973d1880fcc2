use Rattle.std.proofs.Common.{◌≡◌, ◌<◌, length, subst, sym, ap, ◌∙◌}
use Rattle.rc_machine.proofs.Imports.{class_at, class_of, Spec, IsResolvedEdge}
use Rattle.rc_machine.proofs.ReadLemmas.{class_known}
use Rattle.rc_machine.proofs.edge_read.EdgeRead.of.Goals as goal

pub class-requires : goal.class-requires
class-requires c =
    subst (λ n. n < length c.args.compiled.now.spec.classes) (sym c.edge-resolved.ensures.class)
    (class_known c.args.compiled.now.spec c.accepted.ensures.sealed c.args.edge c.requires.known)

pub returns-clause-resolved : goal.returns-clause-resolved
returns-clause-resolved c =
    let same : c.spec.result.now ≡ c.args.compiled.now.spec = c.spec.ensures.value ∙ c.accepted.ensures.value in
    let class = c.edge-resolved.result.now.class in
    record {
      class = c.class.ensures.value ∙ ap (λ (s : Spec). class_at s class) (sym same)
          ∙ ap (class_at c.spec.result.now) (c.edge-resolved.ensures.class ∙ ap (λ (s : Spec). class_of s c.args.edge) (sym same));
      edge = subst (λ (s : Spec). IsResolvedEdge s c.args.edge c.edge-resolved.result.now) (sym same) c.edge-resolved.ensures;
    }
