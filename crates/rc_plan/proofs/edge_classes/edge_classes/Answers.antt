use Rattle.std.proofs.Common.{◌≡◌, ◌+◌, List, ℕ, length, ap, subst, sym, ◌∙◌, arith}
use Rattle.rc_plan.proofs.Imports.{range_with_len, class_of, Spec, AreEdgeCounts, classes_kept, classes_of, with_class, classes_next}
use Rattle.rc_plan.proofs.edge_classes.edge_classes.Goals as goal

pub loop-edge-preserved : goal.loop-edge-preserved
loop-edge-preserved c =
    let spec = c.args.accepted.now in
    let edge = c.loop-edge.edge in
    let most = c.add.ensures.most in
    let few = c.loop-edge.invariant.few in
    let class_is : c.class_of.result ≡ class_of spec edge = c.class_of.ensures ∙ ap (λ (s : Spec). class_of s edge) c.spec-spec.ensures.value in
    record {
      room = c.add.ensures.same.1 ∙ c.loop-edge.invariant.room;
      few = omega (arith, most, few);
      classes = c.add.ensures.classes ∙ ap (λ classes. with_class classes c.class_of.result) c.loop-edge.invariant.classes
          ∙ ap (with_class (classes_of spec (range_with_len 0 edge))) class_is ∙ sym (classes_next spec edge);
      counts = subst (AreEdgeCounts spec) (sym c.add.ensures.same.0) c.loop-edge.invariant.counts;
    }
