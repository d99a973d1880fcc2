use Rattle.std.proofs.Common.{◌≡◌, ℕ, Bool, ◌==◌, ◌≤◌, ◌+◌, true, false, filter, length, ap, add-zero, sym, ◌∙◌, arith}
use Rattle.rc_plan.proofs.Imports.{range_with_len, eq-eqb, ne_eqb, class_of, count_next, few_kept}
use Rattle.rc_plan.proofs.edge_classes.edge_count.Goals.{then-class_of-class, else-class_of-class}
use Rattle.rc_plan.proofs.edge_classes.edge_count.Goals as goal

pub overflow_add-count : goal.overflow_add-count
overflow_add-count c =
    let few : length (filter (λ e. class_of c.args.spec.now e == c.args.class) (range_with_len 0 c.loop-edge.edge)) ≤ c.loop-edge.edge = few_kept (λ e. class_of c.args.spec.now e == c.args.class) c.loop-edge.edge in
    omega (arith, few, ap length c.list.ensures, c.loop-edge.invariant, c.loop-edge-test.true, c.requires)

pub loop-edge-preserved : goal.loop-edge-preserved
loop-edge-preserved c =
    let spec = c.args.spec.now in
    let edge = c.loop-edge.edge in
    let of_class : ℕ → Bool = λ e. class_of spec e == c.args.class in
    let class_is : (c.class_of.result == c.args.class) ≡ of_class edge = ap (λ k. k == c.args.class) c.class_of.ensures in
    elim c.if-class_of-class.branch [
      | then-class_of-class w ↦ w.count-is ∙ ap (λ k. k + 1) c.loop-edge.invariant ∙ sym (count_next of_class edge true (sym class_is ∙ eq-eqb c.class_of.result c.args.class w.if-class_of-class.true))
      | else-class_of-class w ↦ w.count-is ∙ c.loop-edge.invariant ∙ sym (count_next of_class edge false (sym class_is ∙ ne_eqb c.class_of.result c.args.class w.if-class_of-class.false) ∙ add-zero (length (filter of_class (range_with_len 0 edge))))
    ]
