use Rattle.std.proofs.Common.{sym, ◌∙◌}
use Rattle.rc_spec.specs.Ranges.{in_ranges}
use Rattle.rc_plan.proofs.RowLemmas.{row_put, row_left}
use Rattle.rc_plan.proofs.evaluation.answer.Goals as goal
use Rattle.rc_plan.proofs.evaluation.answer.Goals.{then-in_ranges+in_ok-add, else-in_ranges}

pub loop-binding-preserved : goal.loop-binding-preserved
loop-binding-preserved c =
    elim c.if-in_ranges.branch [
      | then-in_ranges+in_ok-add w ↦
          w.rows-is ∙ w.in_ok-add.ensures.ok
          ∙ row_put (in_ranges c.args.ranges.now) c.args.outs.now c.args.bindings.now c.loop-binding.binding-index c.binding-item.result c.loop-binding.rows
          c.loop-binding-test.true c.binding-item.is (sym c.in_ranges.ensures ∙ w.if-in_ranges.true) c.loop-binding.invariant
      | else-in_ranges w ↦
          w.rows-is
          ∙ row_left (in_ranges c.args.ranges.now) c.args.outs.now c.args.bindings.now c.loop-binding.binding-index c.binding-item.result c.loop-binding.rows
          c.loop-binding-test.true c.binding-item.is (sym c.in_ranges.ensures ∙ w.if-in_ranges.false) c.loop-binding.invariant
    ]
