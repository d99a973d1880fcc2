use Rattle.std.proofs.Common.{sym, ◌∙◌}
use Rattle.rc_spec.specs.Ranges.{is_asked}
use Rattle.rc_rel.proofs.RowLemmas.{row_put, row_left}
use Rattle.rc_rel.proofs.scan.query.Goals as goal
use Rattle.rc_rel.proofs.scan.query.Goals.{then-is_asked+in_ok-add, else-is_asked}

pub loop-tuple-preserved : goal.loop-tuple-preserved
loop-tuple-preserved c =
    elim c.if-is_asked.branch [
      | then-is_asked+in_ok-add w ↦
          w.rows-is ∙ w.in_ok-add.ensures.ok
          ∙ row_put (is_asked c.args.pattern.now c.args.ranges.now) c.args.outs.now c.args.tuples.now c.loop-tuple.tuple-index c.tuple-item.result c.loop-tuple.rows
          c.loop-tuple-test.true c.tuple-item.is (sym c.is_asked.ensures ∙ w.if-is_asked.true) c.loop-tuple.invariant
      | else-is_asked w ↦
          w.rows-is
          ∙ row_left (is_asked c.args.pattern.now c.args.ranges.now) c.args.outs.now c.args.tuples.now c.loop-tuple.tuple-index c.tuple-item.result c.loop-tuple.rows
          c.loop-tuple-test.true c.tuple-item.is (sym c.is_asked.ensures ∙ w.if-is_asked.false) c.loop-tuple.invariant
    ]
