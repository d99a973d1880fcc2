use Rattle.std.proofs.Common.{length, take, ap, ◌∙◌}
use Rattle.rc_maps.proofs.Imports.{values_of_walk, kept_before, on_err, walked_next}
use Rattle.rc_maps.proofs.keyed.push_rows.Goals as goal

pub returns-in_err-push_row-clause-err : goal.returns-in_err-push_row-clause-err
returns-in_err-push_row-clause-err c =
    on_err c.from_residual-in_err-push_row.result
    (ap (take (length c.args.out.now.items)) c.in_err-push_row.ensures.err
    ∙ kept_before c.args.out.now.items (values_of_walk (take c.loop-keyed.keyed-index c.args.all.now))
    c.loop-keyed.out.items c.loop-keyed.invariant)

pub loop-keyed-preserved : goal.loop-keyed-preserved
loop-keyed-preserved c =
    walked_next c.args.out.now.items c.loop-keyed.out.items c.push_row.new.out.items c.args.all.now c.loop-keyed.keyed-index c.keyed-item.result
    c.loop-keyed.invariant c.loop-keyed-test.true c.keyed-item.is (c.in_ok-push_row.ensures.ok)
