use Rattle.rc_work.specs.DeterminedLaws.{same_test}
use Rattle.rc_work.proofs.shapes.keeps_rules.Goals as goal

pub returns : goal.returns
returns c = same_test c.args.spec.now c.args.op.now c.keeps_o.result c.keeps_o.ensures
