use Rattle.rc_spec.proofs.Imports.{length, subst, Op, no_op, at_found, op_among, IsOpAmong}
use Rattle.rc_spec.proofs.spec.Spec.op.Goals as goal

pub returns-clause-known : goal.returns-clause-known
returns-clause-known c = λ range.
    subst (λ (x : Op). IsOpAmong (length c.args.self.now.columns) x)
    (at_found c.list.result.now c.args.self.now.ops c.args.number no_op c.index-list-number.result c.list.ensures c.requires c.index-list-number.is)
    (op_among c.args.self.now c.args.number range c.requires)
