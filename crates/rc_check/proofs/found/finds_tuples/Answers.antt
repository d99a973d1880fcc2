use Rattle.rc_check.proofs.RuleLemmas.{tuples_found}
use Rattle.rc_check.proofs.found.finds_tuples.Goals as goal

pub returns-in-Remove : goal.returns-in-Remove
returns-in-Remove c =
    tuples_found c.args.spec.now c.args.op.now.kind c.all_columns.result c.args.visited c.within.result c.in-Remove.is c.all_columns.ensures c.within.ensures.found
