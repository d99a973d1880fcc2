use Rattle.std.proofs.Common.{◌<◌, length, ap, ◌∙◌, subst, arith}
use Rattle.rc_check.proofs.Imports.{nat_cmp, In, gather, AreBelow, range_columns}
use Rattle.rc_check.proofs.RuleLemmas.{ranges_visited}
use Rattle.rc_check.proofs.found.ranges_are_visited.Goals as goal

pub from_list-requires : goal.from_list-requires
from_list-requires c = λ col m.
    let among : AreBelow (length c.args.spec.now.columns) c.in-Query.ranges = subst (λ k. AreBelow (length c.args.spec.now.columns) (range_columns k)) c.in-Query.is c.requires.known.ranges in
    let below : col < length c.args.spec.now.columns = among col (subst (In col) c.list.ensures m) in omega arith

pub returns-in-Query : goal.returns-in-Query
returns-in-Query c =
    ranges_visited c.args.op.now.kind c.in-Query.outs c.in-Query.ranges c.from_list.result c.args.visited c.within.result c.in-Query.is
    (c.from_list.ensures.value ∙ ap (gather nat_cmp) c.list.ensures) c.within.ensures.found
