use Rattle.std.proofs.Common.{◌<◌, length, ap, ◌∙◌, subst, arith}
use Rattle.rc_check.proofs.Imports.{nat_cmp, In, gather, HasOutsAmong}
use Rattle.rc_check.proofs.RuleLemmas.{outputs_visited}
use Rattle.rc_check.proofs.found.outputs_are_visited.Goals as goal

pub from_list-requires : goal.from_list-requires
from_list-requires c = λ col m.
    let among = subst (HasOutsAmong (length c.args.spec.now.columns)) c.in-Query.is c.requires.known.outs in
    let below : col < length c.args.spec.now.columns = among col (subst (In col) c.list.ensures m) in omega arith

pub returns-in-Query : goal.returns-in-Query
returns-in-Query c =
    outputs_visited c.args.op.now.kind c.in-Query.outs c.in-Query.ranges c.from_list.result c.args.visited c.within.result c.in-Query.is
    (c.from_list.ensures.value ∙ ap (gather nat_cmp) c.list.ensures) c.within.ensures.found
