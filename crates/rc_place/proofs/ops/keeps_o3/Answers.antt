use Rattle.std.proofs.Common.{◌<◌, length, sym, ap, ◌∙◌, subst, not, arith}
use Rattle.rc_place.proofs.Imports.{false≢true, In, HasOutsAmong}
use Rattle.rc_place.proofs.PlacementLemmas.{outs_distinct, outs_none}
use Rattle.rc_place.proofs.ops.keeps_o3.Goals as goal

pub from_list-requires : goal.from_list-requires
from_list-requires c = λ col m.
    let among = subst (HasOutsAmong (length c.args.spec.now.columns)) c.in-Query.is c.requires.known.outs in
    let below : col < length c.args.spec.now.columns = among col (subst (In col) c.list-outs.ensures m) in omega arith

pub returns-then-not-is_empty : goal.returns-then-not-is_empty
returns-then-not-is_empty c =
    outs_distinct c.args.op.now c.in-Query.outs c.in-Query.ranges c.list-outs.result.now c.from_list.result c.len.result c.is_empty.result c.in-Query.is c.list-outs.ensures
    c.is_empty.ensures c.if-not-is_empty.true c.from_list.ensures.value c.len.ensures.value

pub returns-else-not-is_empty : goal.returns-else-not-is_empty
returns-else-not-is_empty c = (
  λ h. absurd (false≢true (sym (ap not c.if-not-is_empty.false) ∙ h)),
  λ k. absurd (outs_none c.args.op.now c.in-Query.outs c.in-Query.ranges c.list-outs.result.now c.is_empty.result c.in-Query.is c.list-outs.ensures c.is_empty.ensures c.if-not-is_empty.false k),
)
