use Rattle.std.proofs.Common.{◌∙◌, sym, subst, ap}
use Rattle.rc_query.proofs.Imports.{nat_cmp, In, gather, Within, all_columns, below_32, columns_known}
use Rattle.rc_query.proofs.operation.pattern_of.Goals as goal

pub from_list-requires : goal.from_list-requires
from_list-requires c = λ k m. below_32 c.args.accepted.now c.spec.ensures.sealed c.args.op.now.pattern c.requires.among.pattern k (subst (In k) c.list.ensures m)

pub returns-clause-value : goal.returns-clause-value
returns-clause-value c = c.from_list.ensures.value ∙ ap (gather nat_cmp) c.list.ensures

pub returns-clause-known : goal.returns-clause-known
returns-clause-known c =
    let spec = c.args.accepted.now in
    subst (λ z. Within z (all_columns spec)) (sym (c.from_list.ensures.value ∙ ap (gather nat_cmp) c.list.ensures)) (columns_known spec c.args.op.now.pattern c.requires.among.pattern)
