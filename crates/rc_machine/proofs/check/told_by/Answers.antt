use Rattle.std.proofs.Common.{Some, sym, ap, subst, ◌∙◌}
use Rattle.rc_machine.proofs.Imports.{nat_cmp, In, gather, in_gather, nat_order, told_by}
use Rattle.rc_machine.proofs.check.told_by.Goals as goal

pub from_list-requires : goal.from_list-requires
from_list-requires c = λ k m. c.requires k (subst (In k) c.list.ensures m)

pub returns-in-Update-clause-value : goal.returns-in-Update-clause-value
returns-in-Update-clause-value c =
    ap Some (c.from_list.ensures.value ∙ ap (gather nat_cmp) c.list.ensures) ∙ sym (ap (λ kind. told_by kind c.args.op.now.pattern) c.in-Update.is)

pub returns-in-Update-clause-below : goal.returns-in-Update-clause-below
returns-in-Update-clause-below c width below = record {
  set = c.from_list.ensures.set;
  below = λ k m. below k (in_gather nat_cmp nat_order k c.args.op.now.pattern (subst (In k) (c.from_list.ensures.value ∙ ap (gather nat_cmp) c.list.ensures) m));
}
