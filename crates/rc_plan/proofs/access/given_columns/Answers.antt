use Rattle.std.proofs.Common.{List, ℕ, ap, length, subst, sym, ◌∙◌}
use Rattle.rc_plan.proofs.Imports.{nat_cmp, rising_range, In, gather, gather-rising, nat_order, value_columns}
use Rattle.rc_plan.proofs.access.given_columns.Goals as goal

pub from_list-requires : goal.from_list-requires
from_list-requires c n m = c.requires.pattern n (subst (λ (cols : List ℕ). In n cols) c.list.ensures m)

pub returns-in-Insert : goal.returns-in-Insert
returns-in-Insert c =
    c.all_columns.ensures ∙ sym (gather-rising nat_cmp nat_order _ (rising_range 0 (length c.args.spec.now.columns)))
    ∙ sym (ap (λ kind. gather nat_cmp (value_columns c.args.spec.now c.args.op.now.pattern kind)) c.in-Insert.is)

pub returns-in-Update : goal.returns-in-Update
returns-in-Update c =
    c.all_columns-in-Update.ensures ∙ sym (gather-rising nat_cmp nat_order _ (rising_range 0 (length c.args.spec.now.columns)))
    ∙ sym (ap (λ kind. gather nat_cmp (value_columns c.args.spec.now c.args.op.now.pattern kind)) c.in-Update.is)
