use Rattle.std.proofs.Common.{◌<◌, ◌≤◌, sym, ◌∙◌, ap, subst, length, arith}
use Rattle.rc_spec.proofs.Imports.{nat_cmp, In, gather, nat_order, gather-rising, rising_range, value_columns}
use Rattle.rc_spec.proofs.fitting.columns_given.Goals as goal

pub from_list-requires : goal.from_list-requires
from_list-requires c = λ k m.
    let below : k < length c.args.spec.now.columns = (c.requires.range.known_ops c.args.op.now c.requires.known).pattern k (subst (In k) c.list.ensures m) in
    let few : length c.args.spec.now.columns ≤ 32 = c.requires.range.columns in
    omega (arith, below, few)

pub returns-in-Insert : goal.returns-in-Insert
returns-in-Insert c =
    c.all_columns.ensures ∙ sym (gather-rising nat_cmp nat_order _ (rising_range 0 (length c.args.spec.now.columns)))
    ∙ sym (ap (λ kind. gather nat_cmp (value_columns c.args.spec.now c.args.op.now.pattern kind)) c.in-Insert.is)

pub returns-in-Update : goal.returns-in-Update
returns-in-Update c =
    c.all_columns-in-Update.ensures ∙ sym (gather-rising nat_cmp nat_order _ (rising_range 0 (length c.args.spec.now.columns)))
    ∙ sym (ap (λ kind. gather nat_cmp (value_columns c.args.spec.now c.args.op.now.pattern kind)) c.in-Update.is)
