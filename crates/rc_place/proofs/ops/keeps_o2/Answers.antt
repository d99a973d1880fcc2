use Rattle.std.proofs.Common.{◌<◌, length, refl, sym, ap, ◌∙◌, subst, arith}
use Rattle.rc_place.proofs.Imports.{false≢true, nat_cmp, In, gather, all_columns, follows_at}
use Rattle.rc_place.proofs.ops.keeps_o2.Goals as goal

pub from_list-pattern-requires : goal.from_list-pattern-requires
from_list-pattern-requires c = λ col m.
    let below : col < length c.args.spec.now.columns = c.requires.known.pattern col (subst (In col) c.list.ensures m) in omega arith

pub returns-then-not-finds_by_key : goal.returns-then-not-finds_by_key
returns-then-not-finds_by_key c = (λ h key. absurd (false≢true (sym c.if-not-finds_by_key.true ∙ c.finds_by_key.ensures.1 key)), λ k. refl)

pub returns : goal.returns
returns c =
    let test =
    follows_at c.list-deps.result.now c.args.spec.now.deps c.from_list-pattern.result (gather nat_cmp c.args.op.now.pattern) c.all_columns.result (all_columns c.args.spec.now)
    c.is_key.result c.list-deps.ensures (c.from_list-pattern.ensures.value ∙ ap (gather nat_cmp) c.list.ensures) c.all_columns.ensures c.is_key.ensures in
    (λ h key. test.0 h, λ k. test.1 (k (c.finds_by_key.ensures.0 c.if-not-finds_by_key.false)))
