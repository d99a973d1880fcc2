use Rattle.std.proofs.Common.{◌≡◌, ℕ, List, not, sym, ap, subst, ◌∙◌}
use Rattle.rc_plan.proofs.Imports.{nat_cmp, In, gather, has-gather, agree_on, agree_on-same, stays_beside}
use Rattle.rc_plan.proofs.evaluation.stays_beside.Goals as goal

pub from_list-pattern-requires : goal.from_list-pattern-requires
from_list-pattern-requires c = λ k m. c.requires k (subst (In k) c.list.ensures m)

pub returns-in_ok-is_same_on-in-Update : goal.returns-in_ok-is_same_on-in-Update
returns-in_ok-is_same_on-in-Update c =
    let pattern : List ℕ = c.args.op.now.pattern in
    let set : c.from_list-pattern.result ≡ gather nat_cmp pattern = c.from_list-pattern.ensures.value ∙ ap (gather nat_cmp) c.list.ensures in
    ap not
    (c.in_ok-is_same_on-in-Update.ensures
    ∙ ap (λ xs. agree_on xs c.args.binding.now c.args.args.now) set
    ∙ agree_on-same (gather nat_cmp pattern) pattern (has-gather pattern) c.args.binding.now c.args.args.now)
    ∙ sym (ap (λ kind. stays_beside kind pattern c.args.args.now c.args.binding.now) c.in-Update.is)
