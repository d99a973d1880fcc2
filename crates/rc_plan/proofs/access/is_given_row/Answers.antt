use Rattle.std.proofs.Common.{◌≡◌, ℕ, List, ◌∙◌, sym, ap, subst}
use Rattle.rc_plan.proofs.Imports.{nat_cmp, test_from_within, within_from_test, In, gather, gather_in, in_gather, nat_order}
use Rattle.rc_plan.proofs.access.is_given_row.Goals as goal

pub from_list-requires : goal.from_list-requires
from_list-requires c n m = c.requires n (subst (λ (outs : List ℕ). In n outs) c.list.ensures m)

pub returns-then-equals : goal.returns-then-equals
returns-then-equals c =
    let outs : c.from_list.result ≡ gather nat_cmp c.args.outs.now = c.from_list.ensures.value ∙ ap (gather nat_cmp) c.list.ensures in
    let given = c.equals.ensures.0 c.if-equals.true ∙ c.union.ensures.value in (
      λ e. (
        given,
        λ n m. within_from_test c.from_list.result c.args.edge.now.target (sym c.within.ensures.found ∙ e) n
            (subst (λ (cols : List ℕ). In n cols) (sym outs) (gather_in nat_cmp nat_order n c.args.outs.now m)),
      ),
      λ q. c.within.ensures.found ∙ test_from_within c.from_list.result c.args.edge.now.target
          (λ n m. q.1 n (in_gather nat_cmp nat_order n c.args.outs.now (subst (λ (cols : List ℕ). In n cols) outs m))),
    )
