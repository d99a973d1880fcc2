use Rattle.std.proofs.Common.{◌≡◌, List, ℕ, ap, subst, sym, ◌∙◌}
use Rattle.rc_plan.proofs.Imports.{nat_cmp, is_within, test_from_within, within_from_test, In, gather, Class, class_at, pattern_columns}
use Rattle.rc_plan.proofs.access.is_striped.Goals as goal

pub from_list-pattern-requires : goal.from_list-pattern-requires
from_list-pattern-requires c n m = c.requires.pattern n (subst (λ (cols : List ℕ). In n cols) c.list.ensures m)

pub returns : goal.returns
returns c =
    let cols = (class_at c.args.spec.now c.args.class).cols in
    let pattern = pattern_columns c.args.op.now in
    let is : c.within.result ≡ is_within cols pattern =
    c.within.ensures.found ∙ ap (λ (z : Class). is_within z.cols c.from_list-pattern.result) c.class.ensures.value
    ∙ ap (is_within cols) (c.from_list-pattern.ensures.value ∙ ap (gather nat_cmp) c.list.ensures) in (
      (λ e. within_from_test cols pattern (sym is ∙ e)),
      (λ w. is ∙ test_from_within cols pattern w),
    )
