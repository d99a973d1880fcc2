use Rattle.std.proofs.Common.{rules, is_lt, refl, ◌∙◌}
use Rattle.rc_tuple.proofs.Imports.{dedup_same, answers_always, ranks_by, kept_once, Pairs, tuple_cmp, tuple_eq, tuple_order}
use Rattle.rc_tuple.proofs.sorting.distinct.Goals as goal

pub returns : goal.returns
returns c =
    let sorted = c.sort_unstable_by.ensures.sorted (λ t u. is_lt (tuple_cmp t u)) (ranks_by tuple_order.total (λ (t : Pairs). t)) (answers_always _ _ _ (λ f a r g h. search rules)) in
    dedup_same _ tuple_eq _ (λ x y b f x' y' h. search rules) _ _ c.dedup_by.ensures.filtered
    ∙ kept_once tuple_cmp tuple_order tuple_eq (λ t u. refl) c.args.tuples.items c.sort_unstable_by.new.self.items c.sort_unstable_by.ensures.permutation sorted
