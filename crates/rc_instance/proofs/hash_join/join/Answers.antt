use Rattle.std.proofs.Common.{arith, ap, subst, ◌∙◌}
use Rattle.rc_instance.proofs.Imports.{flat_map, take_all, In, gather, in_inter, merges_of, tuple_cmp, project, found_at}
use Rattle.rc_instance.proofs.IndexLemmas.{joined}
use Rattle.rc_instance.proofs.hash_join.join.Goals as goal

pub returns : goal.returns
returns c =
    let es = c.in_ok-index.index.entries in
    let on = c.inter-columns.result in
    c.from_vec.ensures ∙ c.distinct.ensures
    ∙ ap (gather tuple_cmp) (c.loop-tuple.invariant ∙ ap (flat_map (λ t. merges_of t (found_at es (project on t)))) (take_all c.loop-tuple.tuple-index c.args.left.now (omega arith)))
    ∙ joined on c.args.left.now c.args.right.now es
    (λ t m. (c.shared_columns.ensures.tuples t m, λ k h. c.shared_columns.ensures.shared t m k (in_inter c.shared_columns.result c.shared_columns-2.result k (subst (In k) c.inter-columns.ensures.value h)).0))
    (λ t m. (c.shared_columns-2.ensures.tuples t m, λ k h. c.shared_columns-2.ensures.shared t m k (in_inter c.shared_columns.result c.shared_columns-2.result k (subst (In k) c.inter-columns.ensures.value h)).1))
    c.in_ok-index.ensures
