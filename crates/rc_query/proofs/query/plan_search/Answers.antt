use Rattle.std.proofs.Common.{◌≡◌, ◌<◌, length, sym, subst}
use Rattle.rc_query.proofs.Imports.{In, Within, union, Spec, IsSealed, all_columns, good_known, IsChosenRoute, query_plan, route_is_chosen, classes_known}
use Rattle.rc_query.proofs.QueryLemmas.{query_made}
use Rattle.rc_query.proofs.query.plan_search.Goals as goal

pub route_for-requires-clause-known : goal.route_for-requires-clause-known
route_for-requires-clause-known c = subst (λ z. Within z (all_columns c.args.accepted.now)) (sym c.union.ensures.value) c.requires.known

pub classes_of_edges-classes-requires-clause-known : goal.classes_of_edges-classes-requires-clause-known
classes_of_edges-classes-requires-clause-known c = λ e m.
    subst (λ (s : Spec). e < length s.edges) (sym c.spec-spec.ensures.value)
    (good_known c.args.accepted.now c.union.result c.in_ok-route.route c.in_ok-route.ensures.good e (subst (In e) c.list.ensures m))

pub push_locks_and_reads-requires-clause-edges : goal.push_locks_and_reads-requires-clause-edges
push_locks_and_reads-requires-clause-edges c = λ e m.
    subst (λ (s : Spec). e < length s.edges) (sym c.spec-spec.ensures.value)
    (good_known c.args.accepted.now c.union.result c.in_ok-route.route c.in_ok-route.ensures.good e (subst (In e) c.list-2.ensures m))

pub push_locks_and_reads-requires-clause-classes : goal.push_locks_and_reads-requires-clause-classes
push_locks_and_reads-requires-clause-classes c = λ k m.
    let spec = c.spec-spec.result.now in
    let sealed : IsSealed spec = subst IsSealed (sym c.spec-spec.ensures.value) c.spec-spec.ensures.sealed in
    classes_known spec sealed.in_range sealed.accepted.placed c.list.result.now
    (λ e h. subst (λ (s : Spec). e < length s.edges) (sym c.spec-spec.ensures.value)
    (good_known c.args.accepted.now c.union.result c.in_ok-route.route c.in_ok-route.ensures.good e (subst (In e) c.list.ensures h)))
    k (subst (In k) c.classes_of_edges-classes.ensures m)

pub returns : goal.returns
returns c = λ route chooses.
    let spec = c.args.accepted.now in
    let pattern = c.args.pattern in
    let need = union pattern c.args.outs in
    let chosen : IsChosenRoute spec pattern need c.in_ok-route.route = subst (λ z. IsChosenRoute spec pattern z c.in_ok-route.route) c.union.ensures.value c.in_ok-route.ensures.chosen in
    subst (λ z. c.push_ending.new.plan ≡ query_plan spec pattern z)
    (route_is_chosen spec c.spec-spec.ensures.sealed route chooses pattern need c.in_ok-route.route chosen)
    (query_made spec c.spec-spec.result.now pattern c.classes_of_edges-classes.result c.in_ok-route.route c.list.result.now c.list-2.result.now c.new-plan.result c.push_locks_and_reads.new.plan c.push_ending.new.plan
    c.spec-spec.ensures.value c.list.ensures c.list-2.ensures c.classes_of_edges-classes.ensures c.new-plan.ensures c.in_ok-push_locks_and_reads.ensures.plan c.in_ok-push_ending.ensures)
