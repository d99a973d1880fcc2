use Rattle.std.proofs.Common.{◌≡◌, ◌<◌, ◌∙◌, length, sym, subst, ap}
use Rattle.rc_mutate.proofs.Imports.{In, Spec, IsSealed, all_columns, all_edges, good_known, IsChosenRoute, remove_plan, route_is_chosen, classes_known, in_edge}
use Rattle.rc_mutate.proofs.WriteLemmas.{removal_made}
use Rattle.rc_mutate.proofs.remove.plan_removal.Goals as goal

pub push_locks_and_reads-requires-clause-edges : goal.push_locks_and_reads-requires-clause-edges
push_locks_and_reads-requires-clause-edges c = λ e m.
    subst (λ (s : Spec). e < length s.edges) (sym c.spec-spec.ensures.value)
    (good_known c.args.accepted.now c.all_columns.result c.in_ok-route.route c.in_ok-route.ensures.good e (subst (In e) c.list.ensures m))

pub push_locks_and_reads-requires-clause-classes : goal.push_locks_and_reads-requires-clause-classes
push_locks_and_reads-requires-clause-classes c = λ k m.
    let spec = c.spec-spec.result.now in
    let sealed : IsSealed spec = subst IsSealed (sym c.spec-spec.ensures.value) c.spec-spec.ensures.sealed in
    classes_known spec sealed.in_range sealed.accepted.placed (all_edges spec) (in_edge spec) k (subst (In k) c.written_classes-classes.ensures m)

pub returns : goal.returns
returns c = λ route chooses.
    let spec = c.args.accepted.now in
    let pattern = c.args.pattern in
    let all : c.all_columns.result ≡ all_columns spec = c.all_columns.ensures ∙ ap (λ (s : Spec). all_columns s) c.spec-spec.ensures.value in
    let chosen : IsChosenRoute spec pattern (all_columns spec) c.in_ok-route.route = subst (λ z. IsChosenRoute spec pattern z c.in_ok-route.route) all c.in_ok-route.ensures.chosen in
    subst (λ z. c.push_ending.new.plan ≡ remove_plan spec pattern z)
    (route_is_chosen spec c.spec-spec.ensures.sealed route chooses pattern (all_columns spec) c.in_ok-route.route chosen)
    (removal_made spec c.spec-spec.result.now pattern c.written_classes-classes.result c.in_ok-left.left c.in_ok-route.route c.list.result.now c.new-plan.result c.push_locks_and_reads.new.plan
    c.push_keyed_locks.new.plan c.push_ending.new.plan c.spec-spec.ensures.value c.list.ensures c.written_classes-classes.ensures c.new-plan.ensures c.in_ok-left.ensures.plan c.in_ok-left.ensures.left
    c.in_ok-push_keyed_locks.ensures c.in_ok-push_ending.ensures)
