use Rattle.std.proofs.Common.{◌≡◌, ◌<◌, ◌∙◌, List, length, sym, subst}
use Rattle.rc_mutate.proofs.Imports.{In, Spec, IsSealed, all_edges, PlannedProbe, probe_edges_known, Routing, insert_probes, chosen_routing, routing_chooses, chosen_good, classes_known, in_edge}
use Rattle.rc_mutate.proofs.WriteLemmas.{insertion_made}
use Rattle.rc_mutate.proofs.insert.plan_insertion.Goals as goal

pub push_locks-requires : goal.push_locks-requires
push_locks-requires c = λ k m.
    let spec = c.spec-spec.result.now in
    let sealed : IsSealed spec = subst IsSealed (sym c.spec-spec.ensures.value) c.spec-spec.ensures.sealed in
    classes_known spec sealed.in_range sealed.accepted.placed (all_edges spec) (in_edge spec) k (subst (In k) c.written_classes-classes.ensures m)

pub push_probes-requires-clause-edges : goal.push_probes-requires-clause-edges
push_probes-requires-clause-edges c = λ probe m e h.
    let spec = c.args.accepted.now in
    let sealed : IsSealed spec = c.spec-spec.ensures.sealed in
    let route : Routing = chosen_routing spec sealed in
    let same : c.deref-2.result.now ≡ insert_probes spec route c.args.pattern = c.deref-2.ensures.value ∙ c.in_ok-probes.ensures route (routing_chooses spec sealed) in
    subst (λ (s : Spec). e < length s.edges) (sym c.spec-spec.ensures.value)
    (probe_edges_known spec sealed.in_range route (chosen_good spec sealed route (routing_chooses spec sealed)) c.args.pattern c.requires.known probe (subst (In probe) same m) e h)

pub returns : goal.returns
returns c = λ route chooses.
    let spec = c.args.accepted.now in
    let probes : List PlannedProbe = insert_probes spec route c.args.pattern in
    insertion_made spec c.spec-spec.result.now c.written_classes-classes.result probes c.deref.result.now c.deref-2.result.now c.new-plan.result c.push_locks.new.plan c.push_probes.new.plan c.push_ending.new.plan
    c.spec-spec.ensures.value (c.deref.ensures.value ∙ c.in_ok-probes.ensures route chooses) (c.deref-2.ensures.value ∙ c.in_ok-probes.ensures route chooses) c.written_classes-classes.ensures c.new-plan.ensures
    c.in_ok-push_locks.ensures c.in_ok-push_probes.ensures c.in_ok-push_ending.ensures
