use Rattle.std.proofs.Common.{◌≡◌, ◌∙◌, ◌+◌, ap, sym, subst, Vec, Global}
use Rattle.rc_mutate.proofs.Imports.{Dep, In, Within, union_within, Spec, all_columns, dep_at, PlannedProbe, union_some}
use Rattle.rc_mutate.proofs.WriteLemmas.{dep_found, dep_among, need_known, update_probes_same, update_probes_more, all_some, union_some_left}
use Rattle.rc_mutate.proofs.probes.update_probes.Goals as goal
use Rattle.rc_mutate.proofs.probes.update_probes.Goals.{then-not-within+in_ok-probe_for-2+in_ok-push-2, else-not-within}

pub probe_for-requires-clause-some : goal.probe_for-requires-clause-some
probe_for-requires-clause-some c = λ e. all_some c.args.accepted.now c.spec-spec.ensures.sealed.populated
    (sym (c.all_columns.ensures ∙ ap (λ (s : Spec). all_columns s) c.spec-spec.ensures.value) ∙ e)

pub probe_for-requires-clause-known : goal.probe_for-requires-clause-known
probe_for-requires-clause-known c = λ k m. subst (In k) (c.all_columns.ensures ∙ ap (λ (s : Spec). all_columns s) c.spec-spec.ensures.value) m

pub probe_for-requires-then-not-within-clause-some : goal.probe_for-requires-then-not-within-clause-some
probe_for-requires-then-not-within-clause-some c = λ e.
    let dep : Dep = c.index-deps-place.result in
    union_some_left c.union-sides.result c.args.pattern
    (λ f. union_some dep.left dep.right
    (dep_among c.args.accepted.now c.spec-spec.result.now c.list-deps.result.now c.loop-place.place dep c.spec-spec.ensures.sealed c.spec-spec.ensures.value c.list-deps.ensures c.loop-place-test.true c.index-deps-place.is).has_right
    (sym c.union-sides.ensures.value ∙ f))
    (sym c.union-need.ensures.value ∙ e)

pub probe_for-requires-then-not-within-clause-known : goal.probe_for-requires-then-not-within-clause-known
probe_for-requires-then-not-within-clause-known c =
    let dep : Dep = c.index-deps-place.result in
    subst (λ z. Within z (all_columns c.args.accepted.now)) (sym c.union-need.ensures.value)
    (union_within c.union-sides.result c.args.pattern (all_columns c.args.accepted.now)
    (subst (λ z. Within z (all_columns c.args.accepted.now)) (sym c.union-sides.ensures.value)
    (need_known c.args.accepted.now dep
    (dep_among c.args.accepted.now c.spec-spec.result.now c.list-deps.result.now c.loop-place.place dep c.spec-spec.ensures.sealed c.spec-spec.ensures.value c.list-deps.ensures c.loop-place-test.true c.index-deps-place.is))) c.requires.known)

pub loop-place-preserved : goal.loop-place-preserved
loop-place-preserved c = λ route chooses.
    let spec = c.args.accepted.now in
    let dep : Dep = c.index-deps-place.result in
    let found : dep_at spec (c.loop-place.place + 1) ≡ dep = dep_found spec c.spec-spec.result.now c.list-deps.result.now c.loop-place.place dep c.spec-spec.ensures.value c.list-deps.ensures c.loop-place-test.true c.index-deps-place.is in
    elim c.if-not-within.branch [
      | then-not-within+in_ok-probe_for-2+in_ok-push-2 w ↦ ap (λ (v : Vec PlannedProbe Global). v.items) w.probes-is
          ∙ update_probes_more spec route c.args.pattern w.union-sides.result w.union-need.result c.loop-place.place dep c.loop-place.probes.items w.push-then-not-within.new.self.items w.in_ok-probe_for-2.field-0 found
          (sym c.within.ensures.found ∙ w.if-not-within.true) w.union-sides.ensures.value w.union-need.ensures.value (c.loop-place.invariant route chooses) (w.in_ok-probe_for-2.ensures route chooses) w.in_ok-push-2.ensures.items
      | else-not-within w ↦ ap (λ (v : Vec PlannedProbe Global). v.items) w.probes-is
          ∙ update_probes_same spec route c.args.pattern c.loop-place.place dep c.loop-place.probes.items found (sym c.within.ensures.found ∙ w.if-not-within.false) (c.loop-place.invariant route chooses)
    ]
