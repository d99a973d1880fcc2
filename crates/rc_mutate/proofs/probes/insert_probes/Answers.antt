use Rattle.std.proofs.Common.{◌≡◌, ◌∙◌, ◌+◌, ap, sym, subst, Vec, Global}
use Rattle.rc_mutate.proofs.Imports.{Dep, Within, all_columns, dep_at, PlannedProbe, union_some}
use Rattle.rc_mutate.proofs.WriteLemmas.{dep_found, dep_among, need_known, probes_same, probes_more}
use Rattle.rc_mutate.proofs.probes.insert_probes.Goals as goal
use Rattle.rc_mutate.proofs.probes.insert_probes.Goals.{then-not-within+in_ok-probe_for-2+in_ok-push-2, else-not-within}

pub probe_for-requires-then-not-within-clause-some : goal.probe_for-requires-then-not-within-clause-some
probe_for-requires-then-not-within-clause-some c = λ e.
    let dep : Dep = c.index-deps-place.result in
    union_some dep.left dep.right
    (dep_among c.args.accepted.now c.spec.result.now c.list-deps.result.now c.loop-place.place dep c.spec.ensures.sealed c.spec.ensures.value c.list-deps.ensures c.loop-place-test.true c.index-deps-place.is).has_right
    (sym c.union-need.ensures.value ∙ e)

pub probe_for-requires-then-not-within-clause-known : goal.probe_for-requires-then-not-within-clause-known
probe_for-requires-then-not-within-clause-known c =
    let dep : Dep = c.index-deps-place.result in
    subst (λ z. Within z (all_columns c.args.accepted.now)) (sym c.union-need.ensures.value)
    (need_known c.args.accepted.now dep
    (dep_among c.args.accepted.now c.spec.result.now c.list-deps.result.now c.loop-place.place dep c.spec.ensures.sealed c.spec.ensures.value c.list-deps.ensures c.loop-place-test.true c.index-deps-place.is))

pub loop-place-preserved : goal.loop-place-preserved
loop-place-preserved c = λ route chooses.
    let spec = c.args.accepted.now in
    let dep : Dep = c.index-deps-place.result in
    let found : dep_at spec (c.loop-place.place + 1) ≡ dep = dep_found spec c.spec.result.now c.list-deps.result.now c.loop-place.place dep c.spec.ensures.value c.list-deps.ensures c.loop-place-test.true c.index-deps-place.is in
    elim c.if-not-within.branch [
      | then-not-within+in_ok-probe_for-2+in_ok-push-2 w ↦ ap (λ (v : Vec PlannedProbe Global). v.items) w.probes-is
          ∙ probes_more spec route c.args.pattern w.union-need.result c.loop-place.place dep c.loop-place.probes.items w.push-then-not-within.new.self.items w.in_ok-probe_for-2.field-0 found
          (sym c.within.ensures.found ∙ w.if-not-within.true) w.union-need.ensures.value (c.loop-place.invariant route chooses) (w.in_ok-probe_for-2.ensures route chooses) w.in_ok-push-2.ensures.items
      | else-not-within w ↦ ap (λ (v : Vec PlannedProbe Global). v.items) w.probes-is
          ∙ probes_same spec route c.args.pattern c.loop-place.place dep c.loop-place.probes.items found (sym c.within.ensures.found ∙ w.if-not-within.false) (c.loop-place.invariant route chooses)
    ]
