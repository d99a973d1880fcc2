use Rattle.std.proofs.Common.{◌++◌, ◌∷◌, map, sym, ◌∙◌}
use Rattle.rc_audit.proofs.Imports.{codes, op_at, statement_text}
use Rattle.rc_audit.proofs.OpeningLemmas.{first_more}
use Rattle.rc_audit.proofs.opening.print_plans.Goals as goal

pub loop-op-preserved : goal.loop-op-preserved
loop-op-preserved c =
    let same = c.spec-spec.ensures.value ∙ c.accepted.ensures.value in
    let plan = c.list-in-loop-op.ensures ∙ c.plan.ensures.value in
    let so_far = c.loop-op.invariant in
    c.in_ok-push_plan.ensures
    ∙ (λ i. so_far i ++ ((codes "plan " ++ (op_at (same i) c.loop-op.op).name) ∷ map (statement_text (same i)) (plan i)))
    ∙ sym (first_more c.args.compiled.now c.loop-op.op)
