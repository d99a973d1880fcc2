use Rattle.std.proofs.Common.{◌≡◌, List}
use Rattle.rc_mutate.proofs.Imports.{IfOk-weaker, Statement, IsAcceptedFor, Routing, ChoosesRoutes, IsPlanned, update_plan, update_probes, accepted_if_planned}
use Rattle.rc_mutate.proofs.WriteLemmas.{update_planned}
use Rattle.rc_mutate.proofs.update.plan_update.Goals as goal

pub returns-clause-planned : goal.returns-clause-planned
returns-clause-planned c =
    let spec = c.args.accepted.now in
    let pattern = c.pattern_of.result in
    IfOk-weaker c.plan_replacement.result
    (λ (plan : List Statement). (route : Routing) → ChoosesRoutes spec route → plan ≡ update_plan spec pattern (update_probes spec route pattern))
    (IsPlanned spec c.args.op.now)
    (λ plan made. update_planned spec c.pattern_of.ensures.sealed c.args.op.now pattern plan c.requires.update c.pattern_of.ensures.value made)
    c.plan_replacement.ensures

pub returns-clause-accepted : goal.returns-clause-accepted
returns-clause-accepted c =
    let spec = c.args.accepted.now in
    IfOk-weaker c.plan_replacement.result (IsPlanned spec c.args.op.now) (IsAcceptedFor spec c.args.op.now) (accepted_if_planned spec c.pattern_of.ensures.sealed c.args.op.now c.requires.op.among) (returns-clause-planned c)
