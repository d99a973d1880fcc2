use Rattle.std.proofs.Common.{◌≡◌, List}
use Rattle.rc_mutate.proofs.Imports.{IfOk-weaker, all_columns, Statement, IsAcceptedFor, Routing, ChoosesRoutes, IsPlanned, remove_plan, accepted_if_planned}
use Rattle.rc_mutate.proofs.WriteLemmas.{remove_planned}
use Rattle.rc_mutate.proofs.remove.plan_remove.Goals as goal

pub returns-clause-planned : goal.returns-clause-planned
returns-clause-planned c =
    let spec = c.args.accepted.now in
    let pattern = c.pattern_of.result in
    IfOk-weaker c.plan_removal.result
    (λ (plan : List Statement). (route : Routing) → ChoosesRoutes spec route → plan ≡ remove_plan spec pattern (route pattern (all_columns spec)))
    (IsPlanned spec c.args.op.now)
    (λ plan made. remove_planned spec c.pattern_of.ensures.sealed c.args.op.now pattern plan c.requires.remove c.pattern_of.ensures.value made)
    c.plan_removal.ensures

pub returns-clause-accepted : goal.returns-clause-accepted
returns-clause-accepted c =
    let spec = c.args.accepted.now in
    IfOk-weaker c.plan_removal.result (IsPlanned spec c.args.op.now) (IsAcceptedFor spec c.args.op.now) (accepted_if_planned spec c.pattern_of.ensures.sealed c.args.op.now c.requires.op.among) (returns-clause-planned c)
