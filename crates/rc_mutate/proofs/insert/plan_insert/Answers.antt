use Rattle.std.proofs.Common.{◌≡◌, ◌∙◌, List, sym}
use Rattle.rc_mutate.proofs.Imports.{IfOk-weaker, Statement, gather_some, IsAcceptedFor, Routing, ChoosesRoutes, IsPlanned, insert_plan, insert_probes, accepted_if_planned}
use Rattle.rc_mutate.proofs.WriteLemmas.{insert_planned}
use Rattle.rc_mutate.proofs.insert.plan_insert.Goals as goal

pub plan_insertion-requires-clause-some : goal.plan_insertion-requires-clause-some
plan_insertion-requires-clause-some c = λ e.
    gather_some c.args.op.now.pattern (c.requires.op.keeps.o1 c.requires.insert) (sym c.pattern_of.ensures.value ∙ e)

pub returns-clause-planned : goal.returns-clause-planned
returns-clause-planned c =
    let spec = c.args.accepted.now in
    let pattern = c.pattern_of.result in
    IfOk-weaker c.plan_insertion.result
    (λ (plan : List Statement). (route : Routing) → ChoosesRoutes spec route → plan ≡ insert_plan spec (insert_probes spec route pattern))
    (IsPlanned spec c.args.op.now)
    (λ plan made. insert_planned spec c.pattern_of.ensures.sealed c.args.op.now pattern plan c.requires.insert c.pattern_of.ensures.value made)
    c.plan_insertion.ensures

pub returns-clause-accepted : goal.returns-clause-accepted
returns-clause-accepted c =
    let spec = c.args.accepted.now in
    IfOk-weaker c.plan_insertion.result (IsPlanned spec c.args.op.now) (IsAcceptedFor spec c.args.op.now) (accepted_if_planned spec c.pattern_of.ensures.sealed c.args.op.now c.requires.op.among) (returns-clause-planned c)
