use Rattle.rc_embed.proofs.Imports.{IfOk, IsOpened}
use Rattle.rc_embed.proofs.PlanningLemmas.{none_refused, plans_planned, unshaped, without_plans, without_shapes}
use Rattle.rc_embed.proofs.opening.open.Goals.{After-open_with}
use Rattle.rc_embed.proofs.opening.open.Goals as goal

opened : (c : After-open_with) → IfOk c.open_with.result (IsOpened c.args.text.now c.args.options)
opened c =
    without_plans c.args.text.now c.as_slice-2.result.now c.args.options c.open_with.result c.as_slice-2.ensures
    (without_shapes c.args.text.now c.as_slice.result.now c.as_slice-2.result.now c.args.options c.open_with.result
    c.as_slice.ensures c.open_with.ensures.opened)

pub returns-clause-opened : goal.returns-clause-opened
returns-clause-opened c = opened (goal.at.returns-clause-opened c).After-open_with

pub returns-clause-planned : goal.returns-clause-planned
returns-clause-planned c =
    plans_planned c.args.text.now c.args.options c.open_with.result (opened (goal.at.returns-clause-planned c).After-open_with)

pub returns-clause-refused : goal.returns-clause-refused
returns-clause-refused c =
    none_refused c.args.text.now c.as_slice-2.result.now c.args.options c.open_with.result c.as_slice-2.ensures
    (unshaped c.args.text.now c.as_slice.result.now c.as_slice-2.result.now c.args.options c.open_with.result c.as_slice.ensures
    c.open_with.ensures.refused)
