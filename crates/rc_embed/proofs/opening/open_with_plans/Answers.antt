use Rattle.rc_embed.proofs.PlanningLemmas.{unshaped, without_shapes}
use Rattle.rc_embed.proofs.opening.open_with_plans.Goals as goal

pub returns-clause-opened : goal.returns-clause-opened
returns-clause-opened c =
    without_shapes c.args.text.now c.as_slice.result.now c.args.plans.now c.args.options c.open_with.result c.as_slice.ensures
    c.open_with.ensures.opened

pub returns-clause-refused : goal.returns-clause-refused
returns-clause-refused c =
    unshaped c.args.text.now c.as_slice.result.now c.args.plans.now c.args.options c.open_with.result c.as_slice.ensures
    c.open_with.ensures.refused
