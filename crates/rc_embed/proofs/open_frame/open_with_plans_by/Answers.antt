use Rattle.rc_embed.proofs.PlanningLemmas.{opened_unshaped, unshaped_by}
use Rattle.rc_embed.proofs.open_frame.open_with_plans_by.Goals as goal

pub returns-clause-opened : goal.returns-clause-opened
returns-clause-opened c =
    opened_unshaped c.args.text.now c.args.frame.now c.open_with_by.new.frame c.as_slice.result.now c.args.plans.now
    c.open_with_by.result c.as_slice.ensures c.open_with_by.ensures.opened

pub returns-clause-refused : goal.returns-clause-refused
returns-clause-refused c =
    unshaped_by c.args.text.now c.args.frame.now c.open_with_by.new.frame c.as_slice.result.now c.args.plans.now
    c.open_with_by.result c.as_slice.ensures c.open_with_by.ensures.refused
