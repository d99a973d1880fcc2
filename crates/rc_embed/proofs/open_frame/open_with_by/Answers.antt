use Rattle.rc_embed.proofs.PlanningLemmas.{refused_with_by}
use Rattle.rc_embed.proofs.open_frame.open_with_by.Goals as goal

pub returns-in-Err-clause-refused : goal.returns-in-Err-clause-refused
returns-in-Err-clause-refused c =
    refused_with_by c.args.text.now c.args.shapes.now c.args.plans.now c.args.frame.now c.tell_fault.new.self c.options.result c.options.ensures
    c.in-Err.fault c.in-Err.ensures.refused c.tell_fault.result c.tell_fault.ensures.told
