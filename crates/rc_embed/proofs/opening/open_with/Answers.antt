use Rattle.rc_embed.specs.Opened.{IsBuiltOf, IsOpenedWith}
use Rattle.rc_embed.proofs.PlanningLemmas.{opened_if, opened_with}
use Rattle.rc_embed.proofs.opening.open_with.Goals as goal

pub returns-clause-opened : goal.returns-clause-opened
returns-clause-opened c =
    let bounds = c.are_in_bounds.ensures.0 c.if-not-are_in_bounds.false in
    opened_if (IsBuiltOf c.in_ok-compiled.compiled c.args.options)
    (IsOpenedWith c.args.text.now c.args.shapes.now c.args.plans.now c.args.options) c.open_compiled.result
    c.open_compiled.ensures.store
    (opened_with c.args.text.now c.args.shapes.now c.args.plans.now c.args.options bounds c.in_ok-compiled.compiled
    c.in_ok-compiled.ensures.compiled)
