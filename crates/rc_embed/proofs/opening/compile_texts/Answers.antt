use Rattle.rc_embed.proofs.Imports.{arith, AreShort}
use Rattle.rc_embed.proofs.PlanningLemmas.{compiled_if, uncompiled_if}
use Rattle.rc_embed.proofs.opening.compile_texts.Goals as goal

pub returns-clause-compiled : goal.returns-clause-compiled
returns-clause-compiled c =
    let short : AreShort c.args.text.now c.args.shapes.now c.args.plans.now =
    record {
      of_text = omega (arith, c.if-text-gt-MAX_TEXT.false);
      of_shapes = omega (arith, c.if-shapes-gt-MAX_TEXT.false);
      of_plans = omega (arith, c.if-plans-gt-MAX_TEXT.false);
    } in
    compiled_if c.args.text.now c.args.shapes.now c.args.plans.now c.args.options c.requires short c.in_ok-accepted.accepted
    c.in_ok-accepted.ensures.reads.0 c.in_ok-accepted.ensures.reads.1 c.in_ok-accepted.ensures.named c.in_ok-further.further
    c.in_ok-further.ensures.read c.plan_embedded.result c.plan_embedded.ensures.planned c.plan_embedded.ensures.columns

pub returns-clause-refused : goal.returns-clause-refused
returns-clause-refused c =
    let short : AreShort c.args.text.now c.args.shapes.now c.args.plans.now =
    record {
      of_text = omega (arith, c.if-text-gt-MAX_TEXT.false);
      of_shapes = omega (arith, c.if-shapes-gt-MAX_TEXT.false);
      of_plans = omega (arith, c.if-plans-gt-MAX_TEXT.false);
    } in
    uncompiled_if c.args.text.now c.args.shapes.now c.args.plans.now c.args.options c.requires short c.in_ok-accepted.accepted
    c.in_ok-accepted.ensures.reads.0 c.in_ok-accepted.ensures.reads.1 c.in_ok-accepted.ensures.named c.in_ok-further.further
    c.in_ok-further.ensures.read c.plan_embedded.result c.plan_embedded.ensures.refused
