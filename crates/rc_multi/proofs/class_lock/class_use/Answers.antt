use Rattle.std.proofs.Common.{◌≡◌, ◌∙◌, ap}
use Rattle.rc_multi.proofs.Imports.{take_all, is_within, plan_at, plan_use, chooses}
use Rattle.rc_multi.proofs.class_lock.class_use.Goals as goal

pub returns : goal.returns
returns c =
    let chosen : c.within-chosen.result ≡ chooses c.args.compiled.now.spec c.args.call.now.args c.args.class =
    c.within-chosen.ensures.found ∙ (λ i. is_within (c.class.ensures.value i).cols (c.cols.ensures.cols i)) in
    c.loop-statement.invariant
    ∙ ap (plan_use c.args.class c.within-chosen.result) (take_all c.loop-statement.statement-index c.list-statement-items.result.now c.loop-statement-test.false ∙ c.list-statement-items.ensures ∙ c.plan.ensures.value)
    ∙ ap (λ b. plan_use c.args.class b (plan_at c.args.compiled.now.plans c.args.call.now.op)) chosen
