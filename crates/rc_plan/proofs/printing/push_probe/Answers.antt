use Rattle.std.proofs.Common.{codes, sym, ap, ◌∙◌, ◌++◌}
use Rattle.rc_plan.specs.PlanText.{column_text}
use Rattle.rc_plan.proofs.TextLemmas.{column_known, text_more}
use Rattle.rc_plan.proofs.printing.push_probe.Goals as goal

pub push_column-requires : goal.push_column-requires
push_column-requires c = column_known c.args.spec.now c.args.cols c.loop-place.place c.unwrap.result c.requires (sym c.nth.ensures.value ∙ c.unwrap.ensures)

pub loop-place-preserved : goal.loop-place-preserved
loop-place-preserved c =
    c.in_ok-push_column.ensures ∙ ap (λ l. l ++ column_text c.args.spec.now c.unwrap.result) c.loop-place.invariant
    ∙ text_more (column_text c.args.spec.now) c.args.text.now.items (codes "probe") c.args.cols c.loop-place.place c.unwrap.result (sym c.nth.ensures.value ∙ c.unwrap.ensures)
