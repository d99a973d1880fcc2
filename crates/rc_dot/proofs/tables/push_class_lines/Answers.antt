use Rattle.std.proofs.Common.{◌∙◌, ◌++◌, ap, arith}
use Rattle.rc_dot.specs.Dot.{class_line}
use Rattle.rc_dot.proofs.DotLemmas.{range_more}
use Rattle.rc_dot.proofs.tables.push_class_lines.Goals as goal

pub loop-class-preserved : goal.loop-class-preserved
loop-class-preserved c =
    let spec = c.args.accepted.now in
    let class = c.loop-class.class in
    c.in_ok-push_class_line.ensures ∙ ap (λ l. l ++ class_line spec class) c.loop-class.invariant
    ∙ range_more (class_line spec) c.args.text.now.items 0 class class (omega arith)
