use Rattle.std.proofs.Common.{◌∙◌, ◌++◌, ap, arith, codes}
use Rattle.rc_dot.proofs.Imports.{decimal, number_line}
use Rattle.rc_dot.proofs.DotLemmas.{behind, range_more}
use Rattle.rc_dot.proofs.tables.push_number_lines.Goals as goal

pub loop-place-preserved : goal.loop-place-preserved
loop-place-preserved c =
    let place = c.loop-place.place in
    behind c.loop-place.text.items (decimal place) (codes "<br/>\n") c.push_u64.new.out.items c.push_bytes.new.out.items c.in_ok-push_u64.ensures.ok c.in_ok-push_bytes.ensures.ok
    ∙ ap (λ l. l ++ number_line place) c.loop-place.invariant
    ∙ range_more number_line c.args.text.now.items 0 place place (omega arith)
