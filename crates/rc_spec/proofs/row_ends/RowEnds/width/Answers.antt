use Rattle.std.proofs.Common.{ap, length, sym, ◌∙◌}
use Rattle.rc_spec.proofs.Imports.{ends_of, even_ends, length-even_ends}
use Rattle.rc_spec.proofs.row_ends.RowEnds.width.Goals as goal

pub returns-in-Even : goal.returns-in-Even
returns-in-Even c =
    let seen = sym c.self.view_is ∙ ap ends_of c.in-Even.is in
    seen ∙ ap (even_ends 0 c.in-Even.width) (sym (ap length seen ∙ length-even_ends 0 c.in-Even.width c.in-Even.rows))
