use Rattle.std.proofs.Common.{ap, length, sym, ◌∙◌}
use Rattle.rc_spec.proofs.Imports.{ends_of, length-even_ends}
use Rattle.rc_spec.proofs.row_ends.RowEnds.len.Goals as goal

pub returns-in-Even : goal.returns-in-Even
returns-in-Even c =
    sym (length-even_ends 0 c.in-Even.width c.in-Even.rows)
    ∙ sym (ap (λ e. length (ends_of e)) c.in-Even.is)
    ∙ ap length c.self.view_is
