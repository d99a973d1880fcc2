use Rattle.std.proofs.Common.{◌≡◌, ◌∷◌, ap, sym, ◌∙◌, get_or, length, arith}
use Rattle.rc_spec.proofs.Imports.{ends_of, even_ends, length-even_ends, start_even}
use Rattle.rc_spec.proofs.row_ends.RowEnds.push.Goals as goal

pub even_and-requires : goal.even_and-requires
even_and-requires c =
    let even : even_ends 0 c.in-Even.width c.in-Even.rows ≡ c.args.self.now = sym (ap ends_of c.in-Even.is) ∙ c.self.view_is in
    let last = ap (λ l. get_or (0 ∷ l) (length l) 0) (sym even) in
    let rows = ap (λ n. get_or (0 ∷ even_ends 0 c.in-Even.width c.in-Even.rows) n 0) (length-even_ends 0 c.in-Even.width c.in-Even.rows) in
    let start = start_even 0 c.in-Even.width c.in-Even.rows c.in-Even.rows (omega arith) in
    let before = c.requires in
    omega (arith, last, rows, start, before)
