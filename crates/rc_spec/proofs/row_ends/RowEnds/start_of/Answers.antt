use Rattle.std.proofs.Common.{◌≡◌, ◌<◌, ◌≤◌, ◌*◌, ◌^◌, ◌∷◌, ◌∙◌, ap, sym, subst, get_or, length, arith}
use Rattle.rc_spec.proofs.Imports.{mul-le-mul_right, AreInRange, ends_of, even_ends, length-even_ends, start_even}
use Rattle.rc_spec.proofs.row_ends.RowEnds.start_of.Goals as goal
use Rattle.rc_spec.proofs.row_ends.RowEnds.start_of.Goals.{In-Even}

-- the ends are those of rows of one width
even : (c : In-Even) → even_ends 0 c.in-Even.width c.in-Even.rows ≡ c.args.self.now
even c = sym (ap ends_of c.in-Even.is) ∙ c.self.view_is

within : (c : In-Even) → c.args.at ≤ c.in-Even.rows
within c =
    let count = ap length (even c) in
    let rows = length-even_ends 0 c.in-Even.width c.in-Even.rows in
    let few = c.requires in
    omega (arith, count, rows, few)

pub overflow_mul-result : goal.overflow_mul-result
overflow_mul-result c =
    let d = (goal.at.overflow_mul-result c).In-Even in
    let last : c.in-Even.rows * c.in-Even.width < 2 ^ 64 = subst AreInRange c.in-Even.is c.self.invariant in
    let less = mul-le-mul_right c.in-Even.width (within d) in
    omega (arith, last, less)

pub returns-in-Even : goal.returns-in-Even
returns-in-Even c =
    let d = (goal.at.returns-in-Even c).In-Even in
    let start = start_even 0 c.in-Even.width c.in-Even.rows c.args.at (within d) in
    let seen = ap (λ l. get_or (0 ∷ l) c.args.at 0) (even d) in
    omega (arith, start, seen)
