use Rattle.std.proofs.Common.{◌≡◌, ◌<◌, ◌≤◌, ◌*◌, ◌^◌, ◌∙◌, suc, ap, sym, subst, get_or, length, arith}
use Rattle.rc_spec.proofs.Imports.{mul-le-mul_right, suc-mul, AreInRange, ends_of, even_ends, length-even_ends, start_even}
use Rattle.rc_spec.proofs.row_ends.RowEnds.end_of.Goals as goal
use Rattle.rc_spec.proofs.row_ends.RowEnds.end_of.Goals.{In-Even}

-- the ends are those of rows of one width
even : (c : In-Even) → even_ends 0 c.in-Even.width c.in-Even.rows ≡ c.args.self.now
even c = sym (ap ends_of c.in-Even.is) ∙ c.self.view_is

within : (c : In-Even) → suc c.args.at ≤ c.in-Even.rows
within c =
    let count = ap length (even c) in
    let rows = length-even_ends 0 c.in-Even.width c.in-Even.rows in
    let few = c.requires in
    omega (arith, count, rows, few)

-- the end is a number of the machine, as that of the last row is
in_range : (c : In-Even) → suc c.args.at * c.in-Even.width < 2 ^ 64
in_range c =
    let last : c.in-Even.rows * c.in-Even.width < 2 ^ 64 = subst AreInRange c.in-Even.is c.self.invariant in
    let less = mul-le-mul_right c.in-Even.width (within c) in
    omega (arith, last, less)

pub overflow_mul-result : goal.overflow_mul-result
overflow_mul-result c =
    let range = in_range (goal.at.overflow_mul-result c).In-Even in
    let one = suc-mul c.args.at c.in-Even.width in
    omega (arith, range, one)

pub overflow_add-result : goal.overflow_add-result
overflow_add-result c =
    let range = in_range (goal.at.overflow_add-result c).In-Even in
    let one = suc-mul c.args.at c.in-Even.width in
    omega (arith, range, one)

pub returns-in-Even : goal.returns-in-Even
returns-in-Even c =
    let d = (goal.at.returns-in-Even c).In-Even in
    let end = start_even 0 c.in-Even.width c.in-Even.rows (suc c.args.at) (within d) in
    let one = suc-mul c.args.at c.in-Even.width in
    let seen = ap (λ l. get_or l c.args.at 0) (even d) in
    omega (arith, end, one, seen)
