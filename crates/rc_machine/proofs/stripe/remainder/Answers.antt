use Rattle.std.proofs.Common.{◌≡◌, ◌-◌, ◌%◌, sym, ◌∙◌, subst, arith}
use Rattle.rc_machine.proofs.Imports.{bit_and, count_ones, eqb-true, and_mask, one_bit}
use Rattle.rc_machine.proofs.stripe.remainder.Goals as goal

pub returns-then-is_power_of_two : goal.returns-then-is_power_of_two
returns-then-is_power_of_two c =
    let one : count_ones c.args.stripes ≡ 1 = eqb-true (count_ones c.args.stripes) 1 (sym c.is_power_of_two.ensures ∙ c.if-is_power_of_two.true) in
    let fits = c.ranges.stripes.fits in
    let power = one_bit c.args.stripes (omega (arith, fits)) one in
    subst (λ n. bit_and c.args.hash (n - 1) ≡ c.args.hash % n) (sym power.1) (and_mask c.args.hash power.0)
