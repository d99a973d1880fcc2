use Rattle.std.proofs.Common.{◌≤◌, ◌∙◌, ◌-◌, ◌^◌, ap, subst, arith, sym, bit_and, count_ones}
use Rattle.rc_tuple.proofs.Imports.{one_shl, IsColSet-from_mask, rank-from_mask, rank-le}
use Rattle.rc_tuple.proofs.col_set.ColSet.rank.Goals as goal

pub returns-clause-value : goal.returns-clause-value
returns-clause-value c =
    ap (λ n. count_ones (bit_and c.from.result (n - 1))) (one_shl c.args.col 64 (omega (arith, c.requires)))
    ∙ ap (λ m. count_ones (bit_and m (2 ^ c.args.col - 1))) c.from.ensures
    ∙ rank-from_mask c.self.inside.mask c.args.col c.args.self c.self.view_is c.self.invariant

pub returns-clause-bound : goal.returns-clause-bound
returns-clause-bound c = subst (λ n. n ≤ c.args.col) (sym (returns-clause-value c)) (rank-le c.args.self c.args.col)

pub returns-clause-set : goal.returns-clause-set
returns-clause-set c = IsColSet-from_mask c.self.inside.mask c.args.self c.self.view_is
