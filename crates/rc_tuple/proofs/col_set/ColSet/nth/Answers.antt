use Rattle.std.proofs.Common.{◌≡◌, ◌≤◌, sym, ap, arith, ◌∙◌}
use Rattle.rc_tuple.proofs.Imports.{rank, slice_get-at_rank, slice_get-past_rank, IsColSet-from_mask}
use Rattle.rc_tuple.proofs.col_set.ColSet.nth.Goals as goal

pub returns-then-before-place-clause-value : goal.returns-then-before-place-clause-value
returns-then-before-place-clause-value c =
    slice_get-at_rank c.args.self c.loop-k.k c.args.place c.has.ensures.set (sym c.if-has.ensures.found) (sym c.loop-k.invariant.rank ∙ c.if-before-place.true)

pub returns-clause-value : goal.returns-clause-value
returns-clause-value c =
    let end : c.loop-k.k ≡ 32 = omega arith in
    let all : rank c.args.self 32 ≤ c.args.place = omega (arith, ap (rank c.args.self) end) in
    slice_get-past_rank c.args.self c.args.place (IsColSet-from_mask c.self.inside.mask c.args.self c.self.view_is) all

pub returns-clause-set : goal.returns-clause-set
returns-clause-set c = IsColSet-from_mask c.self.inside.mask c.args.self c.self.view_is
