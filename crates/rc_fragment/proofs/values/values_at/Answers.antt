use Rattle.std.proofs.Common.{arith}
use Rattle.rc_fragment.proofs.NoteLemmas.{values_shorter}
use Rattle.rc_fragment.proofs.values.values_at.Goals as goal

pub push_values-requires : goal.push_values-requires
push_values-requires c = omega (arith, c.in_ok-values.ensures.len, c.in_ok-values.ensures.capacity, values_shorter c.args.cols c.pairs-pairs.result.now)
